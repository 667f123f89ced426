use Rattle.std.proofs.Common.{◌≡◌, length}
use Rattle.lk_link.specs.Walks.{files_left, AreFewLeft}
use Rattle.lk_link.proofs.walks.FilesIterator.next.Given as goal

-- only groups without files were passed over
abbrev pub invariant-loop-self : goal.invariant-loop-self
invariant-loop-self l =
    AreFewLeft l.self-inside.group l.self-inside.file l.self-inside.files.now l.self-inside.groups.now
    × (files_left l.self-inside.group l.self-inside.file l.self-inside.files.now l.self-inside.groups.now ≡ l.fn.self)

abbrev pub decreases-loop-self : goal.decreases-loop-self
decreases-loop-self l = length l.self-inside.groups.now
