use Rattle.std.proofs.Common.{◌≡◌, ◌+◌, ◌<◌, ◌^◌, length}
use Rattle.lk_link.specs.Walks.{inputs_left}
use Rattle.lk_link.proofs.walks.InputsIterator.next.Given as goal

-- only files without sections were passed over
abbrev pub invariant-loop-self : goal.invariant-loop-self
invariant-loop-self l =
    (l.self-inside.index + length l.self-inside.sections.now < 2 ^ 64)
    × (inputs_left l.self-inside.file l.self-inside.index l.self-inside.sections.now l.self-inside.files ≡ l.fn.self)

abbrev pub decreases-loop-self : goal.decreases-loop-self
decreases-loop-self l = length l.self-inside.files
