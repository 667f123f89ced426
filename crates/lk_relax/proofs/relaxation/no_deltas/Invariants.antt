use Rattle.std.proofs.Common.{◌≡◌, [], map}
use Rattle.lk_link.specs.Walks.{file_of}
use Rattle.lk_relax.specs.Stages.{file_entries}
use Rattle.lk_relax.proofs.relaxation.no_deltas.Given as goal

-- empty ones for the files so far
abbrev pub invariant-loop-file : goal.invariant-loop-file
invariant-loop-file l = l.deltas.items ≡ map (file_entries (λ _. [])) (map file_of l.yielded)
