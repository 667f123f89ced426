use Rattle.std.proofs.Common.{◌≡◌, map}
use Rattle.lk_link.specs.Walks.{input_of}
use Rattle.lk_deltas.specs.LinkDeletions.{size_after}
use Rattle.lk_relax.proofs.deletions.sizes_after.Given as goal

-- the sizes of the sections so far
abbrev pub invariant-loop-input : goal.invariant-loop-input
invariant-loop-input l = l.sizes.items ≡ map (size_after l.link.groups l.deltas) (map input_of l.yielded)
