use Rattle.std.proofs.Common.{◌≡◌, map}
use Rattle.std.specs.List.{range_with_len}
use Rattle.lk_sizes.proofs.Emitting.{attributes_by}
use Rattle.lk_sizes.proofs.attributes.attributes_of_contents.Given as goal

-- the attributes of the sections so far
abbrev pub invariant-loop-number : goal.invariant-loop-number
invariant-loop-number l = l.all.items ≡ map (attributes_by l.plan l.contents) (range_with_len 0 l.number)
