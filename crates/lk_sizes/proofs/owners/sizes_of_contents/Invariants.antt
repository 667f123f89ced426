use Rattle.std.proofs.Common.{◌≡◌, ◌++◌, drop, map}
use Rattle.lk_sizes.proofs.owners.sizes_of_contents.Given as goal

-- the sizes so far, followed by those of the parts that are left, are all
abbrev pub invariant-loop-part : goal.invariant-loop-part
invariant-loop-part l = l.sizes.items ++ map (λ c. c.bytes) (drop l.part-index l.contents) ≡ map (λ c. c.bytes) l.contents
