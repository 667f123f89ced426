use Rattle.std.proofs.Common.{◌≡◌, drop, fold, map}
use Rattle.std.specs.Prelude.{bit_or}
use Rattle.lk_sizes.proofs.attributes.join.Given as goal

-- those so far, joined with those of the parts that are left, are all
abbrev pub invariant-loop-part : goal.invariant-loop-part
invariant-loop-part l = fold bit_or l.all (map (λ c. c.attrs) (drop l.part-index l.parts)) ≡ fold bit_or l.fn.attrs (map (λ c. c.attrs) l.parts)
