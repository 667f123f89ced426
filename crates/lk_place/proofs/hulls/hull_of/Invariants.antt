use Rattle.std.proofs.Common.{◌≡◌, drop, None, fold}
use Rattle.lk_place.specs.Hulls.{with_record}
use Rattle.lk_place.proofs.hulls.hull_of.Given as goal

-- what reaches over those so far, joined with what is left, reaches over all
abbrev pub invariant-loop-one : goal.invariant-loop-one
invariant-loop-one l = fold with_record l.all (drop l.one-index l.records) ≡ fold with_record None l.records
