use Rattle.std.proofs.Common.{◌≡◌, drop, map}
use Rattle.std.specs.Prelude.{filter}
use Rattle.lk_place.specs.Alignments.{greatest_of}
use Rattle.lk_expressions.specs.Records.{is_filled}
use Rattle.lk_place.proofs.hulls.greatest_filled.Given as goal

-- the greatest so far and of what is left is the greatest of all
abbrev pub invariant-loop-one : goal.invariant-loop-one
invariant-loop-one l = greatest_of l.greatest (map (λ r. r.alignment) (filter is_filled (drop l.one-index l.records))) ≡ greatest_of l.fn.least (map (λ r. r.alignment) (filter is_filled l.records))
