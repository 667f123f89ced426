use Rattle.std.proofs.Common.{◌≡◌, ◌++◌, drop, map}
use Rattle.lk_place.proofs.regions.origins.Given as goal

-- the origins so far, followed by those of the regions that are left, are all
abbrev pub invariant-loop-region : goal.invariant-loop-region
invariant-loop-region l = l.table.items ++ map (λ r. r.0) (drop l.region-index l.regions) ≡ map (λ r. r.0) l.regions
