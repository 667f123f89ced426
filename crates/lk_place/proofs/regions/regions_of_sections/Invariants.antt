use Rattle.std.proofs.Common.{◌≡◌, ◌++◌, drop, map}
use Rattle.lk_place.specs.InRegions.{named_region}
use Rattle.lk_place.proofs.regions.regions_of_sections.Given as goal

-- the regions of the sections so far, followed by those of the sections that are left, are all
abbrev pub invariant-loop-section : goal.invariant-loop-section
invariant-loop-section l =
    l.table.items ++ map (λ s. named_region l.plan.regions s.region) (drop l.section-index l.plan.sections) ≡ map (λ s. named_region l.plan.regions s.region) l.plan.sections
