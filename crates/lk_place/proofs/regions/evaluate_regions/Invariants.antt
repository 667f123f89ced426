use Rattle.std.proofs.Common.{◌≡◌, drop}
use Rattle.lk_place.specs.Regions.{all_given, region_of, regions_of}
use Rattle.lk_place.proofs.GivenLists.{behind}
use Rattle.lk_place.proofs.regions.evaluate_regions.Given as goal

-- the values so far, and what the regions that are left give
abbrev pub invariant-loop-number : goal.invariant-loop-number
invariant-loop-number l =
    behind l.values.items (all_given (region_of l.regions) l.number (drop l.number l.regions)) ≡ regions_of l.regions
