-- The names of regions. Contracts of private functions speak of it.
use Rattle.std.specs.Prelude.{◌≡◌, ℕ, Bool, false, List, Some, slice_get, take}
use Rattle.std.specs.Option.{option_map_or}
use Rattle.std.specs.Str.{bytes_eq}
use Rattle.lk_link.specs.declared.plan.Region.{Region}
use Rattle.lk_place.specs.Regions.{is_declared}

-- none has the name of an earlier one
abbrev pub HaveOwnNames : List Region → Type 0
HaveOwnNames regions = (i : ℕ) (r : Region) → slice_get regions i ≡ Some r → is_declared (take i regions) r.name ≡ false

-- whether there is a region with this number, and this is its name
abbrev pub is_named : List Region → List ℕ → ℕ → Bool
is_named regions name i = option_map_or (λ r. bytes_eq r.name name) (slice_get regions i) false
