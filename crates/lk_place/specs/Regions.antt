-- Memory regions: each has a name of its own, an origin and a length.
use Rattle.std.specs.Prelude.{◌≡◌, ℕ, ◌+◌, Bool, if◌then◌else◌, List, [], ◌∷◌, Result, Ok, Err, take}
use Rattle.std.specs.List.{list_any}
use Rattle.std.specs.Str.{bytes_eq}
use Rattle.lk_link.specs.declared.fault.Place.TheVariants as place
use Rattle.lk_link.specs.declared.plan.Region.{Region}
use Rattle.lk_place.specs.declared.error.PlaceError.{PlaceError}
use Rattle.lk_place.specs.declared.error.PlaceError.TheVariants.{Expression, NoMemory, RegionDuplicate}
use Rattle.lk_expressions.specs.declared.no_value.NoValue.{NoValue}
use Rattle.lk_expressions.specs.Expressions.{IsShallow, ◌>>=◌, expression_value}
use Rattle.lk_expressions.specs.Surroundings.{number_alone}

-- whether one of some regions has a name
abbrev pub is_declared : List Region → List ℕ → Bool
is_declared regions name = list_any (λ r. bytes_eq r.name name) regions

-- a region's origin and length, by numbers and arithmetic alone
abbrev pub region_value : Region → Result (ℕ × ℕ) NoValue
region_value r = do
  origin ← expression_value number_alone r.origin
  length ← expression_value number_alone r.length
  Ok (origin, length)

-- the same, with the refusal of an expression of region i
abbrev pub valued_region : ℕ → Result (ℕ × ℕ) NoValue → Result (ℕ × ℕ) PlaceError
valued_region i (Ok value) = Ok value
valued_region i (Err cause) = Err (Expression (place.Region i) cause)

-- region i: its name isn't that of an earlier one, and its expressions have values
abbrev pub region_of : List Region → ℕ → Region → Result (ℕ × ℕ) PlaceError
region_of regions i r = if is_declared (take i regions) r.name then Err (RegionDuplicate i) else valued_region i (region_value r)

-- what all give that are numbered from here on, or the first refusal
unfoldable pub all_given : {A X : Type 0} → (ℕ → A → Result X PlaceError) → ℕ → List A → Result (List X) PlaceError
all_given f i [] = Ok []
all_given f i (a ∷ later) = f i a >>= λ x. all_given f (i + 1) later >>= λ xs. Ok (x ∷ xs)

-- origin and length of each region, or the first refusal
abbrev pub regions_of : List Region → Result (List (ℕ × ℕ)) PlaceError
regions_of regions = all_given (region_of regions) 0 regions

-- origin and length of each region, where none is refused
abbrev pub given_regions : Result (List (ℕ × ℕ)) PlaceError → List (ℕ × ℕ)
given_regions (Ok regions) = regions
given_regions (Err e) = []

-- or want of memory
abbrev pub GivesRegions : Result (List (ℕ × ℕ)) PlaceError → List Region → Type 0
GivesRegions (Err NoMemory) regions = Unit {0}
GivesRegions result regions = result ≡ regions_of regions

-- the expressions of a region aren't too deep
abbrev pub IsShallowRegion : Region → Type 0
IsShallowRegion r = IsShallow r.origin × IsShallow r.length
