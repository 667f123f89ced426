-- Sections in memory regions: in which a section stands, where each region goes on, and what lies outside it.
use Rattle.std.specs.Prelude.{ℕ, ◌+◌, ◌-◌, ◌==◌, ◌||◌, Bool, false, if◌then◌else◌, List, nat_lt, Option, None, Some, Result, Ok, Err, position, slice_get, take, unwrap_or, ◌<◌}
use Rattle.std.specs.List.{enumerate_from, filter_map, last_or}
use Rattle.std.specs.Option.{option_map_or}
use Rattle.std.specs.Str.{bytes_eq}
use Rattle.lk_link.specs.declared.plan.OrderEvent.{OrderEvent}
use Rattle.lk_link.specs.declared.plan.Plan.{Plan}
use Rattle.lk_link.specs.declared.plan.Region.{Region}
use Rattle.lk_link.specs.Inside.{placed_section}
use Rattle.lk_link.specs.PlanSections.{section_at}
use Rattle.lk_place.specs.declared.cursors.Cursors.{Cursors}
use Rattle.lk_place.specs.declared.error.Refusal.{Refusal}
use Rattle.lk_place.specs.declared.error.Refusal.TheVariants.{Outside, Past, Undeclared}
use Rattle.lk_place.specs.declared.regions.SectionRegion.{SectionRegion}
use Rattle.lk_place.specs.declared.regions.SectionRegion.TheVariants as region
use Rattle.lk_place.specs.Regions.{given_regions, regions_of}
use Rattle.lk_place.specs.Setting.{Setting}

-- ---- the region of a section

-- the region with this number, if there is one
abbrev pub numbered_region : Option ℕ → SectionRegion
numbered_region None = region.Undeclared
numbered_region (Some r) = region.Within r

-- the region of a name, if there is a name
abbrev pub named_region : List Region → Option (List ℕ) → SectionRegion
named_region regions None = region.Free
named_region regions (Some name) = numbered_region (position (λ r. bytes_eq r.name name) regions)

-- the region in which a section stands
abbrev pub stands_in : Plan → ℕ → SectionRegion
stands_in plan s = named_region plan.regions (section_at plan.sections s).region

-- whether that is region r
abbrev pub is_within : SectionRegion → ℕ → Bool
is_within region.Free r = false
is_within region.Undeclared r = false
is_within (region.Within q) r = q == r

-- it is one of some
abbrev pub IsAmong : ℕ → SectionRegion → Type 0
IsAmong count region.Free = Unit {0}
IsAmong count region.Undeclared = Unit {0}
IsAmong count (region.Within r) = r < count

-- origin and length of region r
abbrev pub span_of : Setting → ℕ → ℕ × ℕ
span_of setting r = unwrap_or (slice_get (given_regions (regions_of setting.plan.regions)) r) (0, 0)

-- ---- what is used of a region

-- whether an event places a section in region r
abbrev pub places_in : Plan → ℕ → Option OrderEvent → Bool
places_in plan r None = false
places_in plan r (Some e) = option_map_or (λ s. is_within (stands_in plan s) r) (placed_section e) false

-- the number of an event, if it places a section in region r
abbrev pub placing_in : Plan → ℕ → ℕ × OrderEvent → Option ℕ
placing_in plan r q = if places_in plan r (Some q.1) then Some q.0 else None

-- that of the event before event n that places a section in region r last, if one does
abbrev pub last_in : Plan → ℕ → ℕ → Option ℕ
last_in plan r n = last_or None (filter_map (placing_in plan r) (take n (enumerate_from 0 plan.events)))

-- where region r goes on before event n, by the memory cursor before each event: behind the section that was placed in it last, at its
-- origin where none was
abbrev pub goes_on_by : Setting → (ℕ → ℕ) → ℕ → ℕ → ℕ
goes_on_by setting memory n r = option_map_or (λ k. memory (k + 1)) (last_in setting.plan r n) (span_of setting r).0

-- ---- the steps of a section

-- memory goes on where the section's region does, if it stands in one
abbrev pub in_region : (ℕ → ℕ) → ℕ → SectionRegion → Cursors → Result Cursors Refusal
in_region goes_on s region.Free from = Ok from
in_region goes_on s region.Undeclared from = Err (Undeclared s)
in_region goes_on s (region.Within r) from = Ok (record from { memory = goes_on r })

-- a location lies outside a region where it is below memory, or more than the region's length above it
abbrev pub lies_outside : ℕ → ℕ → ℕ → Bool
lies_outside memory size l = nat_lt l memory || nat_lt (memory + size) l

-- a location that waits lies inside the region of the section that is to take it
abbrev pub inside_region : Setting → SectionRegion → Cursors → Option ℕ → Result Cursors Refusal
inside_region setting region.Free from waiting = Ok from
inside_region setting region.Undeclared from waiting = Ok from
inside_region setting (region.Within r) from None = Ok from
inside_region setting (region.Within r) from (Some l) = if lies_outside from.memory (span_of setting r).1 l then Err (Outside l) else Ok from

-- memory stands past the end of region r
abbrev pub past_end : Setting → ℕ → ℕ → Option Refusal
past_end setting r memory =
    let end = (span_of setting r).0 + (span_of setting r).1 in
    if nat_lt end memory then Some (Past r (memory - end)) else None

-- of the section's region, if it stands in one
abbrev pub past_region : Setting → SectionRegion → ℕ → Option Refusal
past_region setting region.Free memory = None
past_region setting region.Undeclared memory = None
past_region setting (region.Within r) memory = past_end setting r memory
