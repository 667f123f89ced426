-- What is placed before an event, by a table of the events that place parts. Contracts of private functions speak of it.
use Rattle.std.specs.Prelude.{◌≡◌, ℕ, ◌+◌, ◌&&◌, ◌<◌, Bool, false, if◌then◌else◌, List, length, nat_le, nat_lt, Option, Some, None, slice_get, slice_index}
use Rattle.std.specs.Option.{option_map_or}
use Rattle.lk_link.specs.declared.plan.OrderEvent.{OrderEvent}
use Rattle.lk_link.specs.declared.plan.OrderEvent.TheVariants.{Section}
use Rattle.lk_link.specs.declared.plan.Plan.{Plan}
use Rattle.lk_link.specs.declared.plan.PlanSection.{PlanSection}
use Rattle.lk_link.specs.Inside.{placed_section}
use Rattle.lk_link.specs.Parts.{all_parts, first_part}
use Rattle.lk_expressions.specs.Records.{Record}
use Rattle.lk_place.specs.Segments.{hull, part_records}
use Rattle.lk_place.specs.Setting.{part_count, part_number}

-- a table of the events that place the parts of each section that one of the first n events places
pub record ArePlacedAt (plan : Plan) (n : ℕ) (table : List ℕ) : Type 0 where
  pub count : length table ≡ length (all_parts plan.sections)
  pub each : (k s j : ℕ) → k < n → slice_get plan.events k ≡ Some (Section s) → j < part_count plan.sections s → slice_index table (part_number plan.sections s j) ≡ k

-- the section that an event places, if it places one, is there
abbrev pub IsPlacedInRange : List PlanSection → OrderEvent → Type 0
IsPlacedInRange sections e = (s : ℕ) → placed_section e ≡ Some s → s < length sections

-- whether the part with this number is placed before event n
abbrev pub is_before : List ℕ → ℕ → ℕ → Bool
is_before table n p = option_map_or (λ k. nat_lt k n) (slice_get table p) false

-- its record, if it is
abbrev pub part_before : List ℕ → List Record → ℕ → ℕ → Option Record
part_before table records n p = if is_before table n p then slice_get records p else None

-- what a section spans, if its first part is
abbrev pub section_before : List PlanSection → List ℕ → List Record → ℕ → ℕ → Option Record
section_before sections table records n s =
    if nat_lt s (length sections) && (nat_le (first_part sections (s + 1)) (length records) && is_before table n (first_part sections s))
    then Some (hull (part_records sections records s)) else None
