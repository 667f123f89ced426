-- What is placed before an event, and what expressions read of it there.
use Rattle.std.specs.Prelude.{ℕ, ◌+◌, ◌==◌, ◌&&◌, Bool, false, if◌then◌else◌, List, nat_le, nat_lt, Option, Some, None, Result, Ok, Err, take, unwrap_or}
use Rattle.std.specs.List.{filter_map, last_or, list_any}
use Rattle.std.specs.Option.{option_map_or}
use Rattle.lk_link.specs.declared.plan.OrderEvent.{OrderEvent}
use Rattle.lk_link.specs.declared.plan.Plan.{Plan}
use Rattle.lk_link.specs.declared.plan.PlanSection.{PlanSection}
use Rattle.lk_link.specs.Expressions.{Term}
use Rattle.lk_link.specs.Inside.{placed_section}
use Rattle.lk_link.specs.Parts.{first_part}
use Rattle.lk_place.specs.declared.cursors.Cursors.{Cursors}
use Rattle.lk_place.specs.declared.error.Refusal.{Refusal}
use Rattle.lk_place.specs.declared.error.Refusal.TheVariants.{NoValue}
use Rattle.lk_expressions.specs.Expressions.{Valued, expression_value}
use Rattle.lk_expressions.specs.Records.{Record, record_at}
use Rattle.lk_place.specs.Regions.{given_regions, regions_of}
use Rattle.lk_place.specs.Segments.{hull, part_records}
use Rattle.lk_place.specs.Setting.{Setting, part_count}
use Rattle.lk_place.specs.Start.{constants_by}
use Rattle.lk_expressions.specs.Surroundings.{Early, early_operand}

-- ---- what is placed

-- whether part p is one of n from the first on
abbrev pub lies_in : ℕ → ℕ → ℕ → Bool
lies_in first n p = nat_le first p && nat_lt p (first + n)

-- whether an event places this section
abbrev pub is_placing : ℕ → OrderEvent → Bool
is_placing s e = option_map_or (λ t. t == s) (placed_section e) false

-- whether it places a section with this part
abbrev pub is_placing_part : List PlanSection → ℕ → OrderEvent → Bool
is_placing_part sections p e = option_map_or (λ t. lies_in (first_part sections t) (part_count sections t) p) (placed_section e) false

-- whether one of the first n events places a section with this part
abbrev pub is_placed_before : Plan → ℕ → ℕ → Bool
is_placed_before plan n p = list_any (is_placing_part plan.sections p) (take n plan.events)

-- by their numbers, what sections span and the records of parts, of those that are placed
pub record PlacedRecords : Type 0 where
  pub section : ℕ → Option Record
  pub part : ℕ → Option Record

-- what stands before event n: what the events before it place, by the records of all parts
abbrev pub standing_before : Plan → List Record → ℕ → PlacedRecords
standing_before plan records n = record {
  section = λ s. if list_any (is_placing s) (take n plan.events) then Some (hull (part_records plan.sections records s)) else None;
  part = λ p. if is_placed_before plan n p then Some (record_at records p) else None;
}

-- the section that is placed last before event n, if any is
abbrev pub last_before : List OrderEvent → ℕ → Option ℕ
last_before events n = last_or None (filter_map placed_section (take n events))

-- what is known at an event: what stands, the section that was placed last, and where each region goes on
pub record Known : Type 0 where
  pub standing : PlacedRecords
  pub last : Option ℕ
  pub goes_on : ℕ → ℕ

-- ---- expressions

-- where the location counter is: at a location that no section has taken, else at memory
abbrev pub dot_of : Cursors → ℕ
dot_of c = unwrap_or c.pending c.memory

-- what an operand may speak of while sections are placed
abbrev pub early_known : Setting → PlacedRecords → ℕ → Early
early_known setting standing dot = record {
  groups = setting.groups;
  dot = dot;
  headers = setting.headers;
  regions = given_regions (regions_of setting.plan.regions);
  constants = constants_by setting.groups setting.headers (given_regions (regions_of setting.plan.regions));
  section = standing.section;
  part = standing.part;
  positions = setting.positions;
}

-- the value of an expression at these cursors
abbrev pub early_value : Setting → PlacedRecords → Cursors → Term → Valued
early_value setting standing from e = expression_value (early_operand (early_known setting standing (dot_of from))) e

-- a value, or the refusal of an expression that has none
abbrev pub refusing : Valued → Result ℕ Refusal
refusing (Ok n) = Ok n
refusing (Err cause) = Err (NoValue cause)

-- the value of an expression at these cursors, or the refusal
abbrev pub value_at : Setting → PlacedRecords → Cursors → Term → Result ℕ Refusal
value_at setting standing from e = refusing (early_value setting standing from e)
