-- What is placed inside the segments of a plan.
use Rattle.std.specs.Prelude.{◌≡◌, ℕ, ◌&&◌, not, Bool, true, if◌then◌else◌, List, Option, Some, None, map, take, slice_get}
use Rattle.std.specs.List.{enumerate_from, filter_map, list_any}
use Rattle.lk_link.specs.declared.plan.OrderEvent.{OrderEvent}
use Rattle.lk_link.specs.declared.plan.OrderEvent.TheVariants.{Section}
use Rattle.lk_link.specs.declared.plan.Plan.{Plan}
use Rattle.lk_link.specs.Rules.{is_start, is_end}

-- whether segment i is open behind these events
abbrev pub is_open : ℕ → List OrderEvent → Bool
is_open i before = list_any (is_start i) before && not (list_any (is_end i) before)

-- event k places section s while segment i is open
pub record PlacesInside (events : List OrderEvent) (i s k : ℕ) : Type 0 where
  pub here : slice_get events k ≡ Some (Section s)
  pub inside : is_open i (take k events) ≡ true

-- the section that an event places, if it places one
abbrev pub placed_section : OrderEvent → Option ℕ
placed_section (Section s) = Some s
placed_section _ = None

-- the section that an event with its number places, where segment i is open then
abbrev pub placed_inside : List OrderEvent → ℕ → ℕ × OrderEvent → Option ℕ
placed_inside events i q = if is_open i (take q.0 events) then placed_section q.1 else None

-- the sections of the events at which segment i is open, in order
abbrev pub sections_inside : List OrderEvent → ℕ → List ℕ
sections_inside events i = filter_map (placed_inside events i) (enumerate_from 0 events)

-- the sections inside each segment, by number
abbrev pub segment_insides : Plan → List (List ℕ)
segment_insides plan = map (λ q. sections_inside plan.events q.0) (enumerate_from 0 plan.segments)
