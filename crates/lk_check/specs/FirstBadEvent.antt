-- The first event at which the rule on events is broken.
use Rattle.std.specs.Prelude.{ℕ, zero, suc, ◌&&◌, not, Bool, true, List, Option, length, nat_lt, take}
use Rattle.std.specs.List.{list_any}
use Rattle.lk_link.specs.declared.plan.Plan.{Plan}
use Rattle.lk_link.specs.declared.plan.OrderEvent.{OrderEvent}
use Rattle.lk_link.specs.declared.plan.OrderEvent.TheVariants.{SegmentStart, SegmentEnd, Section, SetLocation, SetLocationRelative}
use Rattle.lk_link.specs.Rules.{is_section, is_start, is_end}
use Rattle.lk_link.specs.Files.{first_some}
use Rattle.lk_check.specs.FirstAnswer.{first_bad_at, where_not}

-- whether an event may stand behind those before it: what it names is there, nothing is named twice, a segment closes
-- after it opened, and the location counter moves only where a script is
unfoldable pub is_good_event : Bool → Plan → List OrderEvent → OrderEvent → Bool
is_good_event script plan before (Section s) = nat_lt s (length plan.sections) && not (list_any (is_section s) before)
is_good_event script plan before (SegmentStart i) = nat_lt i (length plan.segments) && not (list_any (is_start i) before)
is_good_event script plan before (SegmentEnd i) = list_any (is_start i) before && not (list_any (is_end i) before)
is_good_event script plan before (SetLocation e) = script
is_good_event script plan before (SetLocationRelative e s) = script && nat_lt s (length plan.sections)
is_good_event script plan before _ = true

-- whether each number below n passes
unfoldable pub all_below : (ℕ → Bool) → ℕ → Bool
all_below p zero = true
all_below p (suc n) = p n && all_below p n

-- each section is placed, and each segment opened and closed
abbrev pub is_complete : Plan → Bool
is_complete plan = all_below (λ s. list_any (is_section s) plan.events) (length plan.sections)
    && all_below (λ i. list_any (is_start i) plan.events) (length plan.segments)
    && all_below (λ i. list_any (is_end i) plan.events) (length plan.segments)

-- where the rule on events is broken first; what is missing is missing at the end
abbrev pub first_bad_event : Bool → Plan → Option ℕ
first_bad_event script plan =
    first_some (first_bad_at (λ e. is_good_event script plan (take e.0 plan.events) e.1) plan.events) (where_not (is_complete plan) (length plan.events))
