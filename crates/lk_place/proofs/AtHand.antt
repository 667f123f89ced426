-- An expression of a walk has one value, by the constants that are at hand and by all.
use Rattle.std.proofs.Common.{◌≡◌, true, List, Option, ap, sym, ◌∙◌, inl, inr}
use Rattle.std.specs.Prelude.{◌&&◌}
use Rattle.std.specs.List.{list_all}
use Rattle.std.specs.Option.{option_map_or}
use Rattle.std.proofs.lemmas.Bool.{and_parts, cases_Bool}
use Rattle.lk_link.specs.declared.link.LinkInput.{LinkInput}
use Rattle.lk_link.specs.declared.plan.OrderEvent.{OrderEvent}
use Rattle.lk_link.specs.declared.plan.OrderEvent.TheVariants.{SegmentStart, SegmentEnd, Section, SetLocation, SetLocationRelative, SetSectionAddress}
use Rattle.lk_link.specs.declared.plan.Plan.{Plan}
use Rattle.lk_link.specs.Expressions.{Term}
use Rattle.lk_link.proofs.Places.{all_at}
use Rattle.lk_expressions.specs.Expressions.{Valued, expression_value}
use Rattle.lk_expressions.specs.Named.{loads_by_none, moves_by_none, names_no_symbol, names_none}
use Rattle.lk_expressions.specs.Surroundings.{Early, early_operand}
use Rattle.lk_expressions.proofs.Unnamed.{unnamed_read_no_symbols}
use Rattle.lk_place.specs.AtHand.{AreAtHand, AreEvaluableEvents, AreEvaluableLoads, IsEvaluableEvent}
use Rattle.lk_place.specs.Shallow.{AreShallow, IsShallowEvent}

-- by any constants, where it names no symbol
by_any : (k : Early) (cs cs' : List (Option Valued)) (t : Term) → names_none t ≡ true
    → expression_value (early_operand (record k { constants = cs })) t ≡ expression_value (early_operand (record k { constants = cs' })) t
by_any k cs cs' t h = unnamed_read_no_symbols.early k k.groups cs k.positions t h ∙ sym (unnamed_read_no_symbols.early k k.groups cs' k.positions t h)

-- by constants that are at hand an expression of a walk has the value that it has by all
pub value_at_hand : (plan : Plan) (k : Early) (cs cs' : List (Option Valued)) (t : Term) → (names_no_symbol plan ≡ true → names_none t ≡ true) → AreAtHand plan cs' cs
    → expression_value (early_operand (record k { constants = cs })) t ≡ expression_value (early_operand (record k { constants = cs' })) t
value_at_hand plan k cs cs' t spoken hand =
    elim (cases_Bool (names_no_symbol plan)) [
      | inl none ↦ by_any k cs cs' t (spoken none)
      | inr some ↦ ap (λ (xs : List (Option Valued)). expression_value (early_operand (record k { constants = xs })) t) (hand some)
    ]

-- ---- the expressions of a walk

-- where none of them names a symbol, each doesn't
parts_of : (plan : Plan) → names_no_symbol plan ≡ true → (names_none plan.base ≡ true) × (list_all moves_by_none plan.events ≡ true) × (list_all loads_by_none plan.sections ≡ true)
parts_of plan h =
    let one = and_parts (names_none plan.base && list_all moves_by_none plan.events) (list_all loads_by_none plan.sections) h in
    let two = and_parts (names_none plan.base) (list_all moves_by_none plan.events) one.0 in
    (two.0, two.1, one.1)

pub base_spoken : (plan : Plan) → names_no_symbol plan ≡ true → names_none plan.base ≡ true
base_spoken plan h = (parts_of plan h).0

evaluable_event : (plan : Plan) (e : OrderEvent) → (names_no_symbol plan ≡ true → moves_by_none e ≡ true) → IsShallowEvent e → IsEvaluableEvent plan e
evaluable_event plan (SegmentStart i) spoken shallow = tt
evaluable_event plan (SegmentEnd i) spoken shallow = tt
evaluable_event plan (Section s) spoken shallow = tt
evaluable_event plan (SetLocation x) spoken shallow = record { shallow = shallow; spoken = spoken }
evaluable_event plan (SetLocationRelative x s) spoken shallow = record { shallow = shallow; spoken = spoken }
evaluable_event plan (SetSectionAddress x) spoken shallow = record { shallow = shallow; spoken = spoken }

pub evaluable_events : (link : LinkInput) → AreShallow link → AreEvaluableEvents link.plan
evaluable_events link shallow k e here =
    evaluable_event link.plan e (λ none. all_at moves_by_none link.plan.events k e (parts_of link.plan none).1 here) (shallow.events k e here)

pub evaluable_loads : (link : LinkInput) → AreShallow link → AreEvaluableLoads link.plan
evaluable_loads link shallow s x here t named =
    record {
      shallow = shallow.loads s x here t named;
      spoken = λ none. ap (λ (o : Option Term). option_map_or names_none o true) (sym named) ∙ all_at loads_by_none link.plan.sections s x (parts_of link.plan none).2 here;
    }
