-- Where expressions name no symbol, values and placements are the same wherever symbols stand.
use Rattle.std.proofs.Common.{◌≡◌, ℕ, zero, suc, ◌-◌, Bool, true, List, [], ◌∷◌, length, Option, Some, None, Result, Ok, Err, refl, sym, ap, ◌∙◌}
use Rattle.std.specs.Prelude.{◌&&◌, map, slice_get}
use Rattle.std.specs.List.{list_all, slice_index_or}
use Rattle.std.proofs.lemmas.Bool.{and_parts}
use Rattle.lk_link.specs.declared.plan.OrderEvent.{OrderEvent}
use Rattle.lk_link.specs.declared.plan.OrderEvent.TheVariants.{Section, SegmentEnd, SegmentStart, SetLocation, SetLocationRelative, SetSectionAddress}
use Rattle.lk_link.specs.declared.plan.Plan.{Plan}
use Rattle.lk_link.specs.declared.plan.PlanSection.{PlanSection}
use Rattle.lk_link.specs.Expressions.{Term}
use Rattle.lk_link.specs.Inside.{placed_section}
use Rattle.lk_link.specs.PlanSections.{no_section, primary_of, section_at}
use Rattle.lk_link.proofs.Places.{all_at}
use Rattle.lk_expressions.proofs.Unnamed.{unnamed_read_no_symbols}
use Rattle.lk_place.specs.declared.cursors.Cursors.{Cursors}
use Rattle.lk_place.specs.declared.error.PlaceError.{PlaceError}
use Rattle.lk_place.specs.declared.error.PlaceError.TheVariants as place
use Rattle.lk_place.specs.declared.error.Refusal.{Refusal}
use Rattle.lk_expressions.specs.declared.positions.SymbolPosition.{SymbolPosition}
use Rattle.lk_place.specs.Answers.{IsRefused}
use Rattle.lk_expressions.specs.Expressions.{Valued, ◌>>=◌, expression_value}
use Rattle.lk_expressions.specs.Named.{loads_by_none, moves_by_none, names_no_symbol, names_none}
use Rattle.lk_place.specs.Locations.{awaiting, behind_start}
use Rattle.lk_place.specs.PlacedBefore.{Known, PlacedRecords, dot_of, early_known, early_value, refusing}
use Rattle.lk_place.specs.Placement.{IsPlaced, carried_out, first_refusal, known_before, load_by, load_given, loaded_by, loading, moved, placed_by, placement_refusal, records_by, refusal_in, refusal_of, section_left, section_overflow, section_start, standing_with, state_at, unless}
use Rattle.lk_place.specs.InRegions.{past_region, stands_in}
use Rattle.lk_expressions.specs.Records.{Record}
use Rattle.lk_place.specs.Setting.{Setting}
use Rattle.lk_place.specs.Start.{start}
use Rattle.lk_expressions.specs.Surroundings.{Early, early_operand}
use Rattle.lk_place.specs.PositionLaws.{AnswersGoWithoutPositions, PlacementsGoWithoutPositions, with_positions}

-- ---- of all

-- where all of some things pass, so does one of them, or what stands in for one that isn't there, if that does
all_or : {X : Type 0} (p : X → Bool) (xs : List X) (k : ℕ) (d : X) → list_all p xs ≡ true → p d ≡ true → p (slice_index_or xs k d) ≡ true
all_or p [] k d all h = h
all_or p (y ∷ ys) zero d all h = (and_parts (p y) (list_all p ys) all).0
all_or p (y ∷ ys) (suc k) d all h = all_or p ys k d (and_parts (p y) (list_all p ys) all).1 h

-- ---- expressions

-- an expression that names no symbol has one value wherever symbols stand
values_alike : (known : Early) (positions : List (Option SymbolPosition)) (e : Term) → names_none e ≡ true
    → expression_value (early_operand (record known { positions = positions })) e ≡ expression_value (early_operand known) e
values_alike known positions e none = unnamed_read_no_symbols.early known known.groups known.constants positions e none

-- ---- events

-- the load addresses of a plan's sections name no symbol
abbrev LoadWithoutSymbols : Setting → Type 0
LoadWithoutSymbols setting = (s : ℕ) → loads_by_none (section_at setting.plan.sections s) ≡ true

early_alike : (setting : Setting) (positions : List (Option SymbolPosition)) (standing : PlacedRecords) (from : Cursors) (e : Term) → names_none e ≡ true
    → early_value (with_positions setting positions) standing from e ≡ early_value setting standing from e
early_alike setting positions standing from e none = values_alike (early_known setting standing (dot_of from)) positions e none

given_alike : (setting : Setting) (positions : List (Option SymbolPosition)) (s : ℕ) (standing : PlacedRecords) (behind : Cursors) (section : PlanSection) → loads_by_none section ≡ true
    → load_by (with_positions setting positions) s standing behind section.at ≡ load_by setting s standing behind section.at
given_alike setting positions s standing behind section none =
    elim section.at as (λ e. loads_by_none (record section { at = e }) ≡ true → load_by (with_positions setting positions) s standing behind e ≡ load_by setting s standing behind e) [
      | None ↦ λ h. refl
      | Some e ↦ λ h. ap (loading s) (early_alike setting positions standing behind e h)
    ] none

load_alike : (setting : Setting) (positions : List (Option SymbolPosition)) (standing : PlacedRecords) (s : ℕ) (from : Cursors) → LoadWithoutSymbols setting
    → load_given (with_positions setting positions) standing s from ≡ load_given setting standing s from
load_alike setting positions standing s from loads =
    given_alike setting positions s (standing_with setting standing s (section_start setting s from)) (section_left setting s from) (section_at setting.plan.sections s) (loads s)

moved_alike : (setting : Setting) (positions : List (Option SymbolPosition)) (known : Known) (e : OrderEvent) (from : Cursors) → moves_by_none e ≡ true
    → moved (with_positions setting positions) known e from ≡ moved setting known e from
moved_alike setting positions known (SegmentStart i) from none = refl
moved_alike setting positions known (SegmentEnd i) from none = refl
moved_alike setting positions known (Section s) from none = refl
moved_alike setting positions known (SetLocation x) from none =
    ap (λ (v : Valued). awaiting from (refusing v)) (early_alike setting positions known.standing from x none)
moved_alike setting positions known (SetLocationRelative x s) from none =
    ap (λ (v : Valued). awaiting from (behind_start (known.standing.section (primary_of setting.plan.sections s)) (refusing v))) (early_alike setting positions known.standing from x none)
moved_alike setting positions known (SetSectionAddress x) from none =
    ap (λ (v : Valued). awaiting from (refusing v)) (early_alike setting positions known.standing from x none)

section_alike : (setting : Setting) (positions : List (Option SymbolPosition)) (standing : PlacedRecords) (s : Option ℕ) (from : Cursors) → LoadWithoutSymbols setting
    → placed_by (with_positions setting positions) standing s from ≡ placed_by setting standing s from
section_alike setting positions standing None from loads = refl
section_alike setting positions standing (Some s) from loads =
    ap (λ (given : Result (Option ℕ) Refusal). unless (section_overflow setting s from) (section_left setting s from) >>= λ to. given >>= λ load.
    unless (past_region setting (stands_in setting.plan s) to.memory) (to, map (loaded_by load) (records_by setting s (section_start setting s from))))
    (load_alike setting positions standing s from loads)

behind_alike : (setting : Setting) (positions : List (Option SymbolPosition)) (standing : PlacedRecords) (s : Option ℕ) (r : Result Cursors Refusal) → LoadWithoutSymbols setting
    → (r >>= placed_by (with_positions setting positions) standing s) ≡ (r >>= placed_by setting standing s)
behind_alike setting positions standing s (Ok entered) loads = section_alike setting positions standing s entered loads
behind_alike setting positions standing s (Err refusal) loads = refl

-- an event gives what it gives
event_alike : (setting : Setting) (positions : List (Option SymbolPosition)) (known : Known) (e : OrderEvent) (from : Cursors) → LoadWithoutSymbols setting → moves_by_none e ≡ true
    → carried_out (with_positions setting positions) known e from ≡ carried_out setting known e from
event_alike setting positions known e from loads none =
    ap (λ (r : Result Cursors Refusal). r >>= placed_by (with_positions setting positions) known.standing (placed_section e)) (moved_alike setting positions known e from none)
    ∙ behind_alike setting positions known.standing (placed_section e) (moved setting known e from) loads

at_alike : (setting : Setting) (positions : List (Option SymbolPosition)) (known : Known) (k : ℕ) (o : Option OrderEvent) (from : Cursors) → LoadWithoutSymbols setting
    → ((e : OrderEvent) → o ≡ Some e → moves_by_none e ≡ true) → refusal_of (with_positions setting positions) known k o from ≡ refusal_of setting known k o from
at_alike setting positions known k None from loads none = refl
at_alike setting positions known k (Some e) from loads none = ap (refusal_in k) (event_alike setting positions known e from loads (none e refl))

-- ---- placements

spoken : (plan : Plan) → names_no_symbol plan ≡ true → (names_none plan.base ≡ true) × (list_all moves_by_none plan.events ≡ true) × (list_all loads_by_none plan.sections ≡ true)
spoken plan none =
    let first = and_parts (names_none plan.base && list_all moves_by_none plan.events) (list_all loads_by_none plan.sections) none in
    let second = and_parts (names_none plan.base) (list_all moves_by_none plan.events) first.0 in
    (second.0, second.1, first.1)

moving : (plan : Plan) (k : ℕ) (e : OrderEvent) → names_no_symbol plan ≡ true → slice_get plan.events k ≡ Some e → moves_by_none e ≡ true
moving plan k e none there = all_at moves_by_none plan.events k e (spoken plan none).1 there

loading_none : (setting : Setting) → names_no_symbol setting.plan ≡ true → LoadWithoutSymbols setting
loading_none setting none s = all_or loads_by_none setting.plan.sections s no_section (spoken setting.plan none).2 refl

-- a placement is refused alike
refusal_alike : (setting : Setting) (positions : List (Option SymbolPosition)) (states : List Cursors) (records : List Record) → names_no_symbol setting.plan ≡ true
    → placement_refusal (with_positions setting positions) states records ≡ placement_refusal setting states records
refusal_alike setting positions states records none =
    let k : ℕ = length states - 1 in
    ap (first_refusal (start setting)) (
    at_alike setting positions (known_before setting states records k) k (slice_get setting.plan.events k) (state_at states k) (loading_none setting none) (λ e there. moving setting.plan k e none there))

-- and is one
pub placements_alike : PlacementsGoWithoutPositions
placements_alike setting positions states records none h =
    let other : Setting = with_positions setting positions in
    let alike = refusal_alike setting positions states records none in
    let is : IsPlaced other states records = record {
      begins = h.begins;
      within = h.within;
      steps = λ k e below there.
          event_alike setting positions (known_before setting states records k) e (state_at states k) (loading_none setting none) (moving setting.plan k e none there) ∙ h.steps k e below there;
      ends = λ unrefused. h.ends (sym alike ∙ unrefused);
      each = h.each;
      others = h.others;
    } in
    (is, alike)

-- ---- what is answered

refused_alike : (setting : Setting) (positions : List (Option SymbolPosition)) (e : PlaceError) → names_no_symbol setting.plan ≡ true → IsRefused setting e → IsRefused (with_positions setting positions) e
refused_alike setting positions e none h =
    let both = placements_alike setting positions h.states h.records none h.is in
    record { states = h.states; records = h.records; is = both.0; refused = both.1 ∙ h.refused }

-- what a placement answers that goes by no places of symbols is what it answers by any
pub gives_alike : AnswersGoWithoutPositions
gives_alike setting positions (Ok placed) none h =
    let both = placements_alike setting positions h.states placed.parts none h.is in
    record {
      states = h.states;
      is = both.0;
      unrefused = both.1 ∙ h.unrefused;
      sections = h.sections;
      base = h.base;
      based = h.based;
      counters = h.counters;
    }
gives_alike setting positions (Err place.NoMemory) none h = tt
gives_alike setting positions (Err (place.AddressOverflow at)) none h = refused_alike setting positions (place.AddressOverflow at) none h
gives_alike setting positions (Err (place.RegionDuplicate region)) none h = refused_alike setting positions (place.RegionDuplicate region) none h
gives_alike setting positions (Err (place.Expression at cause)) none h = refused_alike setting positions (place.Expression at cause) none h
gives_alike setting positions (Err (place.RegionUnknown s)) none h = refused_alike setting positions (place.RegionUnknown s) none h
gives_alike setting positions (Err (place.RegionOverflow region by)) none h = refused_alike setting positions (place.RegionOverflow region by) none h
gives_alike setting positions (Err (place.OutsideRegion event address)) none h = refused_alike setting positions (place.OutsideRegion event address) none h
gives_alike setting positions (Err (place.LocationBackwards from to)) none h = refused_alike setting positions (place.LocationBackwards from to) none h
gives_alike setting positions (Err (place.BaseTooLow base headers)) none h = refused_alike setting positions (place.BaseTooLow base headers) none h
gives_alike setting positions (Err (place.SectionOutsideSegments s)) none h = refused_alike setting positions (place.SectionOutsideSegments s) none h
