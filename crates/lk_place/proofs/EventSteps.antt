-- What an event gives: the cursors that it leaves and the records that it makes, where none of its steps is refused.
use Rattle.std.proofs.Common.{◌≡◌, ℕ, List, [], Option, Some, None, refl, sym, ap, ◌∙◌}
use Rattle.std.specs.Prelude.{map, Result, Ok, Err}
use Rattle.lk_link.specs.declared.plan.OrderEvent.{OrderEvent}
use Rattle.lk_link.specs.Inside.{placed_section}
use Rattle.lk_place.specs.declared.cursors.Cursors.{Cursors}
use Rattle.lk_place.specs.declared.error.Refusal.{Refusal}
use Rattle.lk_place.specs.InRegions.{past_region, stands_in}
use Rattle.lk_place.specs.PlacedBefore.{Known, PlacedRecords}
use Rattle.lk_place.specs.Placement.{carried_out, load_given, loaded_by, moved, placed_by, records_by, refusal_in, section_left, section_overflow, section_start, unless}
use Rattle.lk_expressions.specs.Expressions.{◌>>=◌}
use Rattle.lk_expressions.specs.Records.{Record}
use Rattle.lk_place.specs.Setting.{Setting}
use Rattle.lk_place.specs.Walk.{after_move, entered, left_behind, left_by, load_of, load_or_none}
use Rattle.lk_place.proofs.SectionParts.{loaded_records}

pub ok_same : {X : Type 0} (x y : X) → (let given : Result X Refusal = Ok x in given ≡ Ok y) → x ≡ y
ok_same x y h = cc

-- ---- the steps of a section

given_unless : {X : Type 0} (o : Option Refusal) (x y : X) → unless o x ≡ Ok y → (o ≡ None) × (x ≡ y)
given_unless None x y h = (refl, ok_same x y h)
given_unless (Some r) x y h = absurd (cc)

-- where a section is placed, none of its three steps is refused
steps_given : {X : Type 0} (o : Option Refusal) (load : Result (Option ℕ) Refusal) (past : Cursors → Option Refusal) (left : Cursors) (give : Cursors → Option ℕ → X) (y : X)
    → (unless o left >>= λ to. load >>= λ l. unless (past to) (give to l)) ≡ Ok y → (o ≡ None) × (load ≡ Ok (load_or_none load)) × (past left ≡ None) × (give left (load_or_none load) ≡ y)
steps_given None (Ok l) past left give y h = let both = given_unless (past left) (give left l) y h in (refl, refl, both.0, both.1)
steps_given None (Err r) past left give y h = absurd (cc)
steps_given (Some r) load past left give y h = absurd (cc)

-- and where none is, this is what it gives
pub steps_made : {X : Type 0} (o : Option Refusal) (load : Result (Option ℕ) Refusal) (past : Cursors → Option Refusal) (left : Cursors) (give : Cursors → Option ℕ → X) (l : Option ℕ)
    → o ≡ None → load ≡ Ok l → past left ≡ None → (unless o left >>= λ to. load >>= λ m. unless (past to) (give to m)) ≡ Ok (give left l)
steps_made None (Ok m) past left give l none given inside =
    let same : m ≡ l = cc in
    ap (λ (p : Option Refusal). unless p (give left m)) inside ∙ ap (λ (n : Option ℕ). Ok (give left n)) same
steps_made None (Err r) past left give l none given inside = absurd (cc)
steps_made (Some r) load past left give l none given inside = absurd (cc)

-- the cursors and the records that a section gives
abbrev pub section_gives : Setting → PlacedRecords → ℕ → Cursors → Cursors × List Record
section_gives setting standing s from = (section_left setting s from, loaded_records setting standing s from)

pub record IsSectionGiven (setting : Setting) (standing : PlacedRecords) (s : ℕ) (from : Cursors) (given : Cursors × List Record) : Type 0 where
  pub fits : section_overflow setting s from ≡ None
  pub load : load_given setting standing s from ≡ Ok (load_of setting standing s from)
  pub not_past : past_region setting (stands_in setting.plan s) (section_left setting s from).memory ≡ None
  pub gives : section_gives setting standing s from ≡ given

pub section_is_given : (setting : Setting) (standing : PlacedRecords) (s : ℕ) (from : Cursors) (given : Cursors × List Record) → placed_by setting standing (Some s) from ≡ Ok given
    → IsSectionGiven setting standing s from given
section_is_given setting standing s from given h =
    let steps = steps_given (section_overflow setting s from) (load_given setting standing s from) (λ to. past_region setting (stands_in setting.plan s) to.memory) (section_left setting s from)
    (λ to load. (to, map (loaded_by load) (records_by setting s (section_start setting s from)))) given h in
    record { fits = steps.0; load = steps.1; not_past = steps.2; gives = steps.3 }

-- ---- the steps of an event

-- the records that a section is given, if there is one
abbrev pub given_records : Setting → PlacedRecords → Option ℕ → Cursors → List Record
given_records setting standing None from = []
given_records setting standing (Some s) from = loaded_records setting standing s from

placed_given : (setting : Setting) (standing : PlacedRecords) (s : Option ℕ) (from : Cursors) (given : Cursors × List Record) → placed_by setting standing s from ≡ Ok given
    → (left_behind setting s from ≡ given.0) × (given_records setting standing s from ≡ given.1)
unfolding left_behind
placed_given setting standing None from given h =
    let none : Cursors × List Record = (from, []) in
    let same : none ≡ given = ok_same none given h in
    (ap (λ (q : Cursors × List Record). q.0) same, ap (λ (q : Cursors × List Record). q.1) same)
placed_given setting standing (Some s) from given h =
    let same = (section_is_given setting standing s from given h).gives in
    (ap (λ (q : Cursors × List Record). q.0) same, ap (λ (q : Cursors × List Record). q.1) same)

-- what is made of what there is isn't refused where there is something
bound : {X : Type 0} (from : Cursors) (r : Result Cursors Refusal) (f : Cursors → Result X Refusal) (y : X) → (r >>= f) ≡ Ok y → (r ≡ Ok (after_move from r)) × (f (after_move from r) ≡ Ok y)
bound from (Ok c) f y h = (refl, h)
bound from (Err r) f y h = absurd (cc)

-- the records that an event makes of its section's parts
abbrev pub made_records : Setting → Known → OrderEvent → Cursors → List Record
made_records setting known e from = given_records setting known.standing (placed_section e) (entered setting known e from)

-- what an event gives that isn't refused
pub record IsGiven (setting : Setting) (known : Known) (e : OrderEvent) (from : Cursors) (given : Cursors × List Record) : Type 0 where
  pub moves : moved setting known e from ≡ Ok (entered setting known e from)
  pub places : placed_by setting known.standing (placed_section e) (entered setting known e from) ≡ Ok given
  pub leaves : left_by setting known (Some e) from ≡ given.0
  pub makes : made_records setting known e from ≡ given.1

pub event_given : (setting : Setting) (known : Known) (e : OrderEvent) (from : Cursors) (given : Cursors × List Record) → carried_out setting known e from ≡ Ok given
    → IsGiven setting known e from given
event_given setting known e from given h =
    let steps = bound from (moved setting known e from) (placed_by setting known.standing (placed_section e)) given h in
    let both = placed_given setting known.standing (placed_section e) (entered setting known e from) given steps.1 in
    record { moves = steps.0; places = steps.1; leaves = both.0; makes = both.1 }

-- what isn't refused gives something
something : {X : Type 0} (k : ℕ) (r : Result X Refusal) → refusal_in k r ≡ None → (x : X) × (r ≡ Ok x)
something k (Ok x) h = (x, refl)
something k (Err r) h = absurd (cc)

-- and that is what the walk computes
pub event_gives : (setting : Setting) (known : Known) (k : ℕ) (e : OrderEvent) (from : Cursors) → refusal_in k (carried_out setting known e from) ≡ None
    → carried_out setting known e from ≡ Ok (left_by setting known (Some e) from, made_records setting known e from)
event_gives setting known k e from none =
    let there = something k (carried_out setting known e from) none in
    let given : IsGiven setting known e from there.0 = event_given setting known e from there.0 there.1 in
    let same : there.0 ≡ (left_by setting known (Some e) from, made_records setting known e from) = λ i. (sym given.leaves i, sym given.makes i) in
    there.1 ∙ ap (λ (q : Cursors × List Record). Ok q) same
