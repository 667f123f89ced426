-- One event more of the walk.
use Rattle.std.proofs.Common.{◌≡◌, ℕ, suc, ◌+◌, ◌<◌, List, [], ◌∷◌, ◌++◌, drop, length, Option, arith, Some, None, refl, sym, ap, subst, ◌∙◌, add-one, below_more}
use Rattle.std.specs.Prelude.{slice_get, Result, Ok, Err, OnOk, IsErrAnd}
use Rattle.std.specs.Option.{option_map_or, option_or}
use Rattle.std.specs.List.{enumerate_from, flat_map, slice_index, slice_index_or}
use Rattle.std.proofs.Math.Seq.{drop-cons, drop-length}
use Rattle.std.proofs.lemmas.List.{append_assoc, append-nil}
use Rattle.std.proofs.lemmas.Option.{get_or_from_slice_get, slice_get-get_or, slice_get_within}
use Rattle.lk_link.specs.declared.plan.OrderEvent.{OrderEvent}
use Rattle.lk_link.specs.declared.plan.Plan.{Plan}
use Rattle.lk_link.specs.Inside.{placed_section}
use Rattle.lk_link.specs.PlanSections.{is_thread_local}
use Rattle.lk_place.specs.declared.cursors.Cursors.{Cursors}
use Rattle.lk_place.specs.declared.error.PlaceError.{PlaceError}
use Rattle.lk_place.specs.declared.error.PlaceError.TheVariants.{AddressOverflow, BaseTooLow, Expression, LocationBackwards, NoMemory, OutsideRegion, RegionDuplicate, RegionOverflow, RegionUnknown, SectionOutsideSegments}
use Rattle.lk_place.specs.declared.error.Refusal.{Refusal}
use Rattle.lk_place.specs.Placement.{carried_out, refusal_in, refusal_of}
use Rattle.lk_place.specs.Counters.{told_counter}
use Rattle.lk_place.specs.InRegions.{span_of}
use Rattle.lk_place.specs.PlacedBefore.{Known, last_before}
use Rattle.lk_expressions.specs.Records.{Record, nowhere}
use Rattle.lk_place.specs.Setting.{Setting}
use Rattle.lk_place.specs.Start.{BeginsAt, start}
use Rattle.lk_place.specs.ThreadLocal.{is_in_run}
use Rattle.lk_place.specs.Walk.{AllPass, GivesWalked, GoesOn, goes_on_after, told_after, went_on, StopsBy, at_event, begun, cursors_after, cursors_of, first_state, known_after, refused_at, walk_after, record_after, recorded, left_by}
use Rattle.lk_place.proofs.EventSteps.{event_given}
use Rattle.lk_place.proofs.LastOnes.{last_next}

-- the walk begins where the placement does
pub starts_at : (setting : Setting) (c : Cursors) → start setting ≡ Ok c → c ≡ first_state setting
starts_at setting c h = sym (ap begun h)

-- where the start isn't refused
pub starts : (setting : Setting) (c : Cursors) → start setting ≡ Ok c → start setting ≡ Ok (first_state setting)
starts setting c h = h ∙ ap (λ (d : Cursors). Ok d) (starts_at setting c h)

-- there is a first state
pub has_first : (r : Result Cursors PlaceError) (c : Cursors) (states : List Cursors) → r ≡ Ok c → BeginsAt r states → slice_get states 0 ≡ Some c
has_first (Ok d) c states h begins = let same : d ≡ c = cc in begins ∙ ap (λ (x : Cursors). Some x) same
has_first (Err e) c states h begins = absurd (cc)

-- there is none
pub has_none : (r : Result Cursors PlaceError) (e : PlaceError) (states : List Cursors) → r ≡ Err e → BeginsAt r states → states ≡ []
has_none (Ok d) e states h begins = absurd (cc)
has_none (Err x) e states h begins = begins

-- where there is a state the start isn't refused
pub start_given : (r : Result Cursors PlaceError) (states : List Cursors) → BeginsAt r states → 0 < length states → r ≡ Ok (begun r)
start_given (Ok c) states begins some = refl
start_given (Err e) states begins some = absurd (omega (arith, ap length begins))

-- before all events the cursors are at the start
pub cursors_first : (setting : Setting) → first_state setting ≡ cursors_after setting 0
unfolding walk_after
cursors_first setting = refl

-- and nothing is placed
pub record_first : (setting : Setting) (p : ℕ) → nowhere ≡ record_after setting 0 p
unfolding walk_after
record_first setting p = refl

-- behind one event more they are where it leaves them
pub cursors_next : (setting : Setting) (k : ℕ) → cursors_after setting (k + 1) ≡ left_by setting (known_after setting k) (slice_get setting.plan.events k) (cursors_after setting k)
unfolding walk_after
cursors_next setting k = ap (cursors_after setting) (add-one k)

-- and a record is what it makes of it
pub record_next : (setting : Setting) (k p : ℕ) → record_after setting (k + 1) p ≡ recorded setting (known_after setting k) (slice_get setting.plan.events k) (cursors_after setting k) p (record_after setting k p)
unfolding walk_after
record_next setting k p = ap (λ (n : ℕ). record_after setting n p) (add-one k)

-- and each region goes on where it makes it
pub goes_on_next : (setting : Setting) (k r : ℕ)
    → goes_on_after setting (k + 1) r ≡ went_on setting.plan (slice_get setting.plan.events k) (left_by setting (known_after setting k) (slice_get setting.plan.events k) (cursors_after setting k)) r (goes_on_after setting k r)
unfolding walk_after
goes_on_next setting k r = ap (λ (n : ℕ). goes_on_after setting n r) (add-one k)

-- before all events each goes on at its origin
pub goes_on_first : (setting : Setting) (r : ℕ) → (span_of setting r).0 ≡ goes_on_after setting 0 r
unfolding walk_after
goes_on_first setting r = refl

-- ---- an event that is carried out

-- event k, with the cursors before it and what carrying it out gave
pub record IsTried (setting : Setting) (k : ℕ) (e : OrderEvent) (from : Cursors) (end : Result Cursors Refusal) : Type 0 where
  pub here : slice_get setting.plan.events k ≡ Some e
  pub so_far : from ≡ cursors_after setting k
  pub gave : end ≡ cursors_of (carried_out setting (known_after setting k) e from)
  pub before : AllPass setting k

told_refused : (k : ℕ) (given : Result (Cursors × List Record) Refusal) (err : PlaceError) → Err err ≡ at_event (cursors_of given) k → refusal_in k given ≡ Some err
told_refused k (Ok x) err h = absurd (cc)
told_refused k (Err r) err h = cc

-- what passes gives something, with these cursors
record IsPassed (k : ℕ) (given : Result (Cursors × List Record) Refusal) (to : Cursors) : Type 0 where
  unrefused : refusal_in k given ≡ None
  made : Cursors × List Record
  gives : given ≡ Ok made
  leaves : to ≡ made.0

told_passed : (k : ℕ) (to : Cursors) (given : Result (Cursors × List Record) Refusal) → Ok to ≡ at_event (cursors_of given) k → IsPassed k given to
told_passed k to (Ok x) h = record { unrefused = refl; made = x; gives = refl; leaves = cc }
told_passed k to (Err r) h = absurd (cc)

-- its refusal is the first
pub stops : (setting : Setting) (k : ℕ) (e : OrderEvent) (from : Cursors) (end : Result Cursors Refusal) (err : PlaceError) → IsTried setting k e from end → Err err ≡ at_event end k → StopsBy setting err
stops setting k e from end err tried h =
    let known : Known = known_after setting k in
    let there : Err err ≡ at_event (cursors_of (carried_out setting known e from)) k = h ∙ ap (λ (r : Result Cursors Refusal). at_event r k) tried.gave in
    let refused : refusal_of setting known k (Some e) from ≡ Some err = told_refused k (carried_out setting known e from) err there in
    record {
      k = k;
      before = tried.before;
      here = ap (λ (o : Option OrderEvent). refusal_of setting known k o (cursors_after setting k)) tried.here ∙ ap (refusal_of setting known k (Some e)) (sym tried.so_far) ∙ refused;
    }

passed : (setting : Setting) (k : ℕ) (e : OrderEvent) (from to : Cursors) (end : Result Cursors Refusal) → IsTried setting k e from end → Ok to ≡ at_event end k
    → (refusal_in k (carried_out setting (known_after setting k) e from) ≡ None) × (to ≡ left_by setting (known_after setting k) (Some e) from)
passed setting k e from to end tried h =
    let known : Known = known_after setting k in
    let passes : IsPassed k (carried_out setting known e from) to = told_passed k to (carried_out setting known e from) (h ∙ ap (λ (r : Result Cursors Refusal). at_event r k) tried.gave) in
    (passes.unrefused, passes.leaves ∙ sym (event_given setting known e from passes.made passes.gives).leaves)

-- the cursors behind it
pub goes_on : (setting : Setting) (k : ℕ) (e : OrderEvent) (from to : Cursors) (end : Result Cursors Refusal) → IsTried setting k e from end → Ok to ≡ at_event end k → to ≡ cursors_after setting (k + 1)
goes_on setting k e from to end tried h =
    (passed setting k e from to end tried h).1
    ∙ ap (left_by setting (known_after setting k) (Some e)) tried.so_far
    ∙ ap (λ (o : Option OrderEvent). left_by setting (known_after setting k) o (cursors_after setting k)) (sym tried.here)
    ∙ sym (cursors_next setting k)

-- none up to it is refused
pub passes_on : (setting : Setting) (k : ℕ) (e : OrderEvent) (from to : Cursors) (end : Result Cursors Refusal) → IsTried setting k e from end → Ok to ≡ at_event end k → AllPass setting (k + 1)
passes_on setting k e from to end tried h =
    let here : refused_at setting k ≡ None =
    ap (λ (o : Option OrderEvent). refusal_of setting (known_after setting k) k o (cursors_after setting k)) tried.here
    ∙ ap (refusal_of setting (known_after setting k) k (Some e)) (sym tried.so_far)
    ∙ (passed setting k e from to end tried h).0 in
    below_more (λ (j : ℕ). refused_at setting j ≡ None) k tried.before here

-- the records behind it
pub records_on : (setting : Setting) (k : ℕ) (e : OrderEvent) (from to : Cursors) (end : Result Cursors Refusal) (old new : ℕ → Record) → IsTried setting k e from end → Ok to ≡ at_event end k
    → OnOk end ((p : ℕ) → new p ≡ recorded setting (known_after setting k) (Some e) from p (old p)) → ((p : ℕ) → old p ≡ record_after setting k p)
    → (p : ℕ) → new p ≡ record_after setting (k + 1) p
records_on setting k e from to (Err r) old new tried h writes so_far p = absurd (cc)
records_on setting k e from to (Ok x) old new tried h writes so_far p =
    writes p
    ∙ ap (recorded setting (known_after setting k) (Some e) from p) (so_far p)
    ∙ ap (λ (c : Cursors). recorded setting (known_after setting k) (Some e) c p (record_after setting k p)) tried.so_far
    ∙ ap (λ (o : Option OrderEvent). recorded setting (known_after setting k) o (cursors_after setting k) p (record_after setting k p)) (sym tried.here)
    ∙ sym (record_next setting k p)

-- where regions go on behind it
pub regions_on : (setting : Setting) (k : ℕ) (e : OrderEvent) (from to : Cursors) (end : Result Cursors Refusal) (old new : List ℕ) → IsTried setting k e from end → Ok to ≡ at_event end k
    → OnOk end (GoesOn setting.plan (Some e) (left_by setting (known_after setting k) (Some e) from) old new) → ((r : ℕ) → slice_index old r ≡ goes_on_after setting k r)
    → (r : ℕ) → slice_index new r ≡ goes_on_after setting (k + 1) r
regions_on setting k e from to (Err x) old new tried h writes so_far r = absurd (cc)
regions_on setting k e from to (Ok x) old new tried h writes so_far r =
    let known : Known = known_after setting k in
    let wanted : Option OrderEvent → Cursors → ℕ → ℕ = λ o c before. went_on setting.plan o (left_by setting known o c) r before in
    writes r
    ∙ ap (wanted (Some e) from) (so_far r)
    ∙ ap (λ (c : Cursors). wanted (Some e) c (goes_on_after setting k r)) tried.so_far
    ∙ ap (λ (o : Option OrderEvent). wanted o (cursors_after setting k) (goes_on_after setting k r)) (sym tried.here)
    ∙ sym (goes_on_next setting k r)

-- whether a run of thread-local sections goes on behind it
pub run_next : (plan : Plan) (k : ℕ) (e : OrderEvent) → slice_get plan.events k ≡ Some e
    → option_map_or (is_thread_local plan) (placed_section e) (is_in_run plan (last_before plan.events k)) ≡ is_in_run plan (last_before plan.events (k + 1))
run_next plan k e here =
    let before : Option ℕ = last_before plan.events k in
    elim (placed_section e) as (λ o. option_map_or (is_thread_local plan) o (is_in_run plan before) ≡ is_in_run plan (option_or o before)) [ None ↦ refl | Some s ↦ refl ]
    ∙ ap (is_in_run plan) (sym (last_next placed_section None plan.events k e here) ∙ ap (last_before plan.events) (sym (add-one k)))

-- a refusal that is handed on
stopped : (setting : Setting) (e : PlaceError) (records : List Record) (before counters : List ℕ) → StopsBy setting e → GivesWalked setting (Err e) records before counters
stopped setting NoMemory records before counters stop = tt
stopped setting (AddressOverflow place) records before counters stop = stop
stopped setting (RegionDuplicate region) records before counters stop = stop
stopped setting (Expression place cause) records before counters stop = stop
stopped setting (RegionUnknown s) records before counters stop = stop
stopped setting (RegionOverflow region by) records before counters stop = stop
stopped setting (OutsideRegion event address) records before counters stop = stop
stopped setting (LocationBackwards from to) records before counters stop = stop
stopped setting (BaseTooLow base headers) records before counters stop = stop
stopped setting (SectionOutsideSegments s) records before counters stop = stop

pub walk_refused : (setting : Setting) (r : Result (Unit {0}) PlaceError) (err : PlaceError) (records : List Record) (before counters : List ℕ) → IsErrAnd r (λ e. e ≡ err) → StopsBy setting err
    → GivesWalked setting r records before counters
walk_refused setting (Ok done) err records before counters h stop = absurd h
walk_refused setting (Err e) err records before counters h stop = stopped setting e records before counters (subst (StopsBy setting) (sym h) stop)

-- ---- counters

-- what one event more tells
pub counters_on : (setting : Setting) (k : ℕ) (e : OrderEvent) (to : Cursors) (old new all : List ℕ) → slice_get setting.plan.events k ≡ Some e → to ≡ cursors_after setting (k + 1)
    → new ≡ old ++ told_counter e to.pending
    → old ++ flat_map (told_after setting) (enumerate_from k (drop k setting.plan.events)) ≡ all
    → new ++ flat_map (told_after setting) (enumerate_from (k + 1) (drop (k + 1) setting.plan.events)) ≡ all
counters_on setting k e to old new all here at writes so_far =
    let events : List OrderEvent = setting.plan.events in
    let rest : List ℕ = flat_map (told_after setting) (enumerate_from (k + 1) (drop (k + 1) events)) in
    let split : drop k events ≡ e ∷ drop (k + 1) events =
    drop-cons events k e (slice_get_within events k e here) ∙ ap (λ (x : OrderEvent). x ∷ drop (suc k) events) (get_or_from_slice_get events k e e here) ∙ ap (λ (n : ℕ). e ∷ drop n events) (sym (add-one k)) in
    ap (λ (cs : List ℕ). cs ++ rest) writes
    ∙ ap (λ (c : Cursors). (old ++ told_counter e c.pending) ++ rest) at
    ∙ append_assoc old (told_after setting (k, e)) rest
    ∙ sym (ap (λ (xs : List OrderEvent). old ++ flat_map (told_after setting) (enumerate_from k xs)) split)
    ∙ so_far

-- none is left behind the last
pub counters_all : (setting : Setting) (k : ℕ) (counters all : List ℕ) → k ≡ length setting.plan.events
    → counters ++ flat_map (told_after setting) (enumerate_from k (drop k setting.plan.events)) ≡ all → counters ≡ all
counters_all setting k counters all last so_far =
    let none : drop k setting.plan.events ≡ [] = ap (λ (n : ℕ). drop n setting.plan.events) last ∙ drop-length setting.plan.events in
    sym (append-nil counters) ∙ sym (ap (λ (xs : List OrderEvent). counters ++ flat_map (told_after setting) (enumerate_from k xs)) none) ∙ so_far

-- an element that is read at its number
pub read_there : {X : Type 0} (xs ys : List X) (k : ℕ) (x : X) → ys ≡ xs → k < length ys → x ≡ slice_index_or ys k x → slice_get xs k ≡ Some x
read_there {X} xs ys k x same below is = ap (λ (zs : List X). slice_get zs k) (sym same) ∙ slice_get-get_or ys k x below ∙ ap (λ (y : X). Some y) (sym is)
