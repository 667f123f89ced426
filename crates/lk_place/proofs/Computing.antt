-- What the walk gives is the placement or its first refusal.
use Rattle.std.proofs.Common.{◌≡◌, ℕ, ◌+◌, ◌<◌, List, [], ◌∷◌, ◌++◌, length, take, drop, Option, Some, None, refl, sym, ap, subst, ◌∙◌, arith}
use Rattle.std.specs.Prelude.{slice_get, Result, Ok, Err, IsErrAnd}
use Rattle.std.proofs.Math.Seq.{take-append_seam}
use Rattle.std.proofs.lemmas.Option.{slice_get_within}
use Rattle.lk_link.specs.declared.plan.OrderEvent.{OrderEvent}
use Rattle.lk_link.specs.Parts.{all_parts}
use Rattle.lk_place.specs.declared.cursors.Cursors.{Cursors}
use Rattle.lk_place.specs.declared.error.PlaceError.{PlaceError}
use Rattle.lk_place.specs.declared.error.PlaceError.TheVariants.{AddressOverflow, BaseTooLow, Expression, LocationBackwards, NoMemory, OutsideRegion, RegionDuplicate, RegionOverflow, RegionUnknown, SectionOutsideSegments}
use Rattle.lk_place.specs.declared.start.Beginning.{Beginning}
use Rattle.lk_place.specs.declared.walk.Placed.{Placed}
use Rattle.lk_place.specs.Answers.{ArePlaced, GivesPlaced, IsRefused}
use Rattle.std.specs.List.{enumerate_from, flat_map}
use Rattle.lk_place.specs.Counters.{counters_of, told_counter}
use Rattle.lk_place.specs.Placement.{first_refusal, refusal_behind, refusal_of, state_at}
use Rattle.lk_place.specs.PlacedBefore.{Known}
use Rattle.lk_expressions.specs.Records.{Record, record_at}
use Rattle.lk_place.specs.Regions.{given_regions}
use Rattle.lk_place.specs.Segments.{section_records}
use Rattle.lk_place.specs.Setting.{IsReady, Setting}
use Rattle.lk_place.specs.Start.{GivesBeginning, IsBegun, base_by, base_value, first_cursors, start}
use Rattle.lk_expressions.specs.Expressions.{◌>>=◌}
use Rattle.lk_place.specs.Walk.{AllPass, GivesWalked, StopsBy, counters_after, told_after, cursors_after, first_state, known_after, record_after}
use Rattle.lk_place.proofs.WalkLaws.{IsWalk, made_walk, records_to, states_to, state_is, unbegun, walk_is_placed, walk_known, walk_refusal}
use Rattle.lk_place.proofs.WalkSteps.{starts}

-- there is nothing behind the end
none_behind : {X : Type 0} (xs : List X) → slice_get xs (length xs) ≡ None
none_behind [] = refl
none_behind (x ∷ xs) = none_behind xs

-- a vector whose elements were all written has those that were
pub written_back : {X : Type 0} (n : ℕ) (new old : List X) → n ≡ length new → take n (new ++ drop (length new) old) ≡ new
written_back {X} n new old all = ap (λ (k : ℕ). take k (new ++ drop (length new) old)) all ∙ take-append_seam new (drop (length new) old)

-- a refused event is there
refused_there : (setting : Setting) (known : Known) (k : ℕ) (c : Cursors) (e : PlaceError) (o : Option OrderEvent) → slice_get setting.plan.events k ≡ o → refusal_of setting known k o c ≡ Some e → k < length setting.plan.events
refused_there setting known k c e None at h = absurd (cc)
refused_there setting known k c e (Some x) at h = slice_get_within setting.plan.events k x at

-- what events tell of the location counter is what the states tell
told_alike : (f g : ℕ × OrderEvent → List ℕ) (i : ℕ) (xs : List OrderEvent) → ((j : ℕ) (e : OrderEvent) → j < i + length xs → f (j, e) ≡ g (j, e))
    → flat_map f (enumerate_from i xs) ≡ flat_map g (enumerate_from i xs)
told_alike f g i [] same = refl
told_alike f g i (x ∷ xs) same =
    ap (λ (ns : List ℕ). ns ++ flat_map f (enumerate_from (i + 1) xs)) (same i x (omega arith))
    ∙ ap (λ (ns : List ℕ). g (i, x) ++ ns) (told_alike f g (i + 1) xs (λ j e less. same j e (omega (arith, less))))

counters_are : (setting : Setting) (base : ℕ) → base ∷ counters_after setting ≡ counters_of setting.plan (states_to setting (length setting.plan.events)) base
counters_are setting base =
    let n : ℕ = length setting.plan.events in
    ap (λ (ns : List ℕ). base ∷ ns)
    (told_alike (told_after setting) (λ q. told_counter q.1 (state_at (states_to setting n) (q.0 + 1)).pending) 0 setting.plan.events
    (λ j e less. ap (λ (c : Cursors). told_counter e c.pending) (sym (state_is setting n (j + 1) (omega (arith, less))))))

-- a walk to the end is the placement
pub walked_placed : (setting : Setting) (records sections : List Record) (counters : List ℕ) (base : ℕ) → IsReady setting → start setting ≡ Ok (first_state setting) → length records ≡ length (all_parts setting.plan.sections)
    → AllPass setting (length setting.plan.events) → ((p : ℕ) → record_at records p ≡ record_after setting (length setting.plan.events) p)
    → sections ≡ section_records setting.plan.sections records → base_value setting ≡ Ok base → counters ≡ base ∷ counters_after setting
    → ArePlaced setting (record { parts = records; sections = sections; counters = counters })
walked_placed setting records sections counters base ready starts each pass at is based told =
    let n : ℕ = length setting.plan.events in
    let walk : IsWalk setting n records = record { ready = ready; starts = starts; within = omega arith; pass = pass; stops = λ none. refl; each = each; at = λ p below. at p } in
    record {
      states = states_to setting n;
      is = walk_is_placed setting n records walk;
      unrefused = walk_refusal setting n records starts (walk_known setting n n records walk (omega arith))
          ∙ ap (λ (o : Option OrderEvent). refusal_of setting (known_after setting n) n o (cursors_after setting n)) (none_behind setting.plan.events);
      sections = is;
      base = base;
      based = based;
      counters = told ∙ counters_are setting base;
    }

-- a walk that stops tells the first refusal
pub stopped_refused : (setting : Setting) (e : PlaceError) → IsReady setting → start setting ≡ Ok (first_state setting) → StopsBy setting e → IsRefused setting e
stopped_refused setting e ready starts stop =
    let n : ℕ = stop.k in
    let there : n < length setting.plan.events = refused_there setting (known_after setting n) n (cursors_after setting n) e (slice_get setting.plan.events n) refl stop.here in
    let walk : IsWalk setting n (records_to setting n) = made_walk setting n ready starts (omega arith) stop.before (λ none. absurd (cc (stop.here))) in
    record {
      states = states_to setting n;
      records = records_to setting n;
      is = walk_is_placed setting n (records_to setting n) walk;
      refused = walk_refusal setting n (records_to setting n) starts (walk_known setting n n (records_to setting n) walk (omega arith)) ∙ stop.here;
    }

-- a start that is refused tells its refusal
unbegun_refused : (setting : Setting) (e : PlaceError) → start setting ≡ Err e → IsRefused setting e
unbegun_refused setting e refused =
    record {
      states = [];
      records = records_to setting 0;
      is = unbegun setting e refused;
      refused = ap (λ (r : Result Cursors PlaceError). first_refusal r (refusal_behind setting [] (records_to setting 0))) refused;
    }

-- the cursors before the first event, unless memory doesn't begin
abbrev cursors_at : Result ℕ PlaceError → Result Cursors PlaceError
cursors_at r = r >>= λ memory. Ok (first_cursors memory)

-- the refusal that a beginning tells, where it isn't want of memory
told_begun : (setting : Setting) (x e : PlaceError) → x ≡ e → (x ≡ NoMemory → ⊥) → GivesBeginning setting.plan setting.groups setting.headers (Err e) → start setting ≡ Err x
told_begun setting x NoMemory same other gives = absurd (other same)
told_begun setting x (AddressOverflow place) same other gives = ap cursors_at gives ∙ ap (λ (y : PlaceError). Err y) (sym same)
told_begun setting x (RegionDuplicate region) same other gives = ap cursors_at gives ∙ ap (λ (y : PlaceError). Err y) (sym same)
told_begun setting x (Expression place cause) same other gives = ap cursors_at gives ∙ ap (λ (y : PlaceError). Err y) (sym same)
told_begun setting x (BaseTooLow base headers) same other gives = ap cursors_at gives ∙ ap (λ (y : PlaceError). Err y) (sym same)
told_begun setting x (RegionUnknown s) same other gives = ap cursors_at gives ∙ ap (λ (y : PlaceError). Err y) (sym same)
told_begun setting x (RegionOverflow region by) same other gives = ap cursors_at gives ∙ ap (λ (y : PlaceError). Err y) (sym same)
told_begun setting x (OutsideRegion event address) same other gives = ap cursors_at gives ∙ ap (λ (y : PlaceError). Err y) (sym same)
told_begun setting x (LocationBackwards from to) same other gives = ap cursors_at gives ∙ ap (λ (y : PlaceError). Err y) (sym same)
told_begun setting x (SectionOutsideSegments s) same other gives = ap cursors_at gives ∙ ap (λ (y : PlaceError). Err y) (sym same)

stopped_gives : (setting : Setting) (x : PlaceError) → IsReady setting → start setting ≡ Ok (first_state setting)
    → (records : List Record) (before counters : List ℕ) → GivesWalked setting (Err x) records before counters → GivesPlaced setting (Err x)
stopped_gives setting NoMemory ready starts records before counters stop = tt
stopped_gives setting (AddressOverflow place) ready starts records before counters stop = stopped_refused setting (AddressOverflow place) ready starts stop
stopped_gives setting (RegionDuplicate region) ready starts records before counters stop = stopped_refused setting (RegionDuplicate region) ready starts stop
stopped_gives setting (Expression place cause) ready starts records before counters stop = stopped_refused setting (Expression place cause) ready starts stop
stopped_gives setting (BaseTooLow base headers) ready starts records before counters stop = stopped_refused setting (BaseTooLow base headers) ready starts stop
stopped_gives setting (RegionUnknown s) ready starts records before counters stop = stopped_refused setting (RegionUnknown s) ready starts stop
stopped_gives setting (RegionOverflow region by) ready starts records before counters stop = stopped_refused setting (RegionOverflow region by) ready starts stop
stopped_gives setting (OutsideRegion event address) ready starts records before counters stop = stopped_refused setting (OutsideRegion event address) ready starts stop
stopped_gives setting (LocationBackwards from to) ready starts records before counters stop = stopped_refused setting (LocationBackwards from to) ready starts stop
stopped_gives setting (SectionOutsideSegments s) ready starts records before counters stop = stopped_refused setting (SectionOutsideSegments s) ready starts stop

-- the same where it is handed on
pub refused_answer : (setting : Setting) (r : Result Placed PlaceError) (e : PlaceError) → IsReady setting → start setting ≡ Ok (first_state setting) → IsErrAnd r (λ x. x ≡ e)
    → (records : List Record) (before counters : List ℕ) → GivesWalked setting (Err e) records before counters → GivesPlaced setting r
refused_answer setting (Ok placed) e ready starts h records before counters stop = absurd h
refused_answer setting (Err x) e ready starts h records before counters stop =
    stopped_gives setting x ready starts records before counters (subst (λ (y : PlaceError). GivesWalked setting (Err y) records before counters) (sym h) stop)

-- the base has the value that the beginning says
pub based_at : (setting : Setting) (b : Beginning) → IsBegun setting.plan setting.groups setting.headers b → base_value setting ≡ Ok b.base
based_at setting b h = ap (λ (r : Result (List (ℕ × ℕ)) PlaceError). base_by setting.plan setting.groups setting.headers (given_regions r)) h.regions ∙ h.base

-- the walk begins where the beginning says
pub begins_at : (setting : Setting) (b : Beginning) → IsBegun setting.plan setting.groups setting.headers b → start setting ≡ Ok (first_cursors b.memory)
begins_at setting b h = ap cursors_at h.memory

pub begins : (setting : Setting) (b : Beginning) → IsBegun setting.plan setting.groups setting.headers b → start setting ≡ Ok (first_state setting)
begins setting b h = starts setting (first_cursors b.memory) (begins_at setting b h)

-- a beginning that is refused tells the first refusal
pub unbegun_answer : (setting : Setting) (r : Result Placed PlaceError) (e : PlaceError) → IsErrAnd r (λ x. x ≡ e)
    → GivesBeginning setting.plan setting.groups setting.headers (Err e) → GivesPlaced setting r
unbegun_answer setting (Ok placed) e h gives = absurd h
unbegun_answer setting (Err NoMemory) e h gives = tt
unbegun_answer setting (Err (AddressOverflow place)) e h gives = unbegun_refused setting (AddressOverflow place) (told_begun setting (AddressOverflow place) e h (λ same. absurd (cc)) gives)
unbegun_answer setting (Err (RegionDuplicate region)) e h gives = unbegun_refused setting (RegionDuplicate region) (told_begun setting (RegionDuplicate region) e h (λ same. absurd (cc)) gives)
unbegun_answer setting (Err (Expression place cause)) e h gives = unbegun_refused setting (Expression place cause) (told_begun setting (Expression place cause) e h (λ same. absurd (cc)) gives)
unbegun_answer setting (Err (BaseTooLow base headers)) e h gives = unbegun_refused setting (BaseTooLow base headers) (told_begun setting (BaseTooLow base headers) e h (λ same. absurd (cc)) gives)
unbegun_answer setting (Err (RegionUnknown s)) e h gives = unbegun_refused setting (RegionUnknown s) (told_begun setting (RegionUnknown s) e h (λ same. absurd (cc)) gives)
unbegun_answer setting (Err (RegionOverflow region by)) e h gives = unbegun_refused setting (RegionOverflow region by) (told_begun setting (RegionOverflow region by) e h (λ same. absurd (cc)) gives)
unbegun_answer setting (Err (OutsideRegion event address)) e h gives = unbegun_refused setting (OutsideRegion event address) (told_begun setting (OutsideRegion event address) e h (λ same. absurd (cc)) gives)
unbegun_answer setting (Err (LocationBackwards from to)) e h gives = unbegun_refused setting (LocationBackwards from to) (told_begun setting (LocationBackwards from to) e h (λ same. absurd (cc)) gives)
unbegun_answer setting (Err (SectionOutsideSegments s)) e h gives = unbegun_refused setting (SectionOutsideSegments s) (told_begun setting (SectionOutsideSegments s) e h (λ same. absurd (cc)) gives)
