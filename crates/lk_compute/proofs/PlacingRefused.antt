-- What a placement refuses is the answer: that of the first one, and that at the end of relaxation.
use Rattle.std.proofs.Common.{◌≡◌, Bool, true, false, None, Result, Err, inl, refl, sym, ap, subst}
use Rattle.std.specs.Prelude.{◌||◌, is_some, option_map}
use Rattle.lk_live.specs.declared.live.Live.{Live}
use Rattle.lk_link.specs.declared.link.LinkInput.{LinkInput}
use Rattle.lk_place.specs.declared.error.PlaceError.{PlaceError}
use Rattle.lk_place.specs.declared.error.PlaceError.TheVariants as place
use Rattle.lk_place.specs.Answers.{GivesPlaced, IsRefused}
use Rattle.lk_relax.specs.Relaxed.{EndsRefused, GivesRelaxed}
use Rattle.lk_relax.specs.RelaxedLaws.{nothing_deleted}
use Rattle.lk_relax.specs.Stages.{Stage, first_scan, has_ended, is_done, refusal_of, setting_after}
use Rattle.lk_layout.specs.declared.error.LayoutError.{LayoutError}
use Rattle.lk_layout.specs.declared.error.LayoutError.TheVariants.{NoMemory}
use Rattle.lk_layout.specs.LayoutRecord.{LayoutRecord}
use Rattle.lk_layout.specs.Defined.{WithMemory}
use Rattle.lk_layout.specs.Errors.{place_error}
use Rattle.lk_layout.specs.Machines.{Machine}
use Rattle.lk_layout.specs.Made.{Made, made_of, relaxing_for}
use Rattle.lk_layout.proofs.Answering.{out_of_memory, unless_some}
use Rattle.lk_layout.proofs.Refusals.{IsPlacedAnswer, IsSizedAnswer, walk_refusal}

-- the refusal at the end of relaxation
pub end_refused : (machine : Machine) (link : LinkInput) (live : Live) (e : PlaceError) → EndsRefused (relaxing_for machine link live) e → IsSizedAnswer machine link live (Err (place_error e))
end_refused machine link live e h =
    let made : Made = made_of machine link live h.last in
    let answer : Result LayoutRecord LayoutError = Err (place_error e) in
    (h.last, h.relaxed, unless_some (walk_refusal made) (place_error e) (IsPlacedAnswer made answer) (ap (option_map place_error) h.refused))

-- where the first placement is refused, relaxation ends with it
first_refused : (machine : Machine) (link : LinkInput) (live : Live) (e : PlaceError) → IsRefused (setting_after (relaxing_for machine link live) (nothing_deleted link)) e
    → EndsRefused (relaxing_for machine link live) e
first_refused machine link live e h =
    let by = relaxing_for machine link live in
    let first : Stage = record { deletions = nothing_deleted link; scan = first_scan by; fell = None; walked = nothing_deleted link; states = h.states; records = h.records } in
    let ended : has_ended by first ≡ true = or_true (is_done first) (is_some (refusal_of by first)) (ap is_some h.refused) in
    record {
      last = first;
      relaxed = record {
        first = first;
        begins = record { deletions = refl; scan = refl; fell = refl; walk = record { walked = refl; placed = h.is } };
        leads = inl (ended, refl);
      };
      refused = h.refused;
    }
  where
    or_true : (a b : Bool) → b ≡ true → (a || b) ≡ true
    or_true true b is = refl
    or_true false b is = is

refused : (machine : Machine) (link : LinkInput) (live : Live) (e : PlaceError) → IsRefused (setting_after (relaxing_for machine link live) (nothing_deleted link)) e
    → IsSizedAnswer machine link live (Err (place_error e))
refused machine link live e h = end_refused machine link live e (first_refused machine link live e h)

told : (machine : Machine) (link : LinkInput) (live : Live) (e : PlaceError) → GivesPlaced (setting_after (relaxing_for machine link live) (nothing_deleted link)) (Err e)
    → WithMemory (IsSizedAnswer machine link live) (Err (place_error e))
told machine link live place.NoMemory h = out_of_memory (IsSizedAnswer machine link live) NoMemory refl
told machine link live (place.AddressOverflow at) h = λ some. refused machine link live (place.AddressOverflow at) h
told machine link live (place.RegionDuplicate region) h = λ some. refused machine link live (place.RegionDuplicate region) h
told machine link live (place.Expression at cause) h = λ some. refused machine link live (place.Expression at cause) h
told machine link live (place.RegionUnknown s) h = λ some. refused machine link live (place.RegionUnknown s) h
told machine link live (place.RegionOverflow region by) h = λ some. refused machine link live (place.RegionOverflow region by) h
told machine link live (place.OutsideRegion event address) h = λ some. refused machine link live (place.OutsideRegion event address) h
told machine link live (place.LocationBackwards from to) h = λ some. refused machine link live (place.LocationBackwards from to) h
told machine link live (place.BaseTooLow base headers) h = λ some. refused machine link live (place.BaseTooLow base headers) h
told machine link live (place.SectionOutsideSegments s) h = λ some. refused machine link live (place.SectionOutsideSegments s) h

-- the first one's, where it is handed on
pub placing_refused : (machine : Machine) (link : LinkInput) (live : Live) (e : PlaceError) (x : LayoutError)
    → GivesPlaced (setting_after (relaxing_for machine link live) (nothing_deleted link)) (Err e) → x ≡ place_error e → WithMemory (IsSizedAnswer machine link live) (Err x)
placing_refused machine link live e x gives h = subst (λ y. WithMemory (IsSizedAnswer machine link live) (Err y)) (sym h) (told machine link live e gives)

ended : {X : Type 0} (machine : Machine) (link : LinkInput) (live : Live) (Ends : X → Type 0) (e : PlaceError) → GivesRelaxed (relaxing_for machine link live) Ends (Err e)
    → WithMemory (IsSizedAnswer machine link live) (Err (place_error e))
ended machine link live Ends place.NoMemory h = out_of_memory (IsSizedAnswer machine link live) NoMemory refl
ended machine link live Ends (place.AddressOverflow at) h = λ some. end_refused machine link live (place.AddressOverflow at) h
ended machine link live Ends (place.RegionDuplicate region) h = λ some. end_refused machine link live (place.RegionDuplicate region) h
ended machine link live Ends (place.Expression at cause) h = λ some. end_refused machine link live (place.Expression at cause) h
ended machine link live Ends (place.RegionUnknown s) h = λ some. end_refused machine link live (place.RegionUnknown s) h
ended machine link live Ends (place.RegionOverflow region by) h = λ some. end_refused machine link live (place.RegionOverflow region by) h
ended machine link live Ends (place.OutsideRegion event address) h = λ some. end_refused machine link live (place.OutsideRegion event address) h
ended machine link live Ends (place.LocationBackwards from to) h = λ some. end_refused machine link live (place.LocationBackwards from to) h
ended machine link live Ends (place.BaseTooLow base headers) h = λ some. end_refused machine link live (place.BaseTooLow base headers) h
ended machine link live Ends (place.SectionOutsideSegments s) h = λ some. end_refused machine link live (place.SectionOutsideSegments s) h

-- and the end's
pub relaxing_refused : {X : Type 0} (machine : Machine) (link : LinkInput) (live : Live) (Ends : X → Type 0) (e : PlaceError) (x : LayoutError)
    → GivesRelaxed (relaxing_for machine link live) Ends (Err e) → x ≡ place_error e → WithMemory (IsSizedAnswer machine link live) (Err x)
relaxing_refused machine link live Ends e x gives h = subst (λ y. WithMemory (IsSizedAnswer machine link live) (Err y)) (sym h) (ended machine link live Ends e gives)
