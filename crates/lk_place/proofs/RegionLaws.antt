-- Regions that are gone through one after the other.
use Rattle.std.proofs.Common.{◌≡◌, ℕ, suc, ◌+◌, ◌<◌, List, [], ◌∷◌, ◌++◌, length, drop, Result, Ok, Err, sym, ap, ◌∙◌, add-one}
use Rattle.std.specs.Prelude.{IsErrAnd}
use Rattle.std.specs.List.{slice_index_or}
use Rattle.std.proofs.Math.Seq.{drop-cons, drop-length}
use Rattle.lk_link.specs.declared.plan.Region.{Region}
use Rattle.lk_place.specs.declared.error.PlaceError.{PlaceError}
use Rattle.lk_place.specs.declared.error.PlaceError.TheVariants.{AddressOverflow, BaseTooLow, Expression, LocationBackwards, NoMemory, OutsideRegion, RegionDuplicate, RegionOverflow, RegionUnknown, SectionOutsideSegments}
use Rattle.lk_place.specs.Regions.{GivesRegions, all_given, region_of, regions_of}
use Rattle.lk_place.proofs.GivenLists.{behind, given_last, given_more, given_refused}

-- the values of the first k regions, and what is left gives what all give
abbrev pub GiveSoFar : List Region → ℕ → List (ℕ × ℕ) → Type 0
GiveSoFar regions k values = behind values (all_given (region_of regions) k (drop k regions)) ≡ regions_of regions

left : (regions : List Region) (k : ℕ) (r : Region) → k < length regions → r ≡ slice_index_or regions k r → drop k regions ≡ r ∷ drop (k + 1) regions
left regions k r below is = drop-cons regions k r below ∙ ap (λ (q : Region). q ∷ drop (suc k) regions) (sym is) ∙ ap (λ (n : ℕ). r ∷ drop n regions) (sym (add-one k))

-- one more
pub one_region : (regions : List Region) (k : ℕ) (r : Region) (values new : List (ℕ × ℕ)) (x : ℕ × ℕ) → GiveSoFar regions k values → k < length regions
    → r ≡ slice_index_or regions k r → Ok x ≡ region_of regions k r → new ≡ values ++ x ∷ [] → GiveSoFar regions (k + 1) new
one_region regions k r values new x so_far below is gives pushed =
    ap (λ (vs : List (ℕ × ℕ)). behind vs (all_given (region_of regions) (k + 1) (drop (k + 1) regions))) pushed
    ∙ sym (given_more (region_of regions) k r (drop (k + 1) regions) values x (sym gives))
    ∙ ap (λ (rs : List Region). behind values (all_given (region_of regions) k rs)) (sym (left regions k r below is))
    ∙ so_far

-- the first refusal
pub region_refused : (regions : List Region) (k : ℕ) (r : Region) (values : List (ℕ × ℕ)) (e : PlaceError) → GiveSoFar regions k values → k < length regions
    → r ≡ slice_index_or regions k r → Err e ≡ region_of regions k r → Err e ≡ regions_of regions
region_refused regions k r values e so_far below is refused =
    sym (
    ap (λ (rs : List Region). behind values (all_given (region_of regions) k rs)) (left regions k r below is)
    ∙ given_refused (region_of regions) k r (drop (k + 1) regions) values e (sym refused))
    ∙ so_far

-- all
pub all_regions : (regions : List Region) (k : ℕ) (values : List (ℕ × ℕ)) → GiveSoFar regions k values → k ≡ length regions → Ok values ≡ regions_of regions
all_regions regions k values so_far all =
    sym (
    ap (λ (rs : List Region). behind values (all_given (region_of regions) k rs)) (ap (λ (n : ℕ). drop n regions) all ∙ drop-length regions)
    ∙ given_last (region_of regions) k values)
    ∙ so_far

gives_refusal : (x : PlaceError) (regions : List Region) → Err x ≡ regions_of regions → GivesRegions (Err x) regions
gives_refusal NoMemory regions h = tt
gives_refusal (AddressOverflow at) regions h = h
gives_refusal (RegionDuplicate region) regions h = h
gives_refusal (Expression at cause) regions h = h
gives_refusal (BaseTooLow base headers) regions h = h
gives_refusal (RegionUnknown s) regions h = h
gives_refusal (RegionOverflow region by) regions h = h
gives_refusal (OutsideRegion event address) regions h = h
gives_refusal (LocationBackwards from to) regions h = h
gives_refusal (SectionOutsideSegments s) regions h = h

-- a refusal that is handed on
pub region_told : (result : Result (List (ℕ × ℕ)) PlaceError) (e : PlaceError) (regions : List Region) → IsErrAnd result (λ x. x ≡ e) → Err e ≡ regions_of regions → GivesRegions result regions
region_told (Ok values) e regions h is = absurd h
region_told (Err x) e regions h is = gives_refusal x regions (ap (λ (y : PlaceError). Err y) h ∙ is)
