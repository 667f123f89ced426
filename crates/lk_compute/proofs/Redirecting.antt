-- How setting redirects gives the resolutions of a layout, or its refusal.
use Rattle.std.proofs.Common.{◌≡◌, ℕ, ◌≤◌, ◌^◌, true, false, List, length, Option, Some, None, Result, Ok, Err, refl, sym, ap, ◌∙◌, arith}
use Rattle.std.specs.Prelude.{option_map}
use Rattle.std.specs.Result.{IsErrAnd}
use Rattle.lk_own_symbols.specs.Edges.{Edges, edges_of}
use Rattle.lk_own_symbols.specs.Redirects.{AllPlaced, redirected, redirects_of}
use Rattle.lk_expressions.specs.Expressions.{◌>>=◌}
use Rattle.lk_expressions.specs.Records.{Record}
use Rattle.lk_link.specs.declared.fault.Limited.TheVariants as limited
use Rattle.lk_link.specs.declared.file.InputFile.{InputFile}
use Rattle.lk_link.specs.declared.link.LinkInput.{LinkInput}
use Rattle.lk_link.specs.declared.plan.Plan.{Plan}
use Rattle.lk_link.specs.declared.resolution.Resolution.{Resolution}
use Rattle.lk_link.specs.Limits.{counted, limit_of}
use Rattle.lk_link.specs.WellFormed.{IsWellFormed}
use Rattle.lk_place.specs.declared.error.PlaceError.{PlaceError}
use Rattle.lk_place.specs.declared.error.PlaceError.TheVariants as place
use Rattle.lk_place.specs.declared.segments.SegmentLayout.{SegmentLayout}
use Rattle.lk_place.specs.Counters.{counters_of}
use Rattle.lk_place.specs.Placement.{first_refusal, refusal_behind}
use Rattle.lk_place.specs.Regions.{GivesRegions, given_regions, regions_of}
use Rattle.lk_place.specs.declared.cursors.Cursors.{Cursors}
use Rattle.lk_place.specs.Segments.{section_records}
use Rattle.lk_place.specs.Base.{first_memory}
use Rattle.lk_place.specs.Start.{base_by, first_cursors}
use Rattle.lk_deltas.specs.LinkDeletions.{Deletions}
use Rattle.lk_relax.specs.Stages.{refusal_of, setting_after}
use Rattle.lk_layout.specs.declared.error.LayoutError.{LayoutError}
use Rattle.lk_layout.specs.declared.stages.SpannedLink.{SpannedLink}
use Rattle.lk_layout.specs.Defined.{is_memory}
use Rattle.lk_layout.specs.Errors.{place_error}
use Rattle.lk_layout.specs.Headers.{header_bytes}
use Rattle.lk_layout.specs.Machines.{Machine}
use Rattle.lk_layout.specs.Made.{Made, made_deletions, made_filling, made_relaxing}
use Rattle.lk_compute.specs.RedirectWords.{GivesResolutions}
use Rattle.lk_layout.specs.Redirects.{made_base, made_edges, made_redirected, placed_resolutions, placed_with, refused_by, value_or_0}
use Rattle.lk_layout.specs.Spans.{made_joined, made_sections, made_segments}
use Rattle.lk_layout.specs.Stages.{IsSpannedLink, made_spanned}
use Rattle.lk_resolutions.specs.Resolutions.{symbol_resolutions}
use Rattle.lk_resolutions.specs.Starts.{starts_of}
use Rattle.lk_resolution_list.specs.Stores.{resolution_store}

-- ---- regions

-- regions are few enough for their numbers
pub few_regions : (link : LinkInput) → IsWellFormed link → length link.plan.regions ≤ 2 ^ 32
unfolding counted limit_of
few_regions link good =
    let few : length link.plan.regions ≤ 64 = good.within limited.Regions in
    omega (arith, few)

-- where a placement isn't refused, no region is
no_region_refused : (plan : Plan) (groups : List (List InputFile)) (headers : ℕ) (regions : Result (List (ℕ × ℕ)) PlaceError) (more : Option PlaceError) (e : PlaceError)
    → first_refusal (regions >>= (λ values. first_memory plan headers (base_by plan groups headers values)) >>= λ memory. Ok (first_cursors memory)) more ≡ None → Err e ≡ regions → ⊥
no_region_refused plan groups headers (Ok values) more e none is = cc
no_region_refused plan groups headers (Err x) more e none is = let never : Some x ≡ None = none in cc

unrefused : (made : Made) (e : PlaceError) → refusal_of (made_relaxing made) made.stage ≡ None
    → Err e ≡ regions_of made.link.plan.regions → ⊥
unrefused made e none is =
    no_region_refused made.link.plan made.link.groups (header_bytes made.machine made.link made.live) (regions_of made.link.plan.regions)
    (refusal_behind (setting_after (made_relaxing made) made.stage.walked) made.stage.states made.stage.records) e none is

-- what evaluating them refuses is then want of memory
pub only_memory : (made : Made) (e : PlaceError) → refusal_of (made_relaxing made) made.stage ≡ None
    → GivesRegions (Err e) made.link.plan.regions → is_memory (place_error e) ≡ true
only_memory made place.NoMemory none given = refl
only_memory made (place.AddressOverflow at) none given = absurd (unrefused made (place.AddressOverflow at) none given)
only_memory made (place.RegionDuplicate region) none given = absurd (unrefused made (place.RegionDuplicate region) none given)
only_memory made (place.Expression at cause) none given = absurd (unrefused made (place.Expression at cause) none given)
only_memory made (place.RegionUnknown s) none given = absurd (unrefused made (place.RegionUnknown s) none given)
only_memory made (place.RegionOverflow region by) none given = absurd (unrefused made (place.RegionOverflow region by) none given)
only_memory made (place.OutsideRegion event address) none given = absurd (unrefused made (place.OutsideRegion event address) none given)
only_memory made (place.LocationBackwards from to) none given = absurd (unrefused made (place.LocationBackwards from to) none given)
only_memory made (place.BaseTooLow base headers) none given = absurd (unrefused made (place.BaseTooLow base headers) none given)
only_memory made (place.SectionOutsideSegments s) none given = absurd (unrefused made (place.SectionOutsideSegments s) none given)

-- ---- the exits

-- want of memory
pub out_of_memory : {A : Type 0} (made : Made) (new : List (Option Resolution)) (result : Result A LayoutError) (e : PlaceError) → IsErrAnd result (λ x. x ≡ place_error e)
    → is_memory (place_error e) ≡ true → GivesResolutions made result new
out_of_memory made new (Ok a) e h memory = absurd h
out_of_memory made new (Err x) e h memory = λ some. absurd (let never : true ≡ false = sym memory ∙ ap is_memory (sym h) ∙ some in cc)

-- a redirect that is refused
pub not_redirected : {A : Type 0} (made : Made) (new : List (Option Resolution)) (result : Result A LayoutError) (e : PlaceError) → IsErrAnd result (λ x. x ≡ place_error e)
    → made_redirected made ≡ Err e → GivesResolutions made result new
not_redirected made new (Ok a) e h refused = absurd h
not_redirected made new (Err x) e h refused = λ some.
    ap (λ (r : Result (List (Option Resolution)) PlaceError). option_map place_error (refused_by r)) refused ∙ ap (λ (y : LayoutError). Some y) (sym h)

-- ---- what redirects read

-- what is placed is the same where all of it is
same_placed : (groups : List (List InputFile)) (headers headers' : ℕ) (regions regions' : List (ℕ × ℕ)) (counters counters' : List ℕ) (sections sections' merged merged' : List Record)
    → headers ≡ headers' → regions ≡ regions' → counters ≡ counters' → sections ≡ sections' → merged ≡ merged'
    → ◌≡◌ {A = AllPlaced} (record { groups = groups; headers = headers; regions = regions; counters = counters; sections = sections; merged = merged })
    (record { groups = groups; headers = headers'; regions = regions'; counters = counters'; sections = sections'; merged = merged' })
same_placed groups headers headers' regions regions' counters counters' sections sections' merged merged' eh er ec es em = cc

-- the code has it at hand
pub at_hand : (machine : Machine) (link : LinkInput) (spanned : SpannedLink) (is : IsSpannedLink machine link spanned) (headers : ℕ) (values regions : List (ℕ × ℕ)) (counters : List ℕ) (sections merged : List Record)
    → headers ≡ header_bytes machine link spanned.placed.kept.live → Ok values ≡ regions_of link.plan.regions → regions ≡ values → counters ≡ spanned.placed.records.counters
    → sections ≡ spanned.placed.records.sections → merged ≡ spanned.joined
    → ◌≡◌ {A = AllPlaced} (record { groups = link.groups; headers = headers; regions = regions; counters = counters; sections = sections; merged = merged })
    (placed_with (made_spanned is) (made_sections (made_spanned is)) (made_joined (made_spanned is)))
at_hand machine link spanned is headers values regions counters sections merged eh given er ec es em =
    let made : Made = made_spanned is in
    let are = is.placed.are in
    let counted : counters_of link.plan are.states (made_base made) ≡ counters_of link.plan made.stage.states (made_base made) = ap (λ (states : List Cursors). counters_of link.plan states (made_base made)) is.placed.states in
    same_placed link.groups headers _ regions _ counters _ sections _ merged _ eh (er ∙ ap given_regions given)
    (ec ∙ are.counters ∙ ap (counters_of link.plan are.states) (sym (ap value_or_0 are.based)) ∙ counted) (es ∙ are.sections ∙ ap (section_records link.plan.sections) is.placed.records)
    (em ∙ is.joined)

-- ---- what they change

-- the edges at hand are those of the layout
pub edges_are : (made : Made) (sections : List Record) (segments : List SegmentLayout) (edges : Edges) → edges ≡ edges_of made.link.plan sections segments
    → sections ≡ made_sections made → segments ≡ made_segments made → edges ≡ made_edges made
edges_are made sections segments edges is es el =
    is ∙ ap (λ (rs : List Record). edges_of made.link.plan rs segments) es ∙ ap (edges_of made.link.plan (made_sections made)) el

-- and so are the resolutions by what is placed, and what is deleted
pub resolutions_are : (made : Made) (records : List Record) (deletions : Deletions) (edges : Edges) (resolutions : List (Option Resolution))
    → resolutions ≡ symbol_resolutions (made_filling made) deletions edges (starts_of records) → records ≡ made.stage.records → deletions ≡ made_deletions made → edges ≡ made_edges made
    → resolutions ≡ placed_resolutions made
resolutions_are made records deletions edges resolutions is er ed ee =
    is ∙ ap (λ (es : Edges). symbol_resolutions (made_filling made) deletions es (starts_of records)) ee
    ∙ ap (λ (ds : Deletions). symbol_resolutions (made_filling made) ds (made_edges made) (starts_of records)) ed
    ∙ ap (λ (rs : List Record). symbol_resolutions (made_filling made) (made_deletions made) (made_edges made) (starts_of rs)) er

-- what they come to by what is at hand they come to in the layout
pub as_made : (made : Made) (placed : AllPlaced) (old : List (Option Resolution)) (gives : Result (List (Option Resolution)) PlaceError)
    → placed ≡ placed_with made (made_sections made) (made_joined made) → old ≡ placed_resolutions made → redirected resolution_store placed old (redirects_of placed.groups) ≡ gives
    → made_redirected made ≡ gives
as_made made placed old gives same before h =
    ap (λ (p : AllPlaced). redirected resolution_store p (placed_resolutions made) (redirects_of p.groups)) (sym same)
    ∙ ap (λ (rs : List (Option Resolution)). redirected resolution_store placed rs (redirects_of placed.groups)) (sym before)
    ∙ h
