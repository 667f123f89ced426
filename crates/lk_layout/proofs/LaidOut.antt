-- What stands behind a defined layout.
use Rattle.std.proofs.Common.{◌≡◌, ℕ, List, [], ◌∷◌, Option, Some, None, Result, Ok, Err, refl}
use Rattle.std.specs.List.{slice_get}
use Rattle.std.specs.Option.{option_or}
use Rattle.lk_check.specs.FirstFault.{WellFormedExactlyUnfaulted}
use Rattle.lk_live.specs.declared.error.ReferenceFault.{ReferenceFault}
use Rattle.lk_live.specs.declared.live.Live.{Live}
use Rattle.lk_live.specs.Faults.{reference_faults}
use Rattle.lk_live.specs.Reach.{AreLive}
use Rattle.lk_link.specs.declared.link.LinkInput.{LinkInput}
use Rattle.lk_link.specs.declared.resolution.Resolution.{Resolution}
use Rattle.lk_layout.specs.Machines.{Machine}
use Rattle.lk_link.specs.WellFormed.{IsWellFormed}
use Rattle.lk_merge.specs.Hash.{fnv64}
use Rattle.lk_merge.specs.LinkInputs.{first_refusal, link_inputs}
use Rattle.lk_relax.specs.declared.sites.RelaxedPlace.{RelaxedPlace}
use Rattle.lk_relax.specs.RelaxedLaws.{RelaxedStands, StandsFor}
use Rattle.lk_relax.specs.Sites.{past_limit}
use Rattle.lk_relax.specs.Stages.{IsRelaxed, Stage, refusal_of}
use Rattle.lk_place.specs.declared.error.PlaceError.{PlaceError}
use Rattle.lk_place.specs.declared.segments.SegmentFileLayout.TheVariants.{FromSections}
use Rattle.lk_place.specs.Segments.{first_outside, outside_refusal, section_records, segments_refusal}
use Rattle.lk_sizes.specs.Emitted.{active_segments, is_emitted}
use Rattle.lk_layout.specs.declared.error.LayoutError.{LayoutError}
use Rattle.lk_layout.specs.LayoutRecord.{LayoutRecord}
use Rattle.lk_layout.specs.Defined.{IsDefined, Unless, references_refusal, layout_of, made_standing}
use Rattle.lk_layout.specs.Errors.{branch_error, merge_error, offset_error, place_error, site_error}
use Rattle.lk_layout.specs.Redirects.{made_redirected, made_resolutions, redirects_refusal, refused_by, unless_refused}
use Rattle.lk_layout.specs.Thunks.{made_branching}
use Rattle.lk_thunk_plan.specs.Branches.{unreached}
use Rattle.lk_layout.specs.Merging.{merging_refusal}
use Rattle.lk_resolutions.specs.OutputContent.{output_content}
use Rattle.lk_resolutions.specs.Outside.{merge_offsets}
use Rattle.lk_layout.specs.Laws.{LaidOutLinksAreWellFormed}
use Rattle.lk_layout.specs.Made.{Made, made_of, relaxing_for}
use Rattle.lk_layout.proofs.OneAnswer.{none_of, unrefused}
use Rattle.lk_layout.proofs.Refusals.{branch_refusal, fault_refusal, joining_refusal, offsets_refusal, segment_refusal, sites_refusal, sizes_refusal, unmet_refusal, walk_refusal}

-- a link that is well formed, with what is live, the end of its relaxation, whose placement is whole, and the layout of these
pub record IsLaidOut (machine : Machine) (link : LinkInput) (layout : LayoutRecord) : Type 0 where
  pub good : IsWellFormed link
  pub live : Live
  pub are_live : AreLive link live
  pub merged : first_refusal fnv64 link.options.bucket_limit 0 (link_inputs link).outputs ≡ None
  pub met : reference_faults link ≡ []
  pub stage : Stage
  pub relaxed : IsRelaxed (relaxing_for machine link live) stage
  pub stands : StandsFor (relaxing_for machine link live) stage
  pub unrefused : refusal_of (relaxing_for machine link live) stage ≡ None
  pub covered : first_outside link (section_records link.plan.sections stage.records) (is_emitted (output_content machine.sizes link live)) ≡ None
  pub inside : merge_offsets link live ≡ []
  pub redirected : made_redirected (made_of machine link live stage) ≡ Ok (made_resolutions (made_of machine link live stage))
  pub reaching : unreached (made_branching (made_of machine link live stage)) ≡ []
  pub near : past_limit (made_standing (made_of machine link live stage)) ≡ []
  pub same : layout ≡ layout_of (made_of machine link live stage)

-- what it is made of
abbrev pub made_by : {machine : Machine} {link : LinkInput} {layout : LayoutRecord} → IsLaidOut machine link layout → Made
made_by {machine} {link} laid = made_of machine link laid.live laid.stage

-- a layout is no refusal
passed : (refusal : Option LayoutError) (layout : LayoutRecord) (P : Type 0) → Unless refusal (Ok layout) P → (refusal ≡ None) × P
passed None layout P h = (refl, h)
passed (Some e) layout P h = absurd (cc)

-- where none is refused, all references are met
all_met : (faults : List ReferenceFault) → references_refusal faults ≡ None → faults ≡ []
all_met [] h = refl
all_met (fault ∷ faults) h = absurd (cc)

-- where none is refused, no section stands outside
none_outside : (s : Option ℕ) (more : Option PlaceError) → option_or (outside_refusal s) more ≡ None → s ≡ None
none_outside None more h = refl
none_outside (Some s) more h = absurd (cc)

-- where none is refused, redirects come to what they come to
all_redirected : (r : Result (List (Option Resolution)) PlaceError) → refused_by r ≡ None → r ≡ Ok (unless_refused r)
all_redirected (Ok resolutions) h = refl
all_redirected (Err e) h = absurd (cc)

-- a list without a first has none
none_first : {X : Type 0} (places : List X) → slice_get places 0 ≡ None → places ≡ []
none_first [] h = refl
none_first (place ∷ places) h = absurd (cc)

pub laid_out : WellFormedExactlyUnfaulted → RelaxedStands → (machine : Machine) (link : LinkInput) (layout : LayoutRecord) → IsDefined machine link (Ok layout) → IsLaidOut machine link layout
laid_out exactly stands machine link layout defined =
    let fault = passed (fault_refusal link) layout _ defined in
    let whole = passed (merging_refusal link) layout _ fault.1 in
    let met = passed (unmet_refusal link) layout _ whole.1 in
    let reached = met.1 in
    let sizes = passed (sizes_refusal machine link reached.0) layout _ reached.2 in
    let end = sizes.1 in
    let made : Made = made_of machine link reached.0 end.0 in
    let walk = passed (walk_refusal made) layout _ end.2 in
    let joined = passed (joining_refusal made) layout _ walk.1 in
    let segments = passed (segment_refusal made) layout _ joined.1 in
    let offsets = passed (offsets_refusal made) layout _ segments.1 in
    let redirects = passed (redirects_refusal made) layout _ offsets.1 in
    let branches = passed (branch_refusal made) layout _ redirects.1 in
    let sites = passed (sites_refusal made) layout _ branches.1 in
    let is : layout ≡ layout_of made = let given : Ok layout ≡ Ok (layout_of made) = sites.1 in cc in
    let good : IsWellFormed link = unrefused exactly link fault.0 in
    let past : List RelaxedPlace = past_limit (made_standing made) in
    record {
      good = good;
      live = reached.0;
      are_live = reached.1;
      merged = none_of merge_error (first_refusal fnv64 link.options.bucket_limit 0 (link_inputs link).outputs) whole.0;
      met = all_met (reference_faults link) met.0;
      stage = end.0;
      relaxed = end.1;
      stands = stands (relaxing_for machine link reached.0) end.0 good end.1;
      unrefused = none_of place_error (refusal_of (relaxing_for machine link reached.0) end.0) walk.0;
      covered = none_outside (first_outside link (section_records link.plan.sections end.0.records) (is_emitted (output_content machine.sizes link reached.0))) _
          (none_of place_error (segments_refusal FromSections link (section_records link.plan.sections end.0.records) (is_emitted (output_content machine.sizes link reached.0)) (active_segments (output_content machine.sizes link reached.0))) segments.0);
      inside = none_first (merge_offsets link reached.0) (none_of offset_error (slice_get (merge_offsets link reached.0) 0) offsets.0);
      redirected = all_redirected (made_redirected made) (none_of place_error (refused_by (made_redirected made)) redirects.0);
      reaching = none_first (unreached (made_branching made)) (none_of branch_error (slice_get (unreached (made_branching made)) 0) branches.0);
      near = none_first past (none_of site_error (slice_get past 0) sites.0);
      same = is;
    }

pub links_are_well_formed : WellFormedExactlyUnfaulted → RelaxedStands → LaidOutLinksAreWellFormed
links_are_well_formed exactly stands machine link layout defined = (laid_out exactly stands machine link layout defined).good
