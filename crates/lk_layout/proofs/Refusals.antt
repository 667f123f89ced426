-- Each refusal of a link by a name, and what comes behind some of them: the parts of `IsDefined`, one by one.
use Rattle.std.specs.Prelude.{◌≡◌, Option, option_map, slice_get, Result, Ok}
use Rattle.lk_check.specs.FirstFault.{first_fault}
use Rattle.lk_link.specs.declared.link.LinkInput.{LinkInput}
use Rattle.lk_live.specs.declared.live.Live.{Live}
use Rattle.lk_live.specs.Faults.{reference_faults}
use Rattle.lk_live.specs.Reach.{AreLive}
use Rattle.lk_place.specs.declared.segments.SegmentFileLayout.TheVariants.{FromSections}
use Rattle.lk_place.specs.Secondaries.{merge_refusal}
use Rattle.lk_place.specs.Segments.{segments_refusal}
use Rattle.lk_relax.specs.Sites.{past_limit}
use Rattle.lk_relax.specs.Stages.{IsRelaxed, Stage, refusal_of}
use Rattle.lk_resolutions.specs.Outside.{merge_offsets}
use Rattle.lk_sizes.specs.Contents.{size_refusal}
use Rattle.lk_sizes.specs.Emitted.{active_segments, is_emitted}
use Rattle.lk_thunk_plan.specs.Branches.{unreached}
use Rattle.lk_layout.specs.declared.error.LayoutError.{LayoutError}
use Rattle.lk_layout.specs.Defined.{IsMadeAnswer, Unless, layout_of, made_sections, made_standing, references_refusal}
use Rattle.lk_layout.specs.Errors.{branch_error, fault_error, offset_error, place_error, site_error, size_error}
use Rattle.lk_layout.specs.LayoutRecord.{LayoutRecord}
use Rattle.lk_layout.specs.Machines.{Machine}
use Rattle.lk_layout.specs.Made.{Made, filling_for, made_content, made_of, made_relaxing, relaxing_for}
use Rattle.lk_layout.specs.Merging.{merging_refusal}
use Rattle.lk_layout.specs.Redirects.{redirects_refusal}
use Rattle.lk_layout.specs.Thunks.{made_branching}

-- ---- refusals

abbrev pub fault_refusal : LinkInput → Option LayoutError
fault_refusal link = option_map fault_error (first_fault link)

abbrev pub unmet_refusal : LinkInput → Option LayoutError
unmet_refusal link = references_refusal (reference_faults link)

abbrev pub sizes_refusal : Machine → LinkInput → Live → Option LayoutError
sizes_refusal machine link live = option_map size_error (size_refusal (filling_for machine link live))

abbrev pub walk_refusal : Made → Option LayoutError
walk_refusal made = option_map place_error (refusal_of (made_relaxing made) made.stage)

abbrev pub joining_refusal : Made → Option LayoutError
joining_refusal made = option_map place_error (merge_refusal made.link.plan.sections (made_sections made))

abbrev pub segment_refusal : Made → Option LayoutError
segment_refusal made =
    let content = made_content made in
    option_map place_error (segments_refusal FromSections made.link (made_sections made) (is_emitted content) (active_segments content))

abbrev pub offsets_refusal : Made → Option LayoutError
offsets_refusal made = option_map offset_error (slice_get (merge_offsets made.link made.live) 0)

abbrev pub branch_refusal : Made → Option LayoutError
branch_refusal made = option_map branch_error (slice_get (unreached (made_branching made)) 0)

abbrev pub sites_refusal : Made → Option LayoutError
sites_refusal made = option_map site_error (slice_get (past_limit (made_standing made)) 0)

-- ---- what comes behind

-- behind what sections and segments span
abbrev pub IsSpannedAnswer : Made → Result LayoutRecord LayoutError → Type 0
IsSpannedAnswer made answer =
    Unless (offsets_refusal made) answer
    (Unless (redirects_refusal made) answer
    (Unless (branch_refusal made) answer
    (Unless (sites_refusal made) answer (answer ≡ Ok (layout_of made)))))

-- behind the placement
abbrev pub IsPlacedAnswer : Made → Result LayoutRecord LayoutError → Type 0
IsPlacedAnswer made answer = Unless (joining_refusal made) answer (Unless (segment_refusal made) answer (IsSpannedAnswer made answer))

-- behind the sizes
abbrev pub IsSizedAnswer : Machine → LinkInput → Live → Result LayoutRecord LayoutError → Type 0
IsSizedAnswer machine link live answer =
    (stage : Stage) × IsRelaxed (relaxing_for machine link live) stage × IsMadeAnswer (made_of machine link live stage) answer

-- of what is live
abbrev pub IsLiveAnswer : Machine → LinkInput → Live → Result LayoutRecord LayoutError → Type 0
IsLiveAnswer machine link live answer = Unless (sizes_refusal machine link live) answer (IsSizedAnswer machine link live answer)

-- of a link that is merged
abbrev pub IsMergedAnswer : Machine → LinkInput → Result LayoutRecord LayoutError → Type 0
IsMergedAnswer machine link answer =
    Unless (unmet_refusal link) answer ((live : Live) × AreLive link live × IsLiveAnswer machine link live answer)

-- of a well-formed link
abbrev pub IsCheckedAnswer : Machine → LinkInput → Result LayoutRecord LayoutError → Type 0
IsCheckedAnswer machine link answer = Unless (merging_refusal link) answer (IsMergedAnswer machine link answer)
