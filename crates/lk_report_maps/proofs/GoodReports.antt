-- The reports of plain layouts are good maps.
use Rattle.std.proofs.Common.{◌≡◌, ℕ, ◌+◌, ◌<◌, ◌^◌, List, length, None, sym, ap, subst, ◌∙◌, arith, zero-add}
use Rattle.std.specs.Prelude.{slice_index}
use Rattle.std.specs.List.{enumerate_from}
use Rattle.std.proofs.lemmas.List.{get_or-map}
use Rattle.std.proofs.lemmas.List.FromFn.{get_or-enumerate_from, length-enumerate_from}
use Rattle.lk_link.specs.declared.link.LinkInput.{LinkInput}
use Rattle.lk_link.specs.declared.plan.PlanSection.{PlanSection}
use Rattle.lk_link.specs.PlanSections.{is_set, no_section, own_attributes}
use Rattle.lk_link.specs.WellFormed.{IsWellFormed}
use Rattle.lk_live.specs.declared.live.Live.{Live}
use Rattle.lk_live.specs.Reach.{AreLive}
use Rattle.lk_place_laws.specs.Laws.{IsSoundlySet}
use Rattle.lk_place.specs.Plain.{IsPlain}
use Rattle.lk_place_laws.specs.SectionRanges.{FileSectionsAreApart, PlainMemorySectionsAreApart, SectionsFit}
use Rattle.lk_place_laws.specs.SegmentHulls.{PlainSegmentsHoldSections, SegmentsFit}
use Rattle.lk_place.specs.Setting.{Setting}
use Rattle.lk_sizes.specs.Attributes.{all_section_attributes, section_attributes}
use Rattle.lk_sizes.specs.Emitted.{active_segments, is_emitted}
use Rattle.lk_sizes.specs.PartOwners.{part_size}
use Rattle.lk_relax.specs.RelaxedLaws.{RelaxedStands, StandsFor}
use Rattle.lk_relax.specs.Stages.{IsRelaxed, Stage, filling_after, refusal_of, setting_after}
use Rattle.lk_resolutions.proofs.PartCounts.{length-by_part}
use Rattle.lk_layout.specs.Defined.{layout_of}
use Rattle.lk_layout.specs.LayoutRecord.{LayoutRecord}
use Rattle.lk_layout.specs.Laws.{LaidOutLinksAreWellFormed}
use Rattle.lk_soundness.specs.Laws.{DefinedLayoutsAreSound}
use Rattle.lk_layout.specs.Machines.{IsLawfulMachine, Machine}
use Rattle.lk_layout.specs.Made.{Made, made_content, made_of, relaxing_for}
use Rattle.lk_map.specs.Good.{IsGood}
use Rattle.lk_report_maps.specs.GoodReports.{IsCovered, PlainReportsAreGood}
use Rattle.lk_report_maps.specs.Laws.{first_segment_line, map_sections, map_segments}
use Rattle.lk_report_maps.proofs.GoodMaps.{told_is_good}
use Rattle.lk_report_maps.proofs.ToldAttributes.{allocated_flag, thread_local_flag, told_as_planned, zero_filled_flag}

-- the attributes that are told of a section
attributes_at : (link : LinkInput) (live : Live) (s : ℕ) → s < length link.plan.sections → slice_index (all_section_attributes link live) s ≡ section_attributes link live s
attributes_at link live s below =
    let sections : List PlanSection = link.plan.sections in
    get_or-map (λ (q : ℕ × PlanSection). section_attributes link live q.0) (enumerate_from 0 sections) s (0, no_section) 0 (omega (arith, below, length-enumerate_from 0 sections))
    ∙ ap (λ (q : ℕ × PlanSection). section_attributes link live q.0) (get_or-enumerate_from 0 sections s (0, no_section) below)
    ∙ ap (section_attributes link live) (zero-add s)

module _ (stands : RelaxedStands) (file_apart : FileSectionsAreApart) (memory_apart : PlainMemorySectionsAreApart) (sections_fit : SectionsFit) (segments_fit : SegmentsFit) (hold : PlainSegmentsHoldSections)
    (machine : Machine) (link : LinkInput) (live : Live) (stage : Stage) (lawful : IsLawfulMachine machine) (good : IsWellFormed link) (reached : AreLive link live)
    (relaxed : IsRelaxed (relaxing_for machine link live) stage) (unrefused : refusal_of (relaxing_for machine link live) stage ≡ None) (plain : IsPlain link.plan link.options.output) where
  -- what is made
  abbrev made : Made
  made = made_of machine link live stage

  -- what its placement is of
  abbrev setting : Setting
  setting = setting_after (relaxing_for machine link live) stage.walked

  standing : StandsFor (relaxing_for machine link live) stage
  standing = stands (relaxing_for machine link live) stage good relaxed

  soundly_set : IsSoundlySet setting stage.states stage.records
  soundly_set = record {
    ready = record { events = good.events; sections = good.sections; sizes = length-by_part (part_size (filling_after (relaxing_for machine link live) stage.walked)) link };
    page = good.page;
    lawful = lawful.target;
    placed = standing.placed;
  }

  whole : length stage.states ≡ length link.plan.events + 1
  whole = standing.placed.ends unrefused

  -- a flag is told as the plan has it
  told_flag : (flag s : ℕ) → is_set flag (section_attributes link live s) ≡ is_set flag (own_attributes link.plan s) → s < length link.plan.sections
      → is_set flag (slice_index (all_section_attributes link live) s) ≡ is_set flag (own_attributes link.plan s)
  told_flag flag s as_planned below = ap (is_set flag) (attributes_at link live s below) ∙ as_planned

  -- what is told of what is made is good
  pub of_made : IsCovered link (layout_of made) → link.options.stack < 2 ^ 64 → IsGood (map_sections link (layout_of made)) (map_segments link (layout_of made))
  of_made covered stack =
      told_is_good setting stage.states stage.records soundly_set plain whole link.options.stack (is_emitted (made_content made)) (active_segments (made_content made))
      (λ s. slice_index (all_section_attributes link live) s) (first_segment_line link (layout_of made))
      (record {
        primary = covered.primary;
        allocated = λ s below. told_flag 1 s (told_as_planned 1 allocated_flag link live good reached s) below;
        thread_local = λ s below. told_flag 8 s (told_as_planned 8 thread_local_flag link live good reached s) below;
        zero_filled = λ s below. told_flag 16 s (told_as_planned 16 zero_filled_flag link live good reached s) below;
        held = λ s below allocated bytes. let h = covered.held s below allocated bytes in (h.segment, h.told, h.k, h.places);
        small = stack;
      })
      file_apart memory_apart sections_fit segments_fit hold

pub plain_reports_are_good : DefinedLayoutsAreSound → LaidOutLinksAreWellFormed → RelaxedStands → FileSectionsAreApart → PlainMemorySectionsAreApart → SectionsFit → SegmentsFit → PlainSegmentsHoldSections
    → PlainReportsAreGood
plain_reports_are_good sound well stands file_apart memory_apart sections_fit segments_fit hold machine link layout lawful defined plain covered stack =
    let (live, stage, is) = sound machine link layout lawful defined in
    let made : Made = made_of machine link live stage in
    subst (λ (l : LayoutRecord). IsGood (map_sections link l) (map_segments link l)) (sym is.is)
    (of_made stands file_apart memory_apart sections_fit segments_fit hold machine link live stage lawful (well machine link layout defined) is.reached is.relaxed is.unrefused plain
    (subst (λ (l : LayoutRecord). IsCovered link l) is.is covered) stack)
