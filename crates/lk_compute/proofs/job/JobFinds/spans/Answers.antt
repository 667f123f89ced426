use Rattle.std.proofs.Common.{◌≡◌, ◌<◌, ℕ, List, None, Err, length, sym, ap, subst, ◌∙◌}
use Rattle.std.specs.Prelude.{All, option_map}
use Rattle.lk_link.specs.declared.link.LinkInput.{LinkInput}
use Rattle.lk_link.specs.Marks.{is_marked}
use Rattle.lk_link.specs.TableSizes.{TableSizes}
use Rattle.lk_place.specs.Secondaries.{merge_refusal, merged_records}
use Rattle.lk_place.specs.declared.segments.SegmentLayout.{SegmentLayout}
use Rattle.lk_place.specs.Segments.{thread_local_one}
use Rattle.lk_tables.specs.declared.header_info.HeaderInfo.{HeaderInfo}
use Rattle.lk_sizes.specs.Emitted.{active_segments, is_emitted}
use Rattle.lk_layout.specs.Defined.{made_sections, made_segments}
use Rattle.lk_layout.specs.Errors.{place_error}
use Rattle.lk_layout.specs.Machines.{platform_machine}
use Rattle.lk_layout.specs.Made.{Made, made_content}
use Rattle.lk_layout.specs.Stages.{IsSpannedLink, Reaches, made_placed}
use Rattle.lk_resolutions.specs.OutputContent.{output_content}
use Rattle.lk_layout.proofs.Answering.{err_exit, outside_segments, segments_of, unjoined}
use Rattle.lk_layout.proofs.PlacedSites.{sections_are}
use Rattle.lk_compute.proofs.Reaching.{from_placed}
use Rattle.lk_layout.proofs.Settings.{active_there, length-section_records}
use Rattle.lk_compute.proofs.job.JobFinds.spans.Goals as goal

pub merge_secondary_parts-requires-clause-each : goal.merge_secondary_parts-requires-clause-each
merge_secondary_parts-requires-clause-each g c =
    ap length (c.as_slice-sections.ensures ∙ c.requires.placed.are.sections) ∙ length-section_records c.args.self.now.link.now.plan.sections c.args.placed.now.records.parts

pub compute_segment_layout-requires-clause-each : goal.compute_segment_layout-requires-clause-each
compute_segment_layout-requires-clause-each g c =
    ap length (c.as_slice-sections.ensures ∙ c.requires.placed.are.sections) ∙ length-section_records c.args.self.now.link.now.plan.sections c.args.placed.now.records.parts

pub compute_segment_layout-requires-clause-there : goal.compute_segment_layout-requires-clause-there
compute_segment_layout-requires-clause-there g c =
    let tables : TableSizes = g.P.Platform.table_sizes c.args.self.now.platform.now in
    let link : LinkInput = c.args.self.now.link.now in
    let active : c.as_slice-active.result.now ≡ active_segments (output_content tables link c.args.placed.now.kept.live)
    = c.as_slice-active.ensures ∙ ap (λ (h : HeaderInfo). h.active_segment_ids) (c.header-header.ensures ∙ c.requires.placed.owners.header) in
    let There : List ℕ → Type 0 = All (λ i. i < length link.plan.segments) in
    subst There (sym active) (active_there tables link c.args.placed.now.kept.live)

pub returns-in_err-joined : goal.returns-in_err-joined
returns-in_err-joined g c =
    let machine = platform_machine (g.P.Platform.segment_start c.args.self.now.platform.now) (g.P.Platform.table_sizes c.args.self.now.platform.now) (g.A.Arch.config_of c.args.self.now.arch.now) in
    let made : Made = made_placed c.requires.placed in
    let spans : c.as_slice-sections.result.now ≡ made_sections made = c.as_slice-sections.ensures ∙ sections_are machine c.args.self.now.link.now c.args.placed.now c.requires.placed in
    err_exit (Reaches machine c.args.self.now.link.now (λ q. IsSpannedLink machine c.args.self.now.link.now (record { placed = c.args.placed.now; joined = q.0; segments = q.1 }))) _ c.from_residual.result c.from_residual.ensures.1 (λ e is.
    from_placed machine c.args.self.now.link.now c.args.placed.now (Err e) c.requires.placed
    (unjoined made c.in_err-joined.field-0.0 e (rw spans at c.in_err-joined.ensures.refusal) is))

pub returns-in_err-segments : goal.returns-in_err-segments
returns-in_err-segments g c =
    let machine = platform_machine (g.P.Platform.segment_start c.args.self.now.platform.now) (g.P.Platform.table_sizes c.args.self.now.platform.now) (g.A.Arch.config_of c.args.self.now.arch.now) in
    let made : Made = made_placed c.requires.placed in
    let spans : c.as_slice-sections.result.now ≡ made_sections made = c.as_slice-sections.ensures ∙ sections_are machine c.args.self.now.link.now c.args.placed.now c.requires.placed in
    let fit : merge_refusal made.link.plan.sections (made_sections made) ≡ None = rw spans at c.in_ok-joined.ensures.fits in
    let marks : is_marked c.as_slice-emitted.result.now ≡ is_emitted (made_content made) = ap is_marked (c.as_slice-emitted.ensures ∙ ap (λ (h : HeaderInfo). h.emitted) c.header-header.ensures) ∙ c.requires.placed.marks in
    let active : c.as_slice-active.result.now ≡ active_segments (made_content made)
    = c.as_slice-active.ensures ∙ ap (λ (h : HeaderInfo). h.active_segment_ids) (c.header-header.ensures ∙ c.requires.placed.owners.header) in
    err_exit (Reaches machine c.args.self.now.link.now (λ q. IsSpannedLink machine c.args.self.now.link.now (record { placed = c.args.placed.now; joined = q.0; segments = q.1 }))) _ c.from_residual-in_err-segments.result c.from_residual-in_err-segments.ensures.1 (λ e is.
    from_placed machine c.args.self.now.link.now c.args.placed.now (Err e) c.requires.placed
    (outside_segments made c.in_err-segments.field-0.0 e (ap (option_map place_error) fit) (rw (spans, marks, active) at c.in_err-segments.ensures.refusal) is))

pub returns : goal.returns
returns g c =
    let machine = platform_machine (g.P.Platform.segment_start c.args.self.now.platform.now) (g.P.Platform.table_sizes c.args.self.now.platform.now) (g.A.Arch.config_of c.args.self.now.arch.now) in
    let link : LinkInput = c.args.self.now.link.now in
    let made : Made = made_placed c.requires.placed in
    let spans : c.as_slice-sections.result.now ≡ made_sections made = c.as_slice-sections.ensures ∙ sections_are machine c.args.self.now.link.now c.args.placed.now c.requires.placed in
    let fit : merge_refusal link.plan.sections (made_sections made) ≡ None = rw spans at c.in_ok-joined.ensures.fits in
    let marks : is_marked c.as_slice-emitted.result.now ≡ is_emitted (made_content made) = ap is_marked (c.as_slice-emitted.ensures ∙ ap (λ (h : HeaderInfo). h.emitted) c.header-header.ensures) ∙ c.requires.placed.marks in
    let active : c.as_slice-active.result.now ≡ active_segments (made_content made)
    = c.as_slice-active.ensures ∙ ap (λ (h : HeaderInfo). h.active_segment_ids) (c.header-header.ensures ∙ c.requires.placed.owners.header) in
    let layouts : c.in_ok-segments.segments.segments ≡ made_segments made = rw (spans, marks, active) at c.in_ok-segments.ensures.layouts in
    let inside : segments_of made ≡ None = rw (spans, marks, active) at c.in_ok-segments.ensures.refuses_none in
    record {
      placed = c.requires.placed;
      fits = fit;
      covered = inside;
      joined = c.from_vec.ensures ∙ c.in_ok-joined.ensures.merged ∙ ap (merged_records link.plan.sections) spans;
      segments = layouts;
      thread_local = c.in_ok-segments.ensures.thread_local ∙ ap (λ (ls : List SegmentLayout). option_map (λ l. l.sizes) (thread_local_one link.plan ls)) layouts;
    }
