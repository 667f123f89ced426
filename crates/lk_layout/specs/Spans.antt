-- What the output sections and segments of a layout span.
use Rattle.std.specs.Prelude.{List}
use Rattle.lk_expressions.specs.Records.{Record}
use Rattle.lk_place.specs.declared.segments.SegmentFileLayout.TheVariants.{FromSections}
use Rattle.lk_place.specs.declared.segments.SegmentLayout.{SegmentLayout}
use Rattle.lk_place.specs.Secondaries.{merged_records}
use Rattle.lk_place.specs.Segments.{section_records, segment_layouts}
use Rattle.lk_sizes.specs.Emitted.{active_segments, is_emitted}
use Rattle.lk_layout.specs.Made.{Made, made_content}

-- the records of its output sections, each by itself
abbrev pub made_sections : Made → List Record
made_sections made = section_records made.link.plan.sections made.stage.records

-- and with those that are secondary to them
abbrev pub made_joined : Made → List Record
made_joined made = merged_records made.link.plan.sections (made_sections made)

-- what the active segments span
abbrev pub made_segments : Made → List SegmentLayout
made_segments made =
    let content = made_content made in
    segment_layouts FromSections made.link.plan made.link.options.stack (made_sections made) (is_emitted content) (active_segments content)
