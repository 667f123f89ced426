-- A layout one of whose sections is moved in the file, and one whose sections and segments are told anew.
use Rattle.std.specs.Prelude.{ℕ, List, Option, option_map}
use Rattle.std.specs.Option.{option_map_or}
use Rattle.lk_link.specs.Marks.{is_marked}
use Rattle.lk_place.specs.declared.segments.SegmentFileLayout.{SegmentFileLayout}
use Rattle.lk_place.specs.declared.segments.SegmentLayout.{SegmentLayout}
use Rattle.lk_place.specs.Secondaries.{merged_records}
use Rattle.lk_place.specs.Segments.{segment_layouts, thread_local_one}
use Rattle.lk_layout.specs.FileRanges.{moved_end, moved_parts, moved_sections}
use Rattle.lk_layout.specs.LayoutRecord.{LayoutRecord}

-- section s and its parts stand from this start on in the file; all else is as it was
abbrev pub moved : LayoutRecord → ℕ → ℕ → LayoutRecord
moved layout s start = record layout {
  section_layouts = moved_sections layout.link.plan.sections layout.section_layouts layout.section_part_layouts s start;
  section_part_layouts = moved_parts layout.link.plan.sections layout.section_part_layouts s start;
}

-- where section s ends then; none where the bytes of all sections wouldn't fit behind the start
abbrev pub end_of_move : LayoutRecord → ℕ → ℕ → Option ℕ
end_of_move layout s start = moved_end layout.link.plan.sections layout.section_layouts layout.section_part_layouts s start

-- the layout behind a call that answers this: as it was where it answers none
abbrev pub after_move : LayoutRecord → ℕ → ℕ → Option ℕ → LayoutRecord
after_move layout s start end = option_map_or (λ _. moved layout s start) end layout

-- what the active segments span by the records of sections, in this kind of file
abbrev pub segments_anew : SegmentFileLayout → LayoutRecord → List SegmentLayout
segments_anew kind layout =
    segment_layouts kind layout.link.plan layout.link.options.stack layout.section_layouts (is_marked layout.header_info.emitted) layout.header_info.active_segment_ids

-- what sections span with their secondaries, and what segments span, as the records of sections have it now; all else is as it was
abbrev pub refreshed : SegmentFileLayout → LayoutRecord → LayoutRecord
refreshed kind layout = record layout {
  merged_section_layouts = merged_records layout.link.plan.sections layout.section_layouts;
  segment_layouts = segments_anew kind layout;
  tls_layout = option_map (λ l. l.sizes) (thread_local_one layout.link.plan (segments_anew kind layout));
}
