-- What the headers tell.
use Rattle.lk_tables.specs.declared.header_info.HeaderInfo.{HeaderInfo}
use Rattle.lk_tables.specs.HeaderParts.{section_count}
use Rattle.lk_tables.specs.Singletons.{singleton_name_bytes}
use Rattle.lk_sizes.specs.Attributes.{by_section}
use Rattle.lk_sizes.specs.Emitted.{active_segments, emitted_marks, output_index, told_marks}
use Rattle.lk_sizes.specs.Owners.{Content}

-- marks of emitted sections and of those whose edges are told, indexes in the output and active segments, how many sections have headers,
-- and the bytes of the names of singletons (libwild: `determine_header_sizes`)
abbrev pub header_info : Content → HeaderInfo
header_info content = record {
  emitted = emitted_marks content;
  told = told_marks content;
  output_section_indexes = by_section (output_index content) content.link;
  active_segment_ids = active_segments content;
  num_output_sections_with_content = section_count content.link content.live (emitted_marks content);
  partial_link_section_name_bytes = singleton_name_bytes content.link content.live;
}
