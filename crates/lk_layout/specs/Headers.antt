-- The bytes of the headers that stand in front of what is loaded.
use Rattle.std.specs.Prelude.{ℕ, ◌+◌}
use Rattle.lk_link.specs.declared.link.LinkInput.{LinkInput}
use Rattle.lk_layout.specs.Machines.{Machine}
use Rattle.lk_live.specs.declared.live.Live.{Live}
use Rattle.lk_tables.specs.declared.headers.HeaderSizes.{HeaderSizes}
use Rattle.lk_sizes.specs.Header.{header_info}
use Rattle.lk_tables.specs.HeaderParts.{header_sizes}
use Rattle.lk_resolutions.specs.OutputContent.{output_content}

-- the header of the file, and those of segments
abbrev pub leading_bytes : HeaderSizes → ℕ
leading_bytes sizes = sizes.file_header + sizes.program_headers

-- those of a link on a machine, with a header for each active segment
abbrev pub header_bytes : Machine → LinkInput → Live → ℕ
header_bytes machine link live =
    let info = header_info (output_content machine.sizes link live) in
    leading_bytes (header_sizes machine.sizes link live info.emitted info.active_segment_ids)
