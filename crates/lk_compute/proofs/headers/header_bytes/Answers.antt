use Rattle.std.proofs.Common.{◌≡◌, arith}
use Rattle.lk_link.specs.TableSizes.{AreLawful}
use Rattle.lk_tables.specs.HeaderParts.{file_header_entries, program_header_entries, told_sum}
use Rattle.lk_tables.specs.SymbolTable.{entry_bytes}
use Rattle.lk_compute.proofs.FewHeaders.{few_file_bytes, few_segment_bytes}
use Rattle.lk_compute.proofs.headers.header_bytes.Goals as goal

pub overflow_cast-result : goal.overflow_cast-result
overflow_cast-result g c =
    let sizes = g.P.Platform.table_sizes c.args.platform.now in
    let lawful : AreLawful sizes = g.met.P.Platform.sizes_are_lawful c.args.platform.now in
    let active = c.args.header.now.active_segment_ids in
    let segments : c.header_sizes-sizes.result.program_headers ≡ told_sum (entry_bytes (program_header_entries sizes.program_header active))
    = c.header_sizes-sizes.ensures.segments in
    omega (arith, segments, few_segment_bytes sizes.program_header active lawful.program_header c.requires.few)

pub overflow_add-result : goal.overflow_add-result
overflow_add-result g c =
    let sizes = g.P.Platform.table_sizes c.args.platform.now in
    let lawful : AreLawful sizes = g.met.P.Platform.sizes_are_lawful c.args.platform.now in
    let active = c.args.header.now.active_segment_ids in
    let segments : c.header_sizes-sizes.result.program_headers ≡ told_sum (entry_bytes (program_header_entries sizes.program_header active))
    = c.header_sizes-sizes.ensures.segments in
    let file : c.header_sizes-sizes.result.file_header ≡ entry_bytes (file_header_entries sizes.file_header) = c.header_sizes-sizes.ensures.file in
    omega (arith, segments, file, few_segment_bytes sizes.program_header active lawful.program_header c.requires.few, few_file_bytes sizes.file_header lawful.file_header)

pub returns : goal.returns
returns g c live = omega (arith, c.header_sizes-sizes.ensures.file, c.header_sizes-sizes.ensures.segments)
