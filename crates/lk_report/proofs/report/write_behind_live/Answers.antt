use Rattle.std.specs.Prelude.{string_bytes}
use Rattle.lk_layout.specs.Layouts.{emitted_count, told_singletons}
use Rattle.lk_merge.specs.Addresses.{image_start}
use Rattle.lk_merge.specs.Image.{all_pieces}
use Rattle.lk_report.specs.Report.{block_text, block_thunks, each, merged_text, piece_lines, single_line}
use Rattle.lk_report.proofs.Lines.{in_a_row}
use Rattle.lk_report.proofs.report.write_behind_live.Goals as goal

pub returns : goal.returns
returns c =
    let layout = c.args.layout.now in
    let starts = layout.merged_string_start_addresses in
    let merged = rw (c.merged_strings.ensures, c.merged_string_start_addresses.ensures) at c.in_ok-write_merged.ensures in
    in_a_row (string_bytes c.write_thunks.new.text) (string_bytes c.args.text.now) (each single_line (emitted_count layout) (told_singletons c.args.link.now layout))
    (each (merged_text starts) 0 layout.merged_strings) (each (λ s inputs. piece_lines s (image_start starts s) (all_pieces inputs)) 0 layout.merged_strings)
    (each block_text 0 layout.thunk_block_owners) (each (block_thunks layout) 0 layout.thunk_blocks)
    (cc (c.in_ok-write_singles.ensures, merged, c.in_ok-write_thunks.ensures))
