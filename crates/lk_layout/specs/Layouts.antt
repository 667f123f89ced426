-- What a layout answers.
use Rattle.std.specs.Prelude.{ℕ, ◌+◌, ◌*◌, ◌&&◌, Bool, List, None, Option, Result, filter, is_some, length, map, option_and_then, slice_index, sum_by}
use Rattle.std.specs.List.{count_by, enumerate_from, slice_index_or}
use Rattle.lk_live.specs.Slots.{is_singleton}
use Rattle.lk_link.specs.declared.link.LinkInput.{LinkInput}
use Rattle.lk_link.specs.Inputs.{Input, all_inputs}
use Rattle.lk_link.specs.Marks.{is_marked}
use Rattle.lk_sizes.specs.declared.addresses.LiveSection.{LiveSection}
use Rattle.lk_live.specs.Reach.{marked}
use Rattle.lk_deltas.specs.LinkDeletions.{size_after}
use Rattle.lk_relax.specs.Scan.{as_address}
use Rattle.lk_layout.specs.LayoutRecord.{LayoutRecord}
use Rattle.lk_resolutions.specs.declared.resolution.EntryFault.{EntryFault}
use Rattle.lk_resolutions.specs.Resolutions.{entry_address}

-- an input section with its number over all files, as it is told: with its address, and its size without what is deleted
abbrev pub told_section : LinkInput → LayoutRecord → ℕ × Input → LiveSection
told_section link layout q = record {
  file = q.1.file;
  index = q.1.index;
  address = slice_index layout.section_addresses q.0;
  size = size_after link.groups layout.section_deletions q.1;
}

-- the live sections, by file and index
abbrev pub told_live : LinkInput → LayoutRecord → List LiveSection
told_live link layout = map (told_section link layout) (marked layout.live_marks (enumerate_from 0 (all_inputs link.groups)))

-- how many output sections are told with an index
abbrev pub emitted_count : LayoutRecord → ℕ
emitted_count layout = count_by is_some layout.output_section_indexes

-- whether an input section, with its number over all files, is live and stays an output section of its own
abbrev pub is_told_singleton : LinkInput → LayoutRecord → ℕ × Input → Bool
is_told_singleton link layout q = is_marked layout.live_marks q.0 && is_singleton link q.1.section

-- those that are, by file and index: their indexes in the output follow those of the emitted sections
abbrev pub told_singletons : LinkInput → LayoutRecord → List Input
told_singletons link layout = map (λ q. q.1) (filter (is_told_singleton link layout) (enumerate_from 0 (all_inputs link.groups)))

-- the thunks of all blocks together
abbrev pub thunk_count : LayoutRecord → ℕ
thunk_count layout = sum_by length layout.thunk_blocks

-- where the thunk at a place of a block begins: as many thunks behind the block's start as stand before it; none where the block has no address
abbrev pub thunk_address : LayoutRecord → ℕ → ℕ → Option ℕ
thunk_address layout block place =
    option_and_then (λ begin. as_address (begin + place * layout.thunk_size)) (slice_index_or layout.thunk_block_addresses block None)

-- where the program starts
abbrev pub resolved_entry : LayoutRecord → Result (Option ℕ) EntryFault
resolved_entry layout = entry_address layout.symbol_resolutions layout.entry_symbol_id
