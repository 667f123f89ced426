-- What a layout holds, as contracts see it: its link, and where everything of it stands.
use Rattle.std.specs.Prelude.{ℕ, Bool, List, Option}
use Rattle.lk_link.specs.declared.flags.ValueFlags.{ValueFlags}
use Rattle.lk_link.specs.declared.ids.FileId.{FileId}
use Rattle.lk_link.specs.declared.link.LinkInput.{LinkInput}
use Rattle.lk_link.specs.declared.resolution.Resolution.{Resolution}
use Rattle.lk_expressions.specs.Records.{Record}
use Rattle.lk_merge.specs.Pieces.{MergeInput}
use Rattle.lk_place.specs.declared.segments.SegmentLayout.{SegmentLayout}
use Rattle.lk_deltas.specs.LinkDeletions.{Deletions}
use Rattle.lk_sizes.specs.declared.sorted.InputSortedSection.{InputSortedSection}
use Rattle.lk_group_starts.specs.declared.group_starts.GroupStarts.{GroupStarts}
use Rattle.lk_tables.specs.declared.header_info.HeaderInfo.{HeaderInfo}
use Rattle.lk_tables.specs.declared.partial_link.PartialLinkPlan.{PartialLinkPlan}

pub record LayoutRecord : Type 0 where
  pub link : LinkInput
  -- of each output section; of each with its secondaries, from its own start on; and of each part, numbered over all sections
  pub section_layouts : List Record
  pub merged_section_layouts : List Record
  pub section_part_layouts : List Record
  -- of each output section its attributes, and its index in the output, if it is emitted
  pub section_attributes : List ℕ
  pub output_section_indexes : List (Option ℕ)
  -- which output sections are emitted and which segments are active, and how many headers there are
  pub header_info : HeaderInfo
  -- of each active segment; and of the thread-local one
  pub segment_layouts : List SegmentLayout
  pub tls_layout : Option Record
  -- of each input section, by its number over all files, whether it is live, and its address
  pub live_marks : List Bool
  pub section_addresses : List ℕ
  -- what is deleted of the sections of each file, by the file's number over all groups and the section's index
  pub section_deletions : Deletions
  -- of each output section what is merged there, and where the buckets stand
  pub merged_strings : List (List MergeInput)
  pub merged_string_start_addresses : List ℕ
  -- of each symbol, by number, what it stands for
  pub symbol_resolutions : List (Option Resolution)
  -- of each symbol, by number, its own flags, late marks included
  pub flags : List ValueFlags
  -- the symbol that stands for the one where the program starts
  pub entry_symbol_id : Option ℕ
  -- the live sections that are put in order by their names, in that order
  pub script_sorted_sections : List InputSortedSection
  -- where output is linked again, how many input sections of each group stay output sections of their own, and the bytes of their names
  pub partial_link : Option PartialLinkPlan
  -- of each block of thunks the definitions that it has some for, in rising order; the object that owns it, if one does; and where its
  -- thunks begin
  pub thunk_blocks : List (List ℕ)
  pub thunk_block_owners : List (Option FileId)
  pub thunk_block_addresses : List (Option ℕ)
  -- each object that needs thunks, with its block, and whether it owns that
  pub thunk_users : List (FileId × ℕ × Bool)
  -- the bytes of a thunk
  pub thunk_size : ℕ
  -- how many entries of the dynamic symbol table stand before the exports
  pub dynsym_start_index : ℕ
  -- where each group begins in the tables of symbols, and behind all of them that of the epilogue
  pub group_starts : GroupStarts
