-- The report: the lines that tell where everything of a link stands.
use Rattle.std.specs.Prelude.{ℕ, suc, ◌+◌, ◌%◌, ◌^◌, ◌==◌, ◌&&◌, ◌||◌, not, nat_lt, Bool, if◌then◌else◌, List, [], ◌∷◌, ◌++◌, Option, Some}
use Rattle.std.specs.Prelude.{None, Result, Ok, Err, codes, length, slice_get, slice_range}
use Rattle.std.specs.List.{concat, flat_map, list_any}
use Rattle.std.specs.Fmt.{decimal}
use Rattle.lk_link.specs.declared.ids.FileId.{FileId}
use Rattle.lk_link.specs.declared.link.LinkInput.{LinkInput}
use Rattle.lk_link.specs.declared.plan.PlanSection.{PlanSection}
use Rattle.lk_link.specs.Inputs.{Input}
use Rattle.lk_link.specs.Parts.{first_part}
use Rattle.lk_link.specs.Texts.{joined}
use Rattle.lk_layout.specs.LayoutRecord.{LayoutRecord}
use Rattle.lk_line.specs.Hexadecimal.{hexadecimal}
use Rattle.lk_resolutions.specs.declared.resolution.EntryFault.{EntryFault}
use Rattle.lk_resolutions.specs.declared.resolution.EntryFault.TheVariants.{NotAnAddress, NotLoaded}
use Rattle.lk_link.specs.declared.resolution.Resolution.{Resolution}
use Rattle.lk_layout.specs.Layouts.{emitted_count, resolved_entry, thunk_address, told_live, told_singletons}
use Rattle.lk_merge.specs.Addresses.{image_start}
use Rattle.lk_merge.specs.Hash.{fnv64}
use Rattle.lk_merge.specs.Image.{all_pieces, image, image_pieces, image_place}
use Rattle.lk_merge.specs.Pieces.{Piece, MergeInput}
use Rattle.lk_sizes.specs.declared.addresses.LiveSection.{LiveSection}
use Rattle.lk_place.specs.declared.segments.SegmentLayout.{SegmentLayout}
use Rattle.lk_expressions.specs.Records.{Record}

-- ---- pieces of a line

-- an address behind `0x`, or `-` where there is none
abbrev pub address_text : Option ℕ → List ℕ
address_text None = codes "-"
address_text (Some address) = codes "0x" ++ hexadecimal address

-- where something stands in memory and in the file, and its alignment
unfoldable pub range_text : Record → List ℕ
range_text r = joined (
    codes "mem 0x" ∷ hexadecimal r.mem_offset ∷ codes " " ∷ decimal r.mem_size ∷
    codes " file 0x" ∷ hexadecimal r.file_offset ∷ codes " " ∷ decimal r.file_size ∷
    codes " align " ∷ decimal r.alignment ∷ [])

-- an index in the output, or `-` where there is none
abbrev pub index_text : Option ℕ → List ℕ
index_text None = codes "-"
index_text (Some k) = decimal k

-- the texts of all items, one after the other, each by its number; the first has the number n
unfoldable pub each : {X : Type 0} → (ℕ → X → List ℕ) → ℕ → List X → List ℕ
each text n [] = []
each text n (x ∷ xs) = text n x ++ each text (suc n) xs

-- ---- sections

-- the line of an output section
unfoldable pub section_line : ℕ → Record → Option ℕ → ℕ → List ℕ
section_line s r index attrs = joined (
    codes "section " ∷ decimal s ∷ codes " index " ∷ index_text index ∷ codes " " ∷ range_text r ∷
    codes " lma 0x" ∷ hexadecimal r.lma_offset ∷ codes " attrs " ∷ decimal attrs ∷ codes "\n" ∷ [])

-- the same, where the section has a record, an index and attributes; else nothing
unfoldable pub section_text : ℕ → Option Record → Option (Option ℕ) → Option ℕ → List ℕ
section_text s (Some r) (Some index) (Some attrs) = section_line s r index attrs
section_text s _ _ _ = []

-- that of the section with this number in a layout
abbrev pub laid_out_text : LayoutRecord → ℕ → List ℕ
laid_out_text layout s =
    section_text s (slice_get layout.section_layouts s) (slice_get layout.output_section_indexes s) (slice_get layout.section_attributes s)

-- ---- parts

-- whether a part takes memory
abbrev pub takes_memory : Record → Bool
takes_memory r = nat_lt 0 r.mem_size

-- the line of a part
unfoldable pub part_line : ℕ → Record → List ℕ
part_line p r = joined (codes "part " ∷ decimal p ∷ codes " " ∷ range_text r ∷ codes "\n" ∷ [])

-- the same, where the part is told: one with bytes, and the first part of a section without bytes
unfoldable pub part_text : Bool → ℕ → ℕ → Record → List ℕ
part_text is_empty first p r = if takes_memory r || (is_empty && p == first) then part_line p r else []

-- the lines of a section's parts that are told; the first part has the number first
abbrev pub told_lines : ℕ → List Record → List ℕ
told_lines first parts = each (part_text (not (list_any takes_memory parts)) first) first parts

-- the lines of a section's parts
abbrev pub section_part_lines : List PlanSection → List Record → ℕ → List ℕ
section_part_lines sections parts s =
    told_lines (first_part sections s) (slice_range parts (first_part sections s) (first_part sections (s + 1)))

-- ---- segments and live sections

-- the line of a segment
unfoldable pub segment_line : SegmentLayout → List ℕ
segment_line segment = joined (codes "segment " ∷ decimal segment.id ∷ codes " " ∷ range_text segment.sizes ∷ codes "\n" ∷ [])

-- the line of a live section
unfoldable pub live_line : LiveSection → List ℕ
live_line live = joined (
    codes "live " ∷ decimal live.file.group ∷ codes " " ∷ decimal live.file.file ∷ codes " " ∷ decimal live.index ∷
    codes " 0x" ∷ hexadecimal live.address ∷ codes " " ∷ decimal live.size ∷ codes "\n" ∷ [])

-- ---- singletons

-- the line of a singleton, with its index in the output
unfoldable pub single_line : ℕ → Input → List ℕ
single_line index x = joined (
    codes "single " ∷ decimal x.file.group ∷ codes " " ∷ decimal x.file.file ∷ codes " " ∷ decimal x.index ∷
    codes " " ∷ decimal index ∷ codes "\n" ∷ [])

-- ---- merged strings

-- the line of an output section into which these inputs are merged, and whose image starts at an address: the bytes and the number of
-- its distinct pieces, the number and the bytes of all pieces
unfoldable pub merged_line : ℕ → ℕ → List MergeInput → List ℕ
merged_line s start inputs = joined (
    codes "merged " ∷ decimal s ∷ codes " " ∷ decimal (length (image fnv64 (all_pieces inputs))) ∷
    codes " " ∷ decimal (length (image_pieces fnv64 (all_pieces inputs))) ∷ codes " " ∷ decimal (length (all_pieces inputs)) ∷
    codes " " ∷ decimal (length (concat (all_pieces inputs))) ∷ codes " 0x" ∷ hexadecimal start ∷ codes "\n" ∷ [])

-- the same, where something is merged there, be it without bytes; else nothing
unfoldable pub merged_text : List ℕ → ℕ → List MergeInput → List ℕ
merged_text starts s inputs = if not (length inputs == 0) then merged_line s (image_start starts s) inputs else []

-- the line of a distinct piece of an output section, with its address and its bytes
unfoldable pub piece_line : ℕ → ℕ → ℕ → List ℕ
piece_line s address len = joined (
    codes "piece " ∷ decimal s ∷ codes " 0x" ∷ hexadecimal address ∷ codes " " ∷ decimal len ∷ codes "\n" ∷ [])

-- an address so many bytes behind another, within 64 bits
abbrev pub bytes_behind : ℕ → ℕ → ℕ
bytes_behind address bytes = (address + bytes) % 2 ^ 64

-- the lines of the distinct pieces of an output section whose image starts at an address: in its order, each where the image has it
abbrev pub piece_lines : ℕ → ℕ → List Piece → List ℕ
piece_lines s start pieces = flat_map (λ p. piece_line s (bytes_behind start (image_place fnv64 pieces p)) (length p)) (image_pieces fnv64 pieces)

-- ---- thunks

-- the line of a block with the file that owns it
unfoldable pub block_line : ℕ → FileId → List ℕ
block_line b id = joined (codes "block " ∷ decimal b ∷ codes " " ∷ decimal id.group ∷ codes " " ∷ decimal id.file ∷ codes "\n" ∷ [])

-- the same, if a file owns the block
unfoldable pub block_text : ℕ → Option FileId → List ℕ
block_text b None = []
block_text b (Some id) = block_line b id

-- the line of a block's thunk for a symbol
unfoldable pub thunk_line : ℕ → ℕ → Option ℕ → List ℕ
thunk_line b s address = joined (codes "thunk " ∷ decimal b ∷ codes " " ∷ decimal s ∷ codes " " ∷ address_text address ∷ codes "\n" ∷ [])

-- the lines of a block's thunks, each with the address that the layout has for it
abbrev pub block_thunks : LayoutRecord → ℕ → List ℕ → List ℕ
block_thunks layout b symbols = each (λ k s. thunk_line b s (thunk_address layout b k)) 0 symbols

-- ---- symbols and the entry

-- the line of a symbol with this resolution: its value and flags, where its entries stand in got and plt, and its number among dynamic
-- symbols
unfoldable pub symbol_line : ℕ → Resolution → List ℕ
symbol_line s r = joined (
    codes "symbol " ∷ decimal s ∷ codes " 0x" ∷ hexadecimal r.raw_value ∷ codes " " ∷ decimal r.flags.0 ∷
    codes " got " ∷ address_text r.got ∷ codes " plt " ∷ address_text r.plt ∷ codes " dyn " ∷ index_text r.dynamic ∷ codes "\n" ∷ [])

-- the same, where the symbol has a resolution; else nothing
unfoldable pub symbol_text : ℕ → Option Resolution → List ℕ
symbol_text s None = []
symbol_text s (Some r) = symbol_line s r

-- the line of the entry: its address, or that there is none, or why it has none
unfoldable pub entry_line : Result (Option ℕ) EntryFault → List ℕ
entry_line (Ok (Some address)) = joined (codes "entry 0x" ∷ hexadecimal address ∷ codes "\n" ∷ [])
entry_line (Ok None) = codes "entry -\n"
entry_line (Err NotLoaded) = codes "entry not loaded\n"
entry_line (Err NotAnAddress) = codes "entry not an address\n"

-- ---- the report

-- the texts of a report in their order; a section or a part that the layout has no record of is left out
abbrev pub report_texts : LinkInput → LayoutRecord → List (List ℕ)
report_texts link layout =
    let starts = layout.merged_string_start_addresses in
    codes "layout\n"
    -- all output sections, all parts, the active segments
    ∷ each (λ s _. laid_out_text layout s) 0 link.plan.sections
    ∷ each (λ s _. section_part_lines link.plan.sections layout.section_part_layouts s) 0 link.plan.sections
    ∷ each (λ _ segment. segment_line segment) 0 layout.segment_layouts
    -- the live sections; the singletons, whose indexes follow those of the emitted sections
    ∷ flat_map live_line (told_live link layout)
    ∷ each single_line (emitted_count layout) (told_singletons link layout)
    -- all output sections into which something is merged, and then all distinct pieces, by number
    ∷ each (merged_text starts) 0 layout.merged_strings
    ∷ each (λ s inputs. piece_lines s (image_start starts s) (all_pieces inputs)) 0 layout.merged_strings
    -- all blocks that files own, and then the thunks of all blocks, by number
    ∷ each block_text 0 layout.thunk_block_owners
    ∷ each (block_thunks layout) 0 layout.thunk_blocks
    -- all symbols with a resolution, by number
    ∷ each symbol_text 0 layout.symbol_resolutions
    ∷ entry_line (resolved_entry layout)
    ∷ codes "end\n" ∷ []

-- the report of a link's layout
abbrev pub report : LinkInput → LayoutRecord → List ℕ
report link layout = joined (report_texts link layout)
