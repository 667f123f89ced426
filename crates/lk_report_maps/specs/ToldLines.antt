-- The lines of a report, as lines of a map: what each says, by its form.
use Rattle.std.specs.Prelude.{ℕ, suc, ◌+◌, ◌^◌, ◌<◌, ◌==◌, ◌&&◌, ◌||◌, not, Bool, if◌then◌else◌, List, [], ◌∷◌, ◌++◌, map, Option, Some, None, Result, Ok, Err, IfSome, length, slice_get, slice_range}
use Rattle.std.specs.List.{concat, flat_map, list_any, All}
use Rattle.lk_map.specs.declared.forms.Form.TheVariants as form
use Rattle.lk_map.specs.Lines.{Line}
use Rattle.lk_link.specs.Inputs.{Input}
use Rattle.lk_link.specs.Parts.{first_part}
use Rattle.lk_link.specs.declared.ids.FileId.{FileId}
use Rattle.lk_link.specs.declared.link.LinkInput.{LinkInput}
use Rattle.lk_link.specs.declared.plan.PlanSection.{PlanSection}
use Rattle.lk_link.specs.declared.resolution.Resolution.{Resolution}
use Rattle.lk_expressions.specs.Records.{Record}
use Rattle.lk_merge.specs.Addresses.{image_start}
use Rattle.lk_merge.specs.Hash.{fnv64}
use Rattle.lk_merge.specs.Image.{all_pieces, image, image_pieces, image_place}
use Rattle.lk_merge.specs.Pieces.{MergeInput, Piece}
use Rattle.lk_sizes.specs.declared.addresses.LiveSection.{LiveSection}
use Rattle.lk_place.specs.declared.segments.SegmentLayout.{SegmentLayout}
use Rattle.lk_layout.specs.LayoutRecord.{LayoutRecord}
use Rattle.lk_layout.specs.Layouts.{emitted_count, resolved_entry, thunk_address, told_live, told_singletons}
use Rattle.lk_resolutions.specs.declared.resolution.EntryFault.{EntryFault}
use Rattle.lk_resolutions.specs.declared.resolution.EntryFault.TheVariants.{NotAnAddress, NotLoaded}
use Rattle.lk_report.specs.Report.{bytes_behind, takes_memory}

-- what items say, one after the other, each by its number; the first has the number n
unfoldable pub each_line : {X : Type 0} → (ℕ → X → List Line) → ℕ → List X → List Line
each_line says n [] = []
each_line says n (x ∷ xs) = says n x ++ each_line says (suc n) xs

-- ---- sections

-- the line of a section
abbrev pub section_told : ℕ → Record → Option ℕ → ℕ → Line
section_told s r index attrs = record {
  form = form.Section;
  values =
      Some s ∷ index ∷ Some r.mem_offset ∷ Some r.mem_size ∷ Some r.file_offset ∷ Some r.file_size ∷ Some r.alignment ∷
      Some r.lma_offset ∷ Some attrs ∷ [];
}

-- the same, where the section has a record, an index and attributes; else nothing
unfoldable pub section_says : ℕ → Option Record → Option (Option ℕ) → Option ℕ → List Line
section_says s (Some r) (Some index) (Some attrs) = section_told s r index attrs ∷ []
section_says s _ _ _ = []

-- that of the section with this number in a layout
abbrev pub laid_out_says : LayoutRecord → ℕ → List Line
laid_out_says layout s =
    section_says s (slice_get layout.section_layouts s) (slice_get layout.output_section_indexes s) (slice_get layout.section_attributes s)

-- the lines of all sections
abbrev pub all_sections_say : List PlanSection → LayoutRecord → List Line
all_sections_say sections layout = each_line (λ s _. laid_out_says layout s) 0 sections

-- ---- parts and segments

-- the values of a record: memory and file, each with its start and its bytes, and the alignment
abbrev pub range_values : Record → List (Option ℕ)
range_values r = Some r.mem_offset ∷ Some r.mem_size ∷ Some r.file_offset ∷ Some r.file_size ∷ Some r.alignment ∷ []

-- the line of a part
abbrev pub part_told : ℕ → Record → Line
part_told p r = record { form = form.Part; values = Some p ∷ range_values r }

-- the same, where the part is told
unfoldable pub part_says : Bool → ℕ → ℕ → Record → List Line
part_says is_empty first p r = if takes_memory r || (is_empty && p == first) then part_told p r ∷ [] else []

-- the lines of a section's parts that are told; the first part has the number first
abbrev pub told_parts_say : ℕ → List Record → List Line
told_parts_say first parts = each_line (part_says (not (list_any takes_memory parts)) first) first parts

-- the lines of a section's parts
abbrev pub section_parts_say : List PlanSection → List Record → ℕ → List Line
section_parts_say sections parts s =
    told_parts_say (first_part sections s) (slice_range parts (first_part sections s) (first_part sections (s + 1)))

-- the lines of all parts
abbrev pub all_parts_say : List PlanSection → List Record → List Line
all_parts_say sections parts = each_line (λ s section. section_parts_say sections parts s) 0 sections

-- the line of a segment
abbrev pub segment_told : SegmentLayout → Line
segment_told segment = record { form = form.Segment; values = Some segment.id ∷ range_values segment.sizes }

-- ---- live sections and singletons

-- the line of a live section
abbrev pub live_told : LiveSection → Line
live_told live = record {
  form = form.Live;
  values = Some live.file.group ∷ Some live.file.file ∷ Some live.index ∷ Some live.address ∷ Some live.size ∷ [];
}

-- the line of a singleton, with its index in the output
abbrev pub single_told : ℕ → Input → Line
single_told index x = record {
  form = form.Single;
  values = Some x.file.group ∷ Some x.file.file ∷ Some x.index ∷ Some index ∷ [];
}

-- ---- merged strings

-- the line of an output section into which these inputs are merged, and whose image starts at an address
abbrev pub merged_told : ℕ → ℕ → List MergeInput → Line
merged_told s start inputs = record {
  form = form.Merged;
  values =
      Some s ∷ Some (length (image fnv64 (all_pieces inputs))) ∷ Some (length (image_pieces fnv64 (all_pieces inputs))) ∷
      Some (length (all_pieces inputs)) ∷ Some (length (concat (all_pieces inputs))) ∷ Some start ∷ [];
}

-- the same, where something is merged there
unfoldable pub merged_says : List ℕ → ℕ → List MergeInput → List Line
merged_says starts s inputs = if not (length inputs == 0) then merged_told s (image_start starts s) inputs ∷ [] else []

-- the line of a distinct piece of an output section, with its address and its bytes
abbrev pub piece_told : ℕ → ℕ → ℕ → Line
piece_told s address len = record { form = form.Piece; values = Some s ∷ Some address ∷ Some len ∷ [] }

-- the lines of the distinct pieces of an output section whose image starts at an address
abbrev pub pieces_say : ℕ → ℕ → List Piece → List Line
pieces_say s start pieces = map (λ p. piece_told s (bytes_behind start (image_place fnv64 pieces p)) (length p)) (image_pieces fnv64 pieces)

-- ---- thunks

-- the line of a block with the file that owns it
abbrev pub block_told : ℕ → FileId → Line
block_told b id = record { form = form.Block; values = Some b ∷ Some id.group ∷ Some id.file ∷ [] }

-- the same, if a file owns the block
unfoldable pub block_says : ℕ → Option FileId → List Line
block_says b None = []
block_says b (Some id) = block_told b id ∷ []

-- the line of a block's thunk for a symbol
abbrev pub thunk_told : ℕ → ℕ → Option ℕ → Line
thunk_told b s address = record { form = form.Thunk; values = Some b ∷ Some s ∷ address ∷ [] }

-- the lines of a block's thunks, each with the address that the layout has for it
abbrev pub block_thunks_say : LayoutRecord → ℕ → List ℕ → List Line
block_thunks_say layout b symbols = each_line (λ k s. thunk_told b s (thunk_address layout b k) ∷ []) 0 symbols

-- ---- symbols and the entry

-- the line of a symbol with this resolution
abbrev pub symbol_told : ℕ → Resolution → Line
symbol_told s r = record {
  form = form.Symbol;
  values = Some s ∷ Some r.raw_value ∷ Some r.flags.0 ∷ r.got ∷ r.plt ∷ r.dynamic ∷ [];
}

-- the same, where the symbol has a resolution
unfoldable pub symbol_says : ℕ → Option Resolution → List Line
symbol_says s None = []
symbol_says s (Some r) = symbol_told s r ∷ []

-- the line of the entry
unfoldable pub entry_told : Result (Option ℕ) EntryFault → Line
entry_told (Ok address) = record { form = form.Entry; values = address ∷ [] }
entry_told (Err NotLoaded) = record { form = form.NotLoaded; values = [] }
entry_told (Err NotAnAddress) = record { form = form.NotAnAddress; values = [] }

-- ---- the report

-- the lines between the first one and that of the entry: kind by kind, in the order of kinds
abbrev pub inner_lines : LinkInput → LayoutRecord → List (List Line)
inner_lines link layout =
    all_sections_say link.plan.sections layout ∷
    all_parts_say link.plan.sections layout.section_part_layouts ∷
    map segment_told layout.segment_layouts ∷
    map live_told (told_live link layout) ∷
    each_line (λ index x. single_told index x ∷ []) (emitted_count layout) (told_singletons link layout) ∷
    each_line (merged_says layout.merged_string_start_addresses) 0 layout.merged_strings ∷
    each_line (λ s inputs. pieces_say s (image_start layout.merged_string_start_addresses s) (all_pieces inputs)) 0 layout.merged_strings ∷
    each_line block_says 0 layout.thunk_block_owners ∷
    each_line (block_thunks_say layout) 0 layout.thunk_blocks ∷
    each_line symbol_says 0 layout.symbol_resolutions ∷ []

-- the lines of a report
abbrev pub told_lines : LinkInput → LayoutRecord → List Line
told_lines link layout =
    record { form = form.Layout; values = [] } ∷
    (flat_map (λ lines. lines) (inner_lines link layout) ++ entry_told (resolved_entry layout) ∷ record { form = form.End; values = [] } ∷ [])

-- each number that lines say is below 2^64
abbrev pub AreShort : List Line → Type 0
AreShort lines = All (λ l. All (λ v. IfSome v (λ n. n < 2 ^ 64)) l.values) lines
