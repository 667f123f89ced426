-- What a layout keeps apart, and what it keeps in step.
use Rattle.std.specs.Prelude.{◌≡◌, ◌≢◌, ◌⊎◌, ◌↔◌, ◌&&◌, ◌||◌, not, if◌then◌else◌, [], List, IsSome, Option, is_some, option_and_then, ℕ, ◌+◌, ◌%◌, ◌<◌, ◌≤◌, ◌==◌, Bool, true, false, Some, None, Ok, length, map, pos, slice_get, slice_index}
use Rattle.std.specs.Int.{◌∣◌, abs_diff}
use Rattle.lk_link.specs.declared.file.InputFile.{InputFile}
use Rattle.lk_link.specs.declared.flags.TheConstants.ValueFlags as flag
use Rattle.lk_link.specs.declared.ids.FileId.{FileId}
use Rattle.lk_link.specs.declared.link.LinkInput.{LinkInput}
use Rattle.lk_link.specs.declared.plan.attributes.TheConstants.{EXEC}
use Rattle.lk_link.specs.declared.relocation.RelaxCandidate.{RelaxCandidate}
use Rattle.lk_link.specs.declared.relocation.Relocation.{Relocation}
use Rattle.lk_link.specs.declared.resolution.Resolution.{Resolution}
use Rattle.lk_link.specs.declared.section.InputSection.{InputSection}
use Rattle.lk_link.specs.declared.symbol.InputSymbol.{InputSymbol}
use Rattle.lk_link.specs.declared.symbol.SymbolPlacement.{SymbolPlacement}
use Rattle.lk_link.specs.declared.symbol.SymbolPlacement.TheVariants as at
use Rattle.lk_link.specs.FileKinds.{is_internal, is_object}
use Rattle.lk_link.specs.Files.{file_in}
use Rattle.lk_link.specs.Flags.{has_flag}
use Rattle.lk_link.specs.Inputs.{Input, NumberedFile, all_inputs, input_number}
use Rattle.lk_link.specs.InputSlots.{is_merge, is_regular}
use Rattle.lk_link.specs.Marks.{is_marked}
use Rattle.lk_link.specs.NumberedSymbols.{numbered_symbol}
use Rattle.lk_link.specs.PartRules.{table_parts}
use Rattle.lk_link.specs.Parts.{all_parts, part_at, part_sections}
use Rattle.lk_link.specs.PlanSections.{is_file_backed, is_set}
use Rattle.lk_link.specs.Relocations.{resolution_flags}
use Rattle.lk_link.specs.Symbols.{definition_of, first_symbol, is_wanted}
use Rattle.lk_own_symbols.specs.Edges.{Edges, edge_value, edges_of}
use Rattle.lk_own_symbols.specs.Redirects.{RedirectsHold, is_redirect}
use Rattle.lk_live.specs.declared.live.Live.{Live}
use Rattle.lk_live.specs.Faults.{reference_faults}
use Rattle.lk_live.specs.Reach.{AreLive, live_inputs}
use Rattle.lk_reach.specs.Units.{local_definition}
use Rattle.lk_merge.specs.Addresses.{AreStartsOf, image_start}
use Rattle.lk_merge.specs.Hash.{fnv64}
use Rattle.lk_merge.specs.Image.{all_pieces, image, image_place, is_among}
use Rattle.lk_merge.specs.MergedReferences.{IsShownAt}
use Rattle.lk_merge.specs.OutputAddresses.{MergePlace, Shows, merged_address, offset_place, symbol_place}
use Rattle.lk_merge.specs.Pieces.{Piece, MergeInput}
use Rattle.lk_place.specs.Plain.{IsPlain, PlacesInLoad}
use Rattle.lk_place.specs.Ranges.{FileIsDisjoint, HasPart}
use Rattle.lk_place_laws.specs.MemoryRanges.{MemoryIsDisjoint, TakesMemory}
use Rattle.lk_expressions.specs.Records.{Record, record_at}
use Rattle.lk_deltas.specs.Candidates.{AreOf, is_gone}
use Rattle.lk_deltas.specs.LinkDeletions.{output_offset}
use Rattle.lk_relax.specs.Positions.{has_position}
use Rattle.lk_relax.specs.Scan.{ranges_of}
use Rattle.lk_relax.specs.Stages.{IsRelaxed, refusal_of}
use Rattle.lk_place.specs.Segments.{alignment_inside, first_outside}
use Rattle.lk_sizes.specs.declared.addresses.LiveSection.{LiveSection}
use Rattle.lk_sizes.specs.Emitted.{is_emitted, told_marks}
use Rattle.lk_sizes.specs.Addresses.{live_sections}
use Rattle.lk_sizes.specs.Owners.{CommonOwner, EntryOwner, ImageOwner, IsCommonIn, Owner, SectionOwner, bytes_of, owner_address, size_of}
use Rattle.lk_sizes.specs.PartOwners.{owner_number, owners_of, tables_of, thunk_number}
use Rattle.lk_tables.specs.Late.{flags_at, late_flags}
use Rattle.lk_tables.specs.Singletons.{singletons}
use Rattle.lk_tables.specs.SymbolTable.{SymbolEntry}
use Rattle.lk_tables.specs.TableLaws.{HasLastEntry}
use Rattle.lk_tables.specs.TableLists.{table_of}
use Rattle.lk_sizes.specs.Harvest.{sorted_section}
use Rattle.lk_sizes.specs.Sorted.{IsByName, before}
use Rattle.lk_size_laws.specs.Tiles.{HasByte, IsTiled}
use Rattle.lk_tables.specs.SymbolEntries.{is_resolved}
use Rattle.lk_layout.specs.LayoutRecord.{LayoutRecord}
use Rattle.lk_resolutions.specs.Starts.{starts_of}
use Rattle.lk_layout.specs.Defined.{layout_of}
use Rattle.lk_soundness.specs.GroupPlaces.{GroupsBegin}
use Rattle.lk_layout.specs.Layouts.{emitted_count, thunk_address, told_live, told_singletons}
use Rattle.lk_resolutions.specs.Outside.{merge_offsets}
use Rattle.lk_resolution_list.specs.Lists.{resolution_at}
use Rattle.lk_layout.specs.Made.{Made, made_content, made_filling, made_relaxing}
use Rattle.lk_layout.specs.Redirects.{placed_resolutions, placed_with, value_at}
use Rattle.lk_layout.specs.Thunks.{made_branching}
use Rattle.lk_thunk_plan.specs.BranchLaws.{HaveRanges, LiveBranchesReach}
use Rattle.lk_thunk_plan.specs.Branches.{thunk_in, thunks_of}
use Rattle.lk_thunk_plan.specs.ThunkPlans.{config_for, thunk_size}

-- the record of the part with this number over all sections
abbrev pub part_record : LayoutRecord → ℕ → Record
part_record layout p = record_at layout.section_part_layouts p

-- the owners of a part share out its memory
pub record IsSharedOut (made : Made) (layout : LayoutRecord) (p : ℕ) : Type 0 where
  pub whole : (part_record layout p).mem_size ≡ bytes_of (part_at made.link.plan.sections p) (owners_of (made_filling made) p)
  pub tiled : IsTiled (part_record layout p).mem_offset (part_at made.link.plan.sections p) (owners_of (made_filling made) p)

-- ---- memory

-- x is live section a, and l is told of it
pub record IsTold (made : Made) (layout : LayoutRecord) (a : ℕ) (x : Input) (l : LiveSection) : Type 0 where
  pub there : slice_get (live_inputs made.link made.live) a ≡ Some x
  pub told : slice_get (told_live made.link layout) a ≡ Some l

-- an address lies in the bytes of a live section
pub record IsInSection (address : ℕ) (l : LiveSection) : Type 0 where
  pub begins : l.address ≤ address
  pub ends : address < l.address + l.size

-- memory is apart, where sections take addresses: no two parts share one, nor do two live sections, nor two owners: neither live sections nor images
pub record IsApartInMemory (made : Made) (layout : LayoutRecord) : Type 0 where
  pub parts : MemoryIsDisjoint made.link.plan layout.section_part_layouts
  pub sections : (a b address : ℕ) (x y : Input) (l m : LiveSection) → a ≢ b
      → IsTold made layout a x l → IsTold made layout b y m
      → TakesMemory made.link.plan x.section.part → TakesMemory made.link.plan y.section.part
      → IsInSection address l → IsInSection address m → ⊥
  pub owners : (p q j k address : ℕ) → p < length (all_parts made.link.plan.sections) → q < length (all_parts made.link.plan.sections)
      → TakesMemory made.link.plan p → TakesMemory made.link.plan q
      → HasByte (part_record layout p).mem_offset (part_at made.link.plan.sections p) (owners_of (made_filling made) p) j address
      → HasByte (part_record layout q).mem_offset (part_at made.link.plan.sections q) (owners_of (made_filling made) q) k address
      → (p ≡ q) × (j ≡ k)

-- ---- symbols

-- a symbol of an object, by its number, is placed at an offset of a section of its file, stands for itself and is asked for
pub record IsResolvedAt (made : Made) (s i offset : ℕ) (f : NumberedFile) (x : InputSymbol) (section : InputSection) : Type 0 where
  pub named : numbered_symbol made.link.groups s ≡ Some (f, x)
  pub object : is_object f.file.kind ≡ true
  pub resolved : is_resolved made.live f.file.kind (s, x) ≡ true
  pub placed : x.at ≡ at.Section i offset
  pub there : slice_get f.file.sections i ≡ Some section

-- the number that a symbol of an object or of a dynamic file is worth that stands nowhere in the output: its own, if it is absolute; 0, if it is
-- defined nowhere, or by a dynamic file
abbrev pub number_of : SymbolPlacement → Option ℕ
number_of (at.Absolute n) = Some n
number_of at.Undef = Some 0
number_of at.Dynamic = Some 0
number_of _ = None

-- a common of a part, so many bytes large, is an owner of bytes there, and its symbol has the address of these as its value; that is a
-- multiple of the part's alignment, if there are any bytes and the part isn't packed
pub record IsCommonAt (made : Made) (layout : LayoutRecord) (p s size : ℕ) : Type 0 where
  pub part : p < length (all_parts made.link.plan.sections)
  pub number : ℕ
  pub owner : slice_get (owners_of (made_filling made) p) number ≡ Some (CommonOwner s size)
  pub address : ℕ
  pub at : address ≡ owner_address (part_record layout p).mem_offset (part_at made.link.plan.sections p) (owners_of (made_filling made) p) number
  pub valued : value_at layout.symbol_resolutions s ≡ Some address
  pub aligned : 0 < size → (part_at made.link.plan.sections p).packed ≡ false → (part_at made.link.plan.sections p).alignment ∣ address

-- the edges at which the linker's own symbols stand, by the records that are told
abbrev pub told_edges : Made → LayoutRecord → Edges
told_edges made layout = edges_of made.link.plan layout.section_layouts layout.segment_layouts

-- the flags that are told of a symbol are those that the live have of it, with its late mark, if it gets one. It has a resolution exactly where it
-- is wanted, by these flags, and is worth anything: in the prelude, in a script or in a synthetic file where it stands at something, in any other
-- always; and that tells these flags. One of an object that stands for itself, is asked for and is placed in a section is told in a live one, unless
-- its data is merged, and is worth the section's address, and from there where its offset goes by what is deleted. One of an object or of a dynamic
-- file that stands nowhere in the output is worth its number, if it has a resolution, and so is one without a name in merged data 0. Each common
-- that has a resolution stands with its bytes in a part. One of the prelude, of a script or of a synthetic file is worth what it is placed at, if
-- anything, where it stands for itself and is wanted, and else nothing; but each redirect that is evaluated is worth its expression, by what all
-- symbols are worth at last
pub record SymbolsStand (made : Made) (layout : LayoutRecord) : Type 0 where
  pub flags : (s : ℕ) (f : NumberedFile) (x : InputSymbol) → numbered_symbol made.link.groups s ≡ Some (f, x)
      → flags_at layout.flags s ≡ late_flags made.link (told_marks (made_content made)) f.file.kind s x (flags_at made.live.flags s)
  pub given : (s : ℕ) (f : NumberedFile) (x : InputSymbol) → numbered_symbol made.link.groups s ≡ Some (f, x)
      → is_some (resolution_at layout.symbol_resolutions s)
      ≡ (is_wanted f.file.kind s x (flags_at layout.flags s) && (not (is_internal f.file.kind) || is_some (edge_value (told_edges made layout) x.at)))
  pub tells : (s : ℕ) (f : NumberedFile) (x : InputSymbol) (r : Resolution) → numbered_symbol made.link.groups s ≡ Some (f, x)
      → resolution_at layout.symbol_resolutions s ≡ Some r → r.flags ≡ flags_at layout.flags s
  pub valued : (s i offset : ℕ) (f : NumberedFile) (x : InputSymbol) (section : InputSection)
      → IsResolvedAt made s i offset f x section → is_merge section.slot ≡ false → (is_marked layout.live_marks (input_number made.link.groups f.id i) ≡ true)
      × (value_at layout.symbol_resolutions s ≡ Some (slice_index layout.section_addresses (input_number made.link.groups f.id i) + output_offset made.link.groups layout.section_deletions f.id i offset))
  pub nowhere : (s n value : ℕ) (f : NumberedFile) (x : InputSymbol) → numbered_symbol made.link.groups s ≡ Some (f, x)
      → is_internal f.file.kind ≡ false → number_of x.at ≡ Some n → value_at layout.symbol_resolutions s ≡ Some value → value ≡ n
  pub unnamed : (s i offset value : ℕ) (f : NumberedFile) (x : InputSymbol) (section : InputSection)
      → numbered_symbol made.link.groups s ≡ Some (f, x) → is_internal f.file.kind ≡ false → (length x.name == 0) ≡ true
      → x.at ≡ at.Section i offset → slice_get f.file.sections i ≡ Some section → is_merge section.slot ≡ true
      → value_at layout.symbol_resolutions s ≡ Some value → value ≡ 0
  pub commons : (p s size : ℕ) → IsCommonIn made.link made.live p s size → IsCommonAt made layout p s size
  pub edges : (s : ℕ) (f : NumberedFile) (x : InputSymbol) → numbered_symbol made.link.groups s ≡ Some (f, x)
      → is_internal f.file.kind ≡ true → is_redirect made.link.groups s ≡ false
      → value_at layout.symbol_resolutions s ≡ (if is_wanted f.file.kind s x (flags_at layout.flags s) then edge_value (told_edges made layout) x.at else None)
  pub redirects : RedirectsHold (placed_with made layout.section_layouts layout.merged_section_layouts) (value_at (placed_resolutions made)) (value_at layout.symbol_resolutions)

-- ---- entries

-- a symbol has an entry with bytes in a part: it is an owner there, and this is its address
pub record IsEntryAt (made : Made) (layout : LayoutRecord) (p s address : ℕ) : Type 0 where
  pub part : p < length (all_parts made.link.plan.sections)
  pub number : ℕ
  pub bytes : ℕ
  pub some : 0 < bytes
  pub owner : slice_get (owners_of (made_filling made) p) number ≡ Some (EntryOwner (record { owner = SymbolEntry s; bytes = bytes }))
  pub at : address ≡ owner_address (part_record layout p).mem_offset (part_at made.link.plan.sections p) (owners_of (made_filling made) p) number

-- what a resolution tells of entries is its symbol's own, and all of it: its address in got, and in plt, is that of the symbol's entry in
-- the part that the plan names, and its number is the place of the symbol's last entry in the dynamic symbol table
pub record AreOwnEntries (made : Made) (layout : LayoutRecord) (s : ℕ) (r : Resolution) : Type 0 where
  pub got : (address : ℕ) → (r.got ≡ Some address) ↔ ((p : ℕ) × (made.link.plan.named.got ≡ Some p) × IsEntryAt made layout p s address)
  pub plt : (address : ℕ) → (r.plt ≡ Some address) ↔ ((p : ℕ) × (made.link.plan.named.plt ≡ Some p) × IsEntryAt made layout p s address)
  pub dynamic : (k : ℕ) → (r.dynamic ≡ Some k) ↔ HasLastEntry s k made.machine.sizes.symbol_entry (tables_of (made_content made)).dynsym

-- ---- merged data

-- the image of merged inputs is the first owner of a part of their output section, which has alignment 1, and starts with it; each of
-- its distinct pieces has a range of its own there; and at each offset of an input's data the image shows what the input has, from the
-- offset to its piece's end
pub record IsImageAt (made : Made) (layout : LayoutRecord) (s : ℕ) (inputs : List MergeInput) : Type 0 where
  pub part : ℕ
  pub there : part < length (all_parts made.link.plan.sections)
  pub belongs : slice_index (part_sections made.link.plan.sections) part ≡ s
  pub alignment : (part_at made.link.plan.sections part).alignment ≡ 1
  pub owner : slice_get (owners_of (made_filling made) part) 0 ≡ Some (ImageOwner s (length (image fnv64 (all_pieces inputs))))
  pub start : image_start layout.merged_string_start_addresses s ≡ (part_record layout part).mem_offset
  pub within : (p : Piece) → is_among (all_pieces inputs) p ≡ true
      → image_place fnv64 (all_pieces inputs) p + length p ≤ length (image fnv64 (all_pieces inputs))
  pub apart : (p q : Piece) → is_among (all_pieces inputs) p ≡ true → is_among (all_pieces inputs) q ≡ true → p ≢ q
      → (image_place fnv64 (all_pieces inputs) p + length p ≤ image_place fnv64 (all_pieces inputs) q)
      ⊎ (image_place fnv64 (all_pieces inputs) q + length q ≤ image_place fnv64 (all_pieces inputs) p)
  pub shown : (k offset : ℕ) (x : MergeInput) → slice_get inputs k ≡ Some x → offset < length x.bytes
      → Shows inputs x offset (offset_place fnv64 inputs x offset)

-- a relocation of a live regular section that asks for flags, by its file, its section's index and its own
pub record IsReference (link : LinkInput) (live : Live) (id : FileId) (file : InputFile) (i k : ℕ) (r : Relocation) : Type 0 where
  pub there : file_in link.groups id ≡ Some file
  pub section : InputSection
  pub at : slice_get file.sections i ≡ Some section
  pub lives : is_marked live.marks (input_number link.groups id i) ≡ true
  pub regular : is_regular section.slot ≡ true
  pub relocation : slice_get section.relocs k ≡ Some r
  pub asks : (resolution_flags r.kind == 0) ≡ false

-- there are the starts of the buckets of what is merged, and the image of each output section that has merged inputs stands by them. Nothing refers outside
-- their data. A named symbol that has a resolution and is placed in a merged section has an address at which the image of the output section shows
-- what stands there; and where the definition of such a relocation is placed in merged data, the reference has an address: there the image shows
-- what it refers to
pub record MergedDataStand (made : Made) (layout : LayoutRecord) : Type 0 where
  pub starts : AreStartsOf layout.merged_strings layout.merged_string_start_addresses
  pub images : (s : ℕ) (inputs : List MergeInput) → slice_get layout.merged_strings s ≡ Some inputs → 0 < length inputs → IsImageAt made layout s inputs
  pub inside : merge_offsets made.link made.live ≡ []
  pub named : (s i offset : ℕ) (f : NumberedFile) (x : InputSymbol) (section : InputSection) → IsResolvedAt made s i offset f x section
      → is_merge section.slot ≡ true → (length x.name == 0) ≡ false → (address : ℕ) × (value_at layout.symbol_resolutions s ≡ Some address)
      × IsShownAt made.link (image_start layout.merged_string_start_addresses)
      (record { number = input_number made.link.groups f.id i; section = section; offset = offset; named = true }) (pos 0) address
  pub references : (id : FileId) (file : InputFile) (i k : ℕ) (r : Relocation) (place : MergePlace) → IsReference made.link made.live id file i k r
      → symbol_place made.link.groups (local_definition (first_symbol made.link.groups id) file.symbols r.symbol) ≡ Some place → (address : ℕ)
      × (merged_address made.link (image_start layout.merged_string_start_addresses) (local_definition (first_symbol made.link.groups id) file.symbols r.symbol) r.addend false ≡ Ok (Some address))
      × IsShownAt made.link (image_start layout.merged_string_start_addresses) place r.addend address

-- ---- thunks

-- the thunks of a block, by its number, that an object owns: they are an owner of the primary part with all their bytes, where the layout
-- tells it; and each definition that the block has one for, in rising order, has a range of its own inside
pub record AreThunksAt (made : Made) (layout : LayoutRecord) (k : ℕ) (id : FileId) (set : List ℕ) : Type 0 where
  pub part : ℕ
  pub primary : made.link.plan.named.primary ≡ Some part
  pub ranges : HaveRanges (made_filling made) part id (thunk_size (config_for made.machine.thunks made.link)) set
  pub told : slice_get layout.thunk_block_addresses k ≡ Some (Some (owner_address (part_record layout part).mem_offset (part_at made.link.plan.sections part)
      (owners_of (made_filling made) part) (thunk_number (made_filling made) part id)))

-- so stand those of each block that has an owner; each block whose thunks have an address has one; and the address that is told of the thunk
-- for each definition of a block is the one that branches go by: there is one exactly where the block's thunks have an address
pub record ThunksStand (made : Made) (layout : LayoutRecord) : Type 0 where
  pub owned : (k : ℕ) (id : FileId) (set : List ℕ) → slice_get layout.thunk_block_owners k ≡ Some (Some id) → slice_get layout.thunk_blocks k ≡ Some set
      → AreThunksAt made layout k id set
  pub addressed : (k a : ℕ) → slice_get layout.thunk_block_addresses k ≡ Some (Some a)
      → (id : FileId) × (set : List ℕ) × (slice_get layout.thunk_block_owners k ≡ Some (Some id)) × (slice_get layout.thunk_blocks k ≡ Some set)
  pub each : (k place d : ℕ) (set : List ℕ) → slice_get layout.thunk_blocks k ≡ Some set → slice_get set place ≡ Some d
      → thunk_address layout k place ≡ option_and_then (thunk_in layout.thunk_size d) (thunks_of (made_branching made) k)

-- ---- relaxation

-- a symbol placed so in a file stands at this place by what is told: at its number, if it is absolute; in a section that is live, neither debug data
-- nor merged, and not put in order by its name, at that one's address, and from there where its offset goes by what is deleted
abbrev pub StandsAt : Made → LayoutRecord → FileId → SymbolPlacement → ℕ → Type 0
StandsAt made layout id (at.Section i offset) place = (x : Input) × (slice_get (all_inputs made.link.groups) (input_number made.link.groups id i) ≡ Some x)
    × (has_position (is_marked layout.live_marks (input_number made.link.groups id i)) x.section ≡ true)
    × (place ≡ slice_index layout.section_addresses (input_number made.link.groups id i) + output_offset made.link.groups layout.section_deletions id i offset)
StandsAt made layout id (at.Absolute n) place = place ≡ n
StandsAt made layout id _ place = ⊥

-- a candidate of an input section, with the section's number, is within its limit: nothing may take the place of what stands for its symbol, by
-- the flags that are told; that stands no further than the limit from where the candidate stands; and there is its value, if it has one
pub record IsWithinLimit (made : Made) (layout : LayoutRecord) (k : ℕ) (x : Input) (c : RelaxCandidate) : Type 0 where
  pub definition : ℕ
  pub stands_for : definition_of made.link.groups (first_symbol made.link.groups x.file + c.symbol) ≡ Some definition
  pub file : NumberedFile
  pub symbol : InputSymbol
  pub named : numbered_symbol made.link.groups definition ≡ Some (file, symbol)
  pub own : has_flag flag.INTERPOSABLE.0 (flags_at layout.flags definition).0 ≡ false
  pub place : ℕ
  pub at : StandsAt made layout file.id symbol.at place
  pub near : abs_diff place (slice_index layout.section_addresses k + output_offset made.link.groups layout.section_deletions x.file x.index c.at) ≤ c.limit
  pub valued : (value : ℕ) → value_at layout.symbol_resolutions definition ≡ Some value → value ≡ place

-- what is deleted of an input section are the bytes of some of its candidates, in order; only of a live section that is code, neither debug data
-- nor sorted, anything is, and only where the link is to be relaxed; and each candidate whose bytes are deleted is within its limit
pub record DeletionsStand (made : Made) (layout : LayoutRecord) : Type 0 where
  pub of : (k : ℕ) (x : Input) → slice_get (all_inputs made.link.groups) k ≡ Some x → AreOf (ranges_of made.link.groups layout.section_deletions x.file x.index) x.section.relax
  pub shrinks : (k : ℕ) (x : Input) → slice_get (all_inputs made.link.groups) k ≡ Some x → IsSome (slice_get (ranges_of made.link.groups layout.section_deletions x.file x.index) 0)
      → has_position (is_marked layout.live_marks k) x.section && is_set EXEC x.section.attrs && made.link.options.relax ≡ true
  pub near : (k j : ℕ) (x : Input) (c : RelaxCandidate) → slice_get (all_inputs made.link.groups) k ≡ Some x → slice_get x.section.relax j ≡ Some c
      → is_gone (ranges_of made.link.groups layout.section_deletions x.file x.index) c ≡ true → IsWithinLimit made layout k x c

-- ---- sorted sections

-- an owner is a sorted section, or an entry of a table
abbrev pub is_last : Owner → Bool
is_last (SectionOwner x size) = x.section.sorted
is_last (EntryOwner e) = true
is_last _ = false

-- among the owners of each part sorted sections stand behind all others but entries of tables, and among themselves by the bytes of their
-- names, then by file and index; and the sorted sections that are told are the live ones, each once, in that order, and with what each takes as
-- an owner of its part
pub record SortedStand (made : Made) (layout : LayoutRecord) : Type 0 where
  pub behind : (p j k n : ℕ) (o : Owner) (x : Input) → slice_get (owners_of (made_filling made) p) j ≡ Some o
      → slice_get (owners_of (made_filling made) p) k ≡ Some (SectionOwner x n) → is_last o ≡ false → x.section.sorted ≡ true → j < k
  pub among : (p j k : ℕ) (x y : Input) (n m : ℕ) → slice_get (owners_of (made_filling made) p) j ≡ Some (SectionOwner x n)
      → slice_get (owners_of (made_filling made) p) k ≡ Some (SectionOwner y m) → x.section.sorted ≡ true → y.section.sorted ≡ true → before x y ≡ true → j < k
  pub inputs : List Input
  pub by_name : IsByName made.link made.live inputs
  pub told : layout.script_sorted_sections ≡ map (sorted_section made.link (made_filling made).sizes) inputs
  pub owners : (k : ℕ) (x : Input) → slice_get inputs k ≡ Some x
      → slice_get (owners_of (made_filling made) x.section.part) (owner_number (made_filling made) x) ≡ Some (SectionOwner x (size_of (made_filling made) x))

-- ---- all

-- a sound layout of what it is made of: it is all that is made of it, at the stage at which relaxation ends, and nothing of the placement that stands
-- there is refused; all references are met; the live sections are those that are reached, each where its part's owners let it stand, and one with
-- bytes at a multiple of its part's alignment, unless the part is packed. Merged data, symbols and their resolutions stand as said above. The part
-- that the plan names for a table has its entries, and nothing else; what a resolution tells of entries is its symbol's own, and groups begin there
-- behind the entries of those before. Thunks stand as said, and each live branch whose target is known is near it or the thunk by which it may
-- go. Sections lose nothing but bytes of their candidates, and sorted ones stand last in their parts. The input sections that stay output sections
-- of their own are told as they are, and no emitted section has the index of one. No section that is allocated stands outside the segments where
-- it may not; the owners of each part share it out; no two parts share a byte of the file; and under a plain plan memory is apart, and a part with
-- bytes in the file, inside a load segment, starts at the same place in memory and in the file, modulo the greatest alignment of the sections inside,
-- and at least the page
pub record IsSound (made : Made) (layout : LayoutRecord) : Type 0 where
  pub is : layout ≡ layout_of made
  pub relaxed : IsRelaxed (made_relaxing made) made.stage
  pub unrefused : refusal_of (made_relaxing made) made.stage ≡ None
  pub met : reference_faults made.link ≡ []
  pub reached : AreLive made.link made.live
  pub shown : told_live made.link layout ≡ live_sections (made_filling made) (starts_of layout.section_part_layouts)
  pub aligned : (a : ℕ) (x : Input) (l : LiveSection) → IsTold made layout a x l → 0 < l.size
      → (part_at made.link.plan.sections x.section.part).packed ≡ false → (part_at made.link.plan.sections x.section.part).alignment ∣ l.address
  pub merged : MergedDataStand made layout
  pub symbols : SymbolsStand made layout
  pub alone : (k p : ℕ) → slice_get (table_parts made.link.plan.named) k ≡ Some (Some p)
      → owners_of (made_filling made) p ≡ map EntryOwner (table_of made.link.plan.named (tables_of (made_content made)) p)
  pub entries : (s : ℕ) (r : Resolution) → resolution_at layout.symbol_resolutions s ≡ Some r → AreOwnEntries made layout s r
  pub grouped : GroupsBegin made layout
  pub thunks : ThunksStand made layout
  pub reaching : LiveBranchesReach (made_branching made)
  pub deletions : DeletionsStand made layout
  pub sorted : SortedStand made layout
  pub singles : told_singletons made.link layout ≡ singletons made.link made.live
  pub behind : (s k : ℕ) → slice_get layout.output_section_indexes s ≡ Some (Some k) → k < emitted_count layout
  pub covered : first_outside made.link layout.section_layouts (is_emitted (made_content made)) ≡ None
  pub shared : (p : ℕ) → p < length (all_parts made.link.plan.sections) → IsSharedOut made layout p
  pub file : FileIsDisjoint layout.section_part_layouts
  pub memory : IsPlain made.link.plan made.link.options.output → IsApartInMemory made layout
  pub congruent : IsPlain made.link.plan made.link.options.output → (i s k p : ℕ) → PlacesInLoad made.link.plan i s k → is_file_backed made.link.plan s ≡ true
      → HasPart made.link.plan s p → (part_record layout p).mem_offset % alignment_inside made.link.plan layout.section_layouts i
      ≡ (part_record layout p).file_offset % alignment_inside made.link.plan layout.section_layouts i
