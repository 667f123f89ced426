-- What is sound of a layout, piece by piece, as the lemmas say it.
use Rattle.std.specs.Prelude.{◌≡◌, ◌≢◌, ◌&&◌, ◌||◌, not, if◌then◌else◌, List, is_some, ℕ, ◌+◌, ◌%◌, ◌<◌, ◌==◌, true, false, Some, None, Ok, length, map, pos, slice_get, slice_index}
use Rattle.std.specs.Int.{◌∣◌}
use Rattle.lk_link.specs.declared.file.InputFile.{InputFile}
use Rattle.lk_link.specs.declared.ids.FileId.{FileId}
use Rattle.lk_link.specs.declared.link.LinkInput.{LinkInput}
use Rattle.lk_link.specs.declared.relocation.RelaxCandidate.{RelaxCandidate}
use Rattle.lk_link.specs.declared.relocation.Relocation.{Relocation}
use Rattle.lk_link.specs.declared.resolution.Resolution.{Resolution}
use Rattle.lk_link.specs.declared.section.InputSection.{InputSection}
use Rattle.lk_link.specs.declared.symbol.InputSymbol.{InputSymbol}
use Rattle.lk_link.specs.declared.symbol.SymbolPlacement.TheVariants as at
use Rattle.lk_link.specs.FileKinds.{is_internal}
use Rattle.lk_link.specs.Inputs.{Input, NumberedFile, all_inputs, input_number}
use Rattle.lk_link.specs.InputSlots.{is_merge}
use Rattle.lk_link.specs.Marks.{is_marked}
use Rattle.lk_link.specs.NumberedSymbols.{numbered_symbol}
use Rattle.lk_link.specs.PartRules.{table_parts}
use Rattle.lk_link.specs.Parts.{all_parts, part_at}
use Rattle.lk_link.specs.PlanSections.{is_file_backed}
use Rattle.lk_link.specs.Symbols.{first_symbol, is_wanted}
use Rattle.lk_own_symbols.specs.Edges.{edge_value}
use Rattle.lk_own_symbols.specs.Redirects.{RedirectsHold, is_redirect}
use Rattle.lk_reach.specs.Units.{local_definition}
use Rattle.lk_merge.specs.Addresses.{image_start}
use Rattle.lk_merge.specs.MergedReferences.{IsShownAt}
use Rattle.lk_merge.specs.OutputAddresses.{MergePlace, merged_address, symbol_place}
use Rattle.lk_merge.specs.Pieces.{MergeInput}
use Rattle.lk_place.specs.Plain.{PlacesInLoad}
use Rattle.lk_place.specs.Ranges.{HasPart}
use Rattle.lk_place_laws.specs.MemoryRanges.{TakesMemory}
use Rattle.lk_deltas.specs.Candidates.{is_gone}
use Rattle.lk_deltas.specs.LinkDeletions.{output_offset}
use Rattle.lk_relax.specs.Scan.{ranges_of}
use Rattle.lk_place.specs.Segments.{alignment_inside}
use Rattle.lk_sizes.specs.declared.addresses.LiveSection.{LiveSection}
use Rattle.lk_sizes.specs.Emitted.{told_marks}
use Rattle.lk_sizes.specs.Owners.{EntryOwner, Filling, IsCommonIn, SectionOwner, size_of}
use Rattle.lk_sizes.specs.PartOwners.{owner_number, owners_of, tables_of}
use Rattle.lk_tables.specs.Late.{flags_at, late_flags}
use Rattle.lk_tables.specs.Singletons.{singletons}
use Rattle.lk_tables.specs.TableLists.{table_of}
use Rattle.lk_sizes.specs.Harvest.{sorted_section}
use Rattle.lk_sizes.specs.Sorted.{IsByName}
use Rattle.lk_size_laws.specs.Tiles.{HasByte}
use Rattle.lk_layout.specs.LayoutRecord.{LayoutRecord}
use Rattle.lk_layout.specs.Layouts.{emitted_count, told_singletons}
use Rattle.lk_resolution_list.specs.Lists.{resolution_at}
use Rattle.lk_layout.specs.Made.{Made, made_content, made_filling}
use Rattle.lk_layout.specs.Redirects.{placed_resolutions, placed_with, value_at}
use Rattle.lk_soundness.specs.Sound.{AreOwnEntries, IsCommonAt, IsImageAt, IsInSection, IsReference, IsResolvedAt, IsTold, IsWithinLimit, number_of, part_record, told_edges}

-- ---- memory

-- a part with bytes in the file, inside a load segment, starts at the same place in memory and in the file
abbrev pub MemoryIsCongruent : LinkInput → LayoutRecord → Type 0
MemoryIsCongruent link layout = (i s k p : ℕ) → PlacesInLoad link.plan i s k → is_file_backed link.plan s ≡ true → HasPart link.plan s p
    → (part_record layout p).mem_offset % alignment_inside link.plan layout.section_layouts i
    ≡ (part_record layout p).file_offset % alignment_inside link.plan layout.section_layouts i

-- no two live sections share an address, nor do two owners, and live sections are aligned
abbrev pub LiveSectionsAreApart : Made → LayoutRecord → Type 0
LiveSectionsAreApart made layout = (a b address : ℕ) (x y : Input) (l m : LiveSection) → a ≢ b
    → IsTold made layout a x l → IsTold made layout b y m
    → TakesMemory made.link.plan x.section.part → TakesMemory made.link.plan y.section.part
    → IsInSection address l → IsInSection address m → ⊥

abbrev pub OwnersAreApart : Made → LayoutRecord → Type 0
OwnersAreApart made layout = (p q j k address : ℕ) → p < length (all_parts made.link.plan.sections) → q < length (all_parts made.link.plan.sections)
    → TakesMemory made.link.plan p → TakesMemory made.link.plan q
    → HasByte (part_record layout p).mem_offset (part_at made.link.plan.sections p) (owners_of (made_filling made) p) j address
    → HasByte (part_record layout q).mem_offset (part_at made.link.plan.sections q) (owners_of (made_filling made) q) k address
    → (p ≡ q) × (j ≡ k)

abbrev pub LiveSectionsAreAligned : Made → LayoutRecord → Type 0
LiveSectionsAreAligned made layout = (a : ℕ) (x : Input) (l : LiveSection) → IsTold made layout a x l → 0 < l.size
    → (part_at made.link.plan.sections x.section.part).packed ≡ false → (part_at made.link.plan.sections x.section.part).alignment ∣ l.address

-- ---- symbols

-- flags, and whether there is a resolution
abbrev pub FlagsStand : Made → LayoutRecord → Type 0
FlagsStand made layout = (s : ℕ) (f : NumberedFile) (x : InputSymbol) → numbered_symbol made.link.groups s ≡ Some (f, x)
    → flags_at layout.flags s ≡ late_flags made.link (told_marks (made_content made)) f.file.kind s x (flags_at made.live.flags s)

pub record ResolutionsStand (made : Made) (layout : LayoutRecord) : Type 0 where
  pub given : (s : ℕ) (f : NumberedFile) (x : InputSymbol) → numbered_symbol made.link.groups s ≡ Some (f, x)
      → is_some (resolution_at layout.symbol_resolutions s)
      ≡ (is_wanted f.file.kind s x (flags_at layout.flags s) && (not (is_internal f.file.kind) || is_some (edge_value (told_edges made layout) x.at)))
  pub flags : (s : ℕ) (f : NumberedFile) (x : InputSymbol) (r : Resolution) → numbered_symbol made.link.groups s ≡ Some (f, x)
      → resolution_at layout.symbol_resolutions s ≡ Some r → r.flags ≡ flags_at layout.flags s

-- what symbols are worth
abbrev pub ValuesStand : Made → LayoutRecord → Type 0
ValuesStand made layout = (s i offset : ℕ) (f : NumberedFile) (x : InputSymbol) (section : InputSection)
    → IsResolvedAt made s i offset f x section → is_merge section.slot ≡ false → (is_marked layout.live_marks (input_number made.link.groups f.id i) ≡ true)
    × (value_at layout.symbol_resolutions s ≡ Some (slice_index layout.section_addresses (input_number made.link.groups f.id i) + output_offset made.link.groups layout.section_deletions f.id i offset))

pub record NumbersStand (made : Made) (layout : LayoutRecord) : Type 0 where
  pub nowhere : (s n value : ℕ) (f : NumberedFile) (x : InputSymbol) → numbered_symbol made.link.groups s ≡ Some (f, x)
      → is_internal f.file.kind ≡ false → number_of x.at ≡ Some n → value_at layout.symbol_resolutions s ≡ Some value → value ≡ n
  pub unnamed : (s i offset value : ℕ) (f : NumberedFile) (x : InputSymbol) (section : InputSection)
      → numbered_symbol made.link.groups s ≡ Some (f, x) → is_internal f.file.kind ≡ false → (length x.name == 0) ≡ true
      → x.at ≡ at.Section i offset → slice_get f.file.sections i ≡ Some section → is_merge section.slot ≡ true
      → value_at layout.symbol_resolutions s ≡ Some value → value ≡ 0

abbrev pub CommonsStand : Made → LayoutRecord → Type 0
CommonsStand made layout = (p s size : ℕ) → IsCommonIn made.link made.live p s size → IsCommonAt made layout p s size

abbrev pub EdgesStand : Made → LayoutRecord → Type 0
EdgesStand made layout = (s : ℕ) (f : NumberedFile) (x : InputSymbol) → numbered_symbol made.link.groups s ≡ Some (f, x)
    → is_internal f.file.kind ≡ true → is_redirect made.link.groups s ≡ false
    → value_at layout.symbol_resolutions s ≡ (if is_wanted f.file.kind s x (flags_at layout.flags s) then edge_value (told_edges made layout) x.at else None)

abbrev pub RedirectsStand : Made → LayoutRecord → Type 0
RedirectsStand made layout = RedirectsHold (placed_with made layout.section_layouts layout.merged_section_layouts) (value_at (placed_resolutions made)) (value_at layout.symbol_resolutions)

-- ---- entries

-- tables have their entries alone, and resolutions tell their own
abbrev pub TablesStandAlone : Filling → Type 0
TablesStandAlone filling = (k p : ℕ) → slice_get (table_parts filling.content.link.plan.named) k ≡ Some (Some p)
    → owners_of filling p ≡ map EntryOwner (table_of filling.content.link.plan.named (tables_of filling.content) p)

abbrev pub EntriesStand : Made → LayoutRecord → Type 0
EntriesStand made layout = (s : ℕ) (r : Resolution) → resolution_at layout.symbol_resolutions s ≡ Some r → AreOwnEntries made layout s r

-- ---- merged data

-- images stand, and show what named symbols and references are of
abbrev pub ImagesStand : Made → LayoutRecord → Type 0
ImagesStand made layout = (s : ℕ) (inputs : List MergeInput) → slice_get layout.merged_strings s ≡ Some inputs → 0 < length inputs
    → IsImageAt made layout s inputs

abbrev pub NamedSymbolsShow : Made → LayoutRecord → Type 0
NamedSymbolsShow made layout = (s i offset : ℕ) (f : NumberedFile) (x : InputSymbol) (section : InputSection) → IsResolvedAt made s i offset f x section
    → is_merge section.slot ≡ true → (length x.name == 0) ≡ false → (address : ℕ) × (value_at layout.symbol_resolutions s ≡ Some address)
    × IsShownAt made.link (image_start layout.merged_string_start_addresses)
    (record { number = input_number made.link.groups f.id i; section = section; offset = offset; named = true }) (pos 0) address

abbrev pub ReferencesShow : Made → LayoutRecord → Type 0
ReferencesShow made layout = (id : FileId) (file : InputFile) (i k : ℕ) (r : Relocation) (place : MergePlace) → IsReference made.link made.live id file i k r
    → symbol_place made.link.groups (local_definition (first_symbol made.link.groups id) file.symbols r.symbol) ≡ Some place → (address : ℕ)
    × (merged_address made.link (image_start layout.merged_string_start_addresses) (local_definition (first_symbol made.link.groups id) file.symbols r.symbol) r.addend false ≡ Ok (Some address))
    × IsShownAt made.link (image_start layout.merged_string_start_addresses) place r.addend address

-- ---- relaxation

-- each candidate whose bytes are deleted is within its limit
abbrev pub DeletedCandidatesAreNear : Made → LayoutRecord → Type 0
DeletedCandidatesAreNear made layout = (k j : ℕ) (x : Input) (c : RelaxCandidate) → slice_get (all_inputs made.link.groups) k ≡ Some x
    → slice_get x.section.relax j ≡ Some c → is_gone (ranges_of made.link.groups layout.section_deletions x.file x.index) c ≡ true
    → IsWithinLimit made layout k x c

-- ---- what is told in order

-- sorted sections, and singletons
pub record SortedAreTold (made : Made) (layout : LayoutRecord) : Type 0 where
  pub inputs : List Input
  pub by_name : IsByName made.link made.live inputs
  pub told : layout.script_sorted_sections ≡ map (sorted_section made.link (made_filling made).sizes) inputs
  pub owners : (k : ℕ) (x : Input) → slice_get inputs k ≡ Some x
      → slice_get (owners_of (made_filling made) x.section.part) (owner_number (made_filling made) x) ≡ Some (SectionOwner x (size_of (made_filling made) x))

pub record SinglesStandBehind (made : Made) (layout : LayoutRecord) : Type 0 where
  pub told : told_singletons made.link layout ≡ singletons made.link made.live
  pub behind : (s k : ℕ) → slice_get layout.output_section_indexes s ≡ Some (Some k) → k < emitted_count layout
