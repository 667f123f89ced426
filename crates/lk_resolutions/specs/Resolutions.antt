-- The values of symbols, and the entry.
use Rattle.std.specs.Prelude.{ℕ, ◌+◌, ◌&&◌, not, if◌then◌else◌, List, Option, Some}
use Rattle.std.specs.Prelude.{None, Result, Ok, Err, map, option_and_then, option_map, pos, slice_get, slice_index, true, unwrap_or, Bool}
use Rattle.std.specs.List.{flat_map}
use Rattle.lk_link.specs.declared.file.FileKind.{FileKind}
use Rattle.lk_link.specs.declared.flags.TheConstants.ValueFlags as flag
use Rattle.lk_link.specs.declared.link.LinkInput.{LinkInput}
use Rattle.lk_link.specs.declared.resolution.Resolution.{Resolution}
use Rattle.lk_link.specs.declared.symbol.InputSymbol.{InputSymbol}
use Rattle.lk_link.specs.declared.symbol.SymbolPlacement.{SymbolPlacement}
use Rattle.lk_link.specs.declared.symbol.SymbolPlacement.TheVariants as at
use Rattle.lk_link.specs.FileKinds.{is_internal, is_not_loaded}
use Rattle.lk_link.specs.Flags.{has_flag}
use Rattle.lk_link.specs.Inputs.{NumberedFile, all_inputs, first_input, numbered_files}
use Rattle.lk_link.specs.Marks.{is_marked}
use Rattle.lk_link.specs.Symbols.{definition_of}
use Rattle.lk_link.specs.Symbols.{is_wanted}
use Rattle.lk_tables.specs.SymbolTable.{symbols_by_number}
use Rattle.lk_own_symbols.specs.Edges.{Edges, edge_value}
use Rattle.lk_merge.specs.declared.output_address.OffsetPastEnd.{OffsetPastEnd}
use Rattle.lk_merge.specs.OutputAddresses.{merged_address}
use Rattle.lk_deltas.specs.LinkDeletions.{Deletions, output_offset}
use Rattle.lk_sizes.specs.Header.{header_info}
use Rattle.lk_sizes.specs.Images.{image_addresses}
use Rattle.lk_sizes.specs.Owners.{Filling}
use Rattle.lk_sizes.specs.PartOwners.{common_address, live_address}
use Rattle.lk_resolution_list.specs.Lists.{resolution_at}
use Rattle.lk_resolutions.specs.declared.resolution.EntryFault.{EntryFault}
use Rattle.lk_resolutions.specs.declared.resolution.EntryFault.TheVariants.{NotAnAddress, NotLoaded}
use Rattle.lk_resolutions.specs.Entries.{EntrySetting, entry_setting, told_flags, with_entries}

-- ---- places in input sections

-- the address at an offset of an input section, by its number, what is deleted, and where the parts start; none where the section isn't
-- live
abbrev pub address_at : Filling → Deletions → List ℕ → ℕ → ℕ → Option ℕ
address_at filling deletions starts k offset =
    let groups = filling.content.link.groups in
    if is_marked filling.content.live.marks k
    then option_map (λ x. live_address filling starts x + output_offset groups deletions x.file x.index offset) (slice_get (all_inputs groups) k)
    else None

-- ---- places in merged sections

-- where the images of output sections start, by where the parts do: each where it stands among the owners of its part
abbrev pub images_at : Filling → List ℕ → ℕ → ℕ
images_at filling starts s = slice_index (image_addresses filling starts) s

-- an address that is found, else 0
abbrev pub found_or_0 : Result (Option ℕ) OffsetPastEnd → ℕ
found_or_0 (Ok address) = unwrap_or address 0
found_or_0 (Err e) = 0

-- the value of the symbol with a number, if it names a place in a merged section, by where the images start: a named one has the address
-- there, an unnamed one 0; 0 where it is placed elsewhere
abbrev pub merged_value : LinkInput → (ℕ → ℕ) → ℕ → ℕ
merged_value link images s = found_or_0 (merged_address link images s (pos 0) true)

-- ---- values

-- what values go by: the addresses at offsets of live input sections, those of commons by part and symbol, the values of symbols in
-- merged sections, and the edges that symbols stand at which the linker itself places
pub record ValueAddresses : Type 0 where
  pub live : ℕ → ℕ → Option ℕ
  pub common : ℕ → ℕ → ℕ
  pub merged : ℕ → ℕ
  pub edges : Edges

-- those of what fills the parts, by what is deleted, these edges, and where the parts start
abbrev pub places_of : Filling → Deletions → Edges → List ℕ → ValueAddresses
places_of filling deletions edges starts = record {
  live = address_at filling deletions starts;
  common = common_address filling starts;
  merged = merged_value filling.content.link (images_at filling starts);
  edges = edges;
}

-- the value of a placement in an object or a dynamic file, of the symbol s; `first` is the number of the object's first input section: a place in a live
-- section, or in a merged one; or a number; 0 for what is defined nowhere
abbrev pub placed_value : ValueAddresses → ℕ → ℕ → SymbolPlacement → ℕ
placed_value places first s (at.Section index offset) = unwrap_or (places.live (first + index) offset) (places.merged s)
placed_value places first s (at.Common p size) = places.common p s
placed_value places first s (at.Absolute n) = n
placed_value places first s _ = 0

-- what a symbol of a file of a kind is worth by its placement: in the prelude, in scripts and synthetic files what it stands at, if
-- anything
abbrev pub value_of : ValueAddresses → FileKind → ℕ → ℕ → SymbolPlacement → Option ℕ
value_of places kind first s p = if is_internal kind then edge_value places.edges p else Some (placed_value places first s p)

-- ---- resolutions

-- a file whose symbols may have resolutions: one that is loaded
abbrev pub has_resolutions : FileKind → Bool
has_resolutions kind = not (is_not_loaded kind)

-- the resolution of a symbol of such a file, with its number, if it is wanted, late marks included, and is worth anything
abbrev pub resolution_of : ValueAddresses → EntrySetting → FileKind → ℕ → ℕ × InputSymbol → Option Resolution
resolution_of places by kind first q =
    let flags = told_flags by kind q in
    if has_resolutions kind && is_wanted kind q.0 q.1 flags
    then option_map (with_entries by q.0 flags) (value_of places kind first q.0 q.1.at)
    else None

-- for each symbol of a file its resolution, if it has one
abbrev pub file_resolutions : ValueAddresses → EntrySetting → NumberedFile → List (Option Resolution)
file_resolutions places by f = map (resolution_of places by f.file.kind (first_input by.link.groups f.id)) (symbols_by_number by.link f)

-- what the entries go by: edges are told of the sections of which headers tell them
abbrev pub entries_of : Filling → List ℕ → EntrySetting
entries_of filling starts =
    let content = filling.content in
    entry_setting content.sizes content.link content.live (header_info content).told starts

-- for each symbol of the link its resolution, if it has one, by what is deleted, these edges, and where the parts start (libwild:
-- `SymbolResolutions`)
abbrev pub symbol_resolutions : Filling → Deletions → Edges → List ℕ → List (Option Resolution)
symbol_resolutions filling deletions edges starts =
    flat_map (file_resolutions (places_of filling deletions edges starts) (entries_of filling starts)) (numbered_files filling.content.link.groups)

-- ---- the entry

-- the symbol that stands for the one where the program starts, if the options name one
abbrev pub entry_symbol : LinkInput → Option ℕ
entry_symbol link = option_and_then (definition_of link.groups) link.options.entry

-- the address that a resolution gives, unless it isn't one: a value that the dynamic linker gives, and no number
abbrev pub entry_value : Option Resolution → Result (Option ℕ) EntryFault
entry_value None = Err NotLoaded
entry_value (Some r) =
    if has_flag flag.DYNAMIC.0 r.flags.0 && not (has_flag flag.ABSOLUTE.0 r.flags.0) then Err NotAnAddress else Ok (Some r.raw_value)

-- where the program starts: nowhere if no entry is named; else at the address that the entry's resolution gives, if it gives one
abbrev pub entry_address : List (Option Resolution) → Option ℕ → Result (Option ℕ) EntryFault
entry_address resolutions None = Ok None
entry_address resolutions (Some s) = entry_value (resolution_at resolutions s)
