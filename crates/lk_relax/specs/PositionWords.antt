-- What the code goes by: marks and a table of places, and the room behind them. Contracts of private functions speak of these.
use Rattle.std.specs.Prelude.{◌≡◌, ℕ, ◌+◌, ◌<◌, ◌≤◌, ◌^◌, Bool, false, if◌then◌else◌, List, [], Option, Some, None, option_map, slice_get}
use Rattle.std.specs.List.{slice_index_or}
use Rattle.lk_link.specs.declared.file.InputFile.{InputFile}
use Rattle.lk_link.specs.declared.ids.FileId.{FileId}
use Rattle.lk_link.specs.declared.section.InputSection.{InputSection}
use Rattle.lk_link.specs.declared.symbol.SymbolPlacement.{SymbolPlacement}
use Rattle.lk_link.specs.declared.symbol.SymbolPlacement.TheVariants as at
use Rattle.lk_link.specs.Files.{file_in}
use Rattle.lk_link.specs.InputSlots.{is_merge}
use Rattle.lk_link.specs.Marks.{is_marked}
use Rattle.lk_expressions.specs.declared.positions.SymbolPosition.{SymbolPosition}
use Rattle.lk_expressions.specs.Named.{names_no_symbol}
use Rattle.lk_expressions.specs.Surroundings.{flat}
use Rattle.lk_deltas.specs.Deletions.{mapped_by}
use Rattle.lk_deltas.specs.LinkDeletions.{Deletions, deleted_in, size_after}
use Rattle.lk_sizes.specs.Owners.{Filling}
use Rattle.lk_relax.specs.Positions.{has_position, position_in, section_positions, symbol_positions}

-- the position of a section with a number over all files, by marks and a table of the sections' places in parts
abbrev pub section_position_in : List Bool → List ℕ → ℕ → InputSection → Option (ℕ × ℕ)
section_position_in marks places k s = if has_position (is_marked marks k) s then Some (s.part, slice_index_or places k 0) else None

-- an offset of a section behind the section's position, by what is deleted of it
abbrev pub moved_to : Option (List (ℕ × ℕ)) → ℕ → ℕ × ℕ → SymbolPosition
moved_to deleted offset p = record { part = p.0; offset = p.1 + mapped_by deleted offset }

-- the position of a symbol of a file of which this is deleted; `first` is the number of the file's first section
abbrev pub symbol_position_in : Option (List (ℕ × List (ℕ × ℕ))) → List (Option (ℕ × ℕ)) → ℕ → SymbolPlacement → Option SymbolPosition
symbol_position_in entries positions first (at.Section i offset) =
    option_map (moved_to (deleted_in entries i) offset) (flat (slice_get positions (first + i)))
symbol_position_in entries positions first _ = None

-- sections with positions aren't merged, and end below 2^64 without what is deleted of them
abbrev pub HaveRoom : List (List InputFile) → Deletions → List (Option (ℕ × ℕ)) → Type 0
HaveRoom groups deletions positions = (id : FileId) (file : InputFile) (i : ℕ) (s : InputSection) (p : ℕ × ℕ) → file_in groups id ≡ Some file
    → slice_get file.sections i ≡ Some s → position_in groups positions id i ≡ Some p
    → (is_merge s.slot ≡ false) × (p.1 + size_after groups deletions (record { file = id; index = i; section = s }) < 2 ^ 64)

-- so does the section of a symbol of a file, and the symbol stands in it
abbrev pub HasRoom : Option (List (ℕ × List (ℕ × ℕ))) → List (Option (ℕ × ℕ)) → ℕ → SymbolPlacement → Type 0
HasRoom entries positions first (at.Section i offset) = (p : ℕ × ℕ) → flat (slice_get positions (first + i)) ≡ Some p
    → (size : ℕ) × (offset ≤ size) × (p.1 + mapped_by (deleted_in entries i) size < 2 ^ 64)
HasRoom entries positions first _ = Unit {0}

-- the positions of symbols in a filling where nothing is deleted, if an expression of the walk names a symbol; else none is asked for
abbrev pub asked_positions : Filling → List (Option SymbolPosition)
asked_positions filling =
    let link = filling.content.link in
    if names_no_symbol link.plan then [] else symbol_positions link.groups [] (section_positions filling)
