-- Where input sections and symbols stand in parts, from the parts' starts, where some bytes of the sections are deleted.
use Rattle.std.specs.Prelude.{ℕ, ◌+◌, ◌&&◌, not, Bool, if◌then◌else◌, List, Option, Some, None, map, option_map, slice_get}
use Rattle.std.specs.List.{enumerate_from, flat_map}
use Rattle.lk_link.specs.declared.file.InputFile.{InputFile}
use Rattle.lk_link.specs.declared.ids.FileId.{FileId}
use Rattle.lk_link.specs.declared.link.LinkInput.{LinkInput}
use Rattle.lk_link.specs.declared.section.InputSection.{InputSection}
use Rattle.lk_link.specs.declared.symbol.SymbolPlacement.{SymbolPlacement}
use Rattle.lk_link.specs.declared.symbol.SymbolPlacement.TheVariants as at
use Rattle.lk_link.specs.InputSlots.{is_regular}
use Rattle.lk_link.specs.Inputs.{Input, NumberedFile, all_inputs, input_number, numbered_files}
use Rattle.lk_link.specs.Marks.{is_marked}
use Rattle.lk_link.specs.Parts.{all_parts}
use Rattle.lk_expressions.specs.declared.positions.SymbolPosition.{SymbolPosition}
use Rattle.lk_expressions.specs.Surroundings.{flat}
use Rattle.lk_sizes.specs.Owners.{Filling}
use Rattle.lk_sizes.specs.PartOwners.{live_address}
use Rattle.lk_deltas.specs.LinkDeletions.{Deletions, output_offset}

-- every part starts at 0
abbrev pub no_starts : LinkInput → List ℕ
no_starts link = map (λ _. 0) (all_parts link.plan.sections)

-- whether an input section with a mark, or without one, has a position: it is live, no debug data, and not put in order by its name
abbrev pub has_position : Bool → InputSection → Bool
has_position live s = live && (is_regular s.slot && not s.sorted)

-- the position of an input section with its number: its part, and how far it is from the part's start among the owners there
abbrev pub section_position : Filling → ℕ × Input → Option (ℕ × ℕ)
section_position filling q =
    if has_position (is_marked filling.content.live.marks q.0) q.1.section
    then Some (q.1.section.part, live_address filling (no_starts filling.content.link) q.1)
    else None

-- that of each input section, by number
abbrev pub section_positions : Filling → List (Option (ℕ × ℕ))
section_positions filling = map (section_position filling) (enumerate_from 0 (all_inputs filling.content.link.groups))

-- the position of a section of a file, by those of all
abbrev pub position_in : List (List InputFile) → List (Option (ℕ × ℕ)) → FileId → ℕ → Option (ℕ × ℕ)
position_in groups positions id index = flat (slice_get positions (input_number groups id index))

-- the position of a symbol of a file, if it stands in a section that has one: as far behind that as its offset goes
abbrev pub symbol_position : List (List InputFile) → Deletions → List (Option (ℕ × ℕ)) → FileId → SymbolPlacement → Option SymbolPosition
symbol_position groups deletions positions id (at.Section i offset) =
    option_map (λ p. record { part = p.0; offset = p.1 + output_offset groups deletions id i offset }) (position_in groups positions id i)
symbol_position groups deletions positions id _ = None

-- those of a file's symbols
abbrev pub file_positions : List (List InputFile) → Deletions → List (Option (ℕ × ℕ)) → NumberedFile → List (Option SymbolPosition)
file_positions groups deletions positions f = map (λ x. symbol_position groups deletions positions f.id x.at) f.file.symbols

-- those of all symbols, by number (libwild: `SymbolPositions`)
abbrev pub symbol_positions : List (List InputFile) → Deletions → List (Option (ℕ × ℕ)) → List (Option SymbolPosition)
symbol_positions groups deletions positions = flat_map (file_positions groups deletions positions) (numbered_files groups)
