-- Offsets that are chosen outside the data of merged sections: at its end, or past it.
use Rattle.std.specs.Prelude.{ℕ, ◌==◌, ◌&&◌, not, Bool, if◌then◌else◌, List, [], ◌∷◌, ◌++◌}
use Rattle.std.specs.List.{enumerate_from, flat_map}
use Rattle.lk_link.specs.declared.file.FileKind.{FileKind}
use Rattle.lk_link.specs.declared.link.LinkInput.{LinkInput}
use Rattle.lk_link.specs.declared.relocation.Relocation.{Relocation}
use Rattle.lk_link.specs.declared.section.InputSection.{InputSection}
use Rattle.lk_link.specs.declared.symbol.InputSymbol.{InputSymbol}
use Rattle.lk_link.specs.InputSlots.{is_regular}
use Rattle.lk_link.specs.Inputs.{NumberedFile, input_number, numbered_files}
use Rattle.lk_link.specs.Marks.{is_marked}
use Rattle.lk_link.specs.Relocations.{resolution_flags}
use Rattle.lk_link.specs.Symbols.{first_symbol}
use Rattle.lk_live.specs.declared.live.Live.{Live}
use Rattle.lk_reach.specs.Units.{local_definition}
use Rattle.lk_merge.specs.OffsetsOutside.{refers_outside, stands_outside}
use Rattle.lk_tables.specs.SymbolEntries.{is_resolved}
use Rattle.lk_resolutions.specs.declared.outside.MergeOffsetPlace.{MergeOffsetPlace}
use Rattle.lk_resolutions.specs.declared.outside.MergeOffsetPlace.TheVariants.{OfRelocation, OfSymbol}

-- ---- symbols

-- a symbol of a file of a kind, with its number, where it is wanted and is placed outside the data of a merged section
abbrev pub symbol_outside : LinkInput → Live → FileKind → ℕ × InputSymbol → List MergeOffsetPlace
symbol_outside link live kind q = if is_resolved live kind q && stands_outside link q.0 then OfSymbol q.0 ∷ [] else []

-- those of a file
abbrev pub symbols_outside : LinkInput → Live → NumberedFile → List MergeOffsetPlace
symbols_outside link live f = flat_map (symbol_outside link live f.file.kind) (enumerate_from (first_symbol link.groups f.id) f.file.symbols)

-- ---- relocations

-- a relocation with its index, where it refers to what stands for its symbol, and chooses an offset outside the data of a merged section
abbrev pub relocation_outside : LinkInput → NumberedFile → ℕ → ℕ × Relocation → List MergeOffsetPlace
relocation_outside link f section q =
    if not (resolution_flags q.1.kind == 0)
    && refers_outside link (local_definition (first_symbol link.groups f.id) f.file.symbols q.1.symbol) q.1.addend
    then OfRelocation f.id section q.0 ∷ []
    else []

-- those of a section with its index, if it is live and has no debug data
abbrev pub outside_in : LinkInput → Bool → NumberedFile → ℕ × InputSection → List MergeOffsetPlace
outside_in link is_live f q =
    if is_live && is_regular q.1.slot then flat_map (relocation_outside link f q.0) (enumerate_from 0 q.1.relocs) else []

abbrev pub section_outside : LinkInput → Live → NumberedFile → ℕ × InputSection → List MergeOffsetPlace
section_outside link live f q = outside_in link (is_marked live.marks (input_number link.groups f.id q.0)) f q

-- those of a file
abbrev pub relocations_outside : LinkInput → Live → NumberedFile → List MergeOffsetPlace
relocations_outside link live f = flat_map (section_outside link live f) (enumerate_from 0 f.file.sections)

-- ---- all

-- all that choose an offset outside: symbols, and then relocations, by file
abbrev pub merge_offsets : LinkInput → Live → List MergeOffsetPlace
merge_offsets link live =
    flat_map (symbols_outside link live) (numbered_files link.groups) ++ flat_map (relocations_outside link live) (numbered_files link.groups)
