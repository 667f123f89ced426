-- References that can't be met.
use Rattle.std.specs.Prelude.{ℕ, ◌+◌, ◌==◌, ◌&&◌, not, Bool, false, if◌then◌else◌, List, [], ◌∷◌, ◌++◌, Option, Some, None, map, slice_get}
use Rattle.std.specs.List.{enumerate_from, filter_map, flat_map}
use Rattle.std.specs.Option.{option_map_or}
use Rattle.lk_link.specs.declared.file.InputFile.{InputFile}
use Rattle.lk_link.specs.declared.link.LinkInput.{LinkInput}
use Rattle.lk_link.specs.declared.section.InputSection.{InputSection}
use Rattle.lk_link.specs.declared.relocation.Relocation.{Relocation}
use Rattle.lk_link.specs.declared.symbol.InputSymbol.{InputSymbol}
use Rattle.lk_link.specs.FileKinds.{is_dynamic}
use Rattle.lk_link.specs.Inputs.{NumberedFile, numbered_files}
use Rattle.lk_link.specs.InputSlots.{is_discarded, is_regular}
use Rattle.lk_link.specs.Relocations.{resolution_flags}
use Rattle.lk_link.specs.Marks.{is_marked}
use Rattle.lk_link.specs.Symbols.{all_symbols, first_symbol}
use Rattle.lk_live.specs.declared.error.ReferenceFault.{ReferenceFault}
use Rattle.lk_live.specs.declared.error.ReferenceFault.TheVariants.{Discarded, Undefined, UndefinedDynamic}
use Rattle.lk_reach.specs.Marks.{reached_marks, unit_number}
use Rattle.lk_link.specs.SymbolPlacements.{is_undefined}
use Rattle.lk_reach.specs.declared.units.Unit.TheVariants.{Sec}
use Rattle.lk_reach.specs.Units.{local_definition}

-- for each of some symbols whether it is undefined, and for all symbols
abbrev pub undefined_placements : List InputSymbol → List Bool
undefined_placements symbols = map (λ x. is_undefined x.at) symbols

abbrev pub undefined_symbols : List (List InputFile) → List Bool
undefined_symbols groups = undefined_placements (all_symbols groups)

-- whether a symbol of a file, by its index there, may stay undefined
abbrev pub is_weak : List InputSymbol → ℕ → Bool
is_weak symbols i = option_map_or (λ s. s.weak) (slice_get symbols i) false

-- whether a relocation needs a symbol that is undefined; `first` is the number of the first of the file's symbols
abbrev pub lacks_symbol : List Bool → ℕ → List InputSymbol → Relocation → Bool
lacks_symbol undefined first symbols r =
    not (resolution_flags r.kind == 0) && (not (is_weak symbols r.symbol) && is_marked undefined (local_definition first symbols r.symbol))

-- a relocation, by its index in the section, that needs an undefined symbol
abbrev pub relocation_fault : List Bool → ℕ → NumberedFile → ℕ → ℕ × Relocation → Option ReferenceFault
relocation_fault undefined first f section q =
    if lacks_symbol undefined first f.file.symbols q.1
    then Some (Undefined (local_definition first f.file.symbols q.1.symbol) f.id section q.0)
    else None

-- the same, for all relocations of a section
abbrev pub relocation_faults : List (List InputFile) → NumberedFile → ℕ → List Relocation → List ReferenceFault
relocation_faults groups f section relocs =
    filter_map (relocation_fault (undefined_symbols groups) (first_symbol groups f.id) f section) (enumerate_from 0 relocs)

-- what is at fault in a section that is reached: that it is discarded; else, where undefined symbols are refused, its relocations
abbrev pub section_faults : LinkInput → NumberedFile → ℕ × InputSection → List ReferenceFault
section_faults link f q =
    if is_discarded q.1.slot then Discarded f.id q.0 ∷ []
    else if is_regular q.1.slot && link.options.error_objects then relocation_faults link.groups f q.0 q.1.relocs
    else []

-- what is at fault in a section of a file, by marks of units
abbrev pub marked_faults : LinkInput → List Bool → NumberedFile → ℕ × InputSection → List ReferenceFault
marked_faults link marks f q = if is_marked marks (unit_number link.groups (Sec f.id q.0)) then section_faults link f q else []

-- what is at fault in the sections of a file
abbrev pub held_faults : LinkInput → List Bool → NumberedFile → List ReferenceFault
held_faults link marks f = flat_map (marked_faults link marks f) (enumerate_from 0 f.file.sections)

-- a symbol of a dynamic file, by its index there, that is undefined and may not stay so: it is told by its own number
abbrev pub dynamic_fault : List Bool → ℕ → NumberedFile → ℕ × InputSymbol → Option ReferenceFault
dynamic_fault undefined first f q =
    if not q.1.weak && is_marked undefined (local_definition first f.file.symbols q.0)
    then Some (UndefinedDynamic (first + q.0) f.id)
    else None

-- whether the symbols of a file are looked at: of a dynamic file that says so, where undefined ones are refused
abbrev pub is_looked_at : LinkInput → InputFile → Bool
is_looked_at link f = is_dynamic f.kind && f.check && link.options.error_dynamics

-- what is at fault in the symbols of a dynamic file
abbrev pub dynamic_faults : LinkInput → NumberedFile → List ReferenceFault
dynamic_faults link f =
    if is_looked_at link f.file
    then filter_map (dynamic_fault (undefined_symbols link.groups) (first_symbol link.groups f.id) f) (enumerate_from 0 f.file.symbols)
    else []

-- what is at fault in a file, and in all files
abbrev pub file_faults : LinkInput → List Bool → NumberedFile → List ReferenceFault
file_faults link marks f = held_faults link marks f ++ dynamic_faults link f

abbrev pub faults_by : LinkInput → List Bool → List ReferenceFault
faults_by link marks = flat_map (file_faults link marks) (numbered_files link.groups)

-- all references at fault, by file, section and relocation (libwild: `report_error`)
abbrev pub reference_faults : LinkInput → List ReferenceFault
reference_faults link = faults_by link (reached_marks link)
