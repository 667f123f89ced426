-- What a traversal came to, and what of it is closed.
use Rattle.std.specs.Prelude.{◌≡◌, ℕ, true, ◌&&◌, ◌||◌, not, Bool, List, ◌++◌, length, map, slice_index}
use Rattle.std.specs.List.{list_all, list_any, range_with_len}
use Rattle.std.specs.Option.{option_map_or}
use Rattle.lk_link.specs.declared.file.InputFile.{InputFile}
use Rattle.lk_link.specs.declared.link.LinkInput.{LinkInput}
use Rattle.lk_link.specs.Flags.{has_flag}
use Rattle.lk_link.specs.Inputs.{NumberedFile}
use Rattle.lk_link.specs.Marks.{is_marked}
use Rattle.lk_link.specs.Symbols.{first_symbol}
use Rattle.lk_reach.specs.declared.units.Ask.{Ask}
use Rattle.lk_reach.specs.declared.units.Unit.{Unit as LinkUnit}
use Rattle.lk_reach.specs.declared.units.Unit.TheVariants.{Sec, Sym}
use Rattle.lk_reach.specs.Marks.{unit_number, word_of}
use Rattle.lk_reach.specs.Units.{file_roots, flags_of, follows, target_of}
use Rattle.lk_slot_link.specs.LinkGraphs.{files_of_group}
use Rattle.lk_workers.specs.States.{Ranged, is_in}

-- which units are done, by number, and the words of flags
pub record ClosedValue : Type 0 where
  pub done : List Bool
  pub words : List ℕ

-- marks of just the numbers of which one of these has a mark
abbrev pub AreMarksOf : List Ranged → List Bool → Type 0
AreMarksOf all marks = (n : ℕ) → is_marked marks n ≡ list_any (λ r. is_in r n) all

-- ---- asks

-- whether a unit is done
abbrev pub is_unit_done : ClosedValue → List (List InputFile) → LinkUnit → Bool
is_unit_done v groups unit = is_marked v.done (unit_number groups unit)

-- whether a symbol's word has these flags
abbrev pub has_flags : ClosedValue → ℕ × ℕ → Bool
has_flags v p = has_flag p.1 (slice_index v.words (word_of p.0))

-- whether an ask is met, else it is open: the unit that it reaches, if any, is done, and the flags that it sets, if any, are in their word
abbrev pub is_ask_met : ClosedValue → List (List InputFile) → Ask → Bool
is_ask_met v groups ask = option_map_or (is_unit_done v groups) (target_of ask) true && option_map_or (has_flags v) (flags_of ask) true

-- ---- groups

-- the units of a file: its symbols, and its sections
abbrev pub symbol_units : List (List InputFile) → NumberedFile → List LinkUnit
symbol_units groups f = map Sym (range_with_len (first_symbol groups f.id) (length f.file.symbols))

abbrev pub section_units : NumberedFile → List LinkUnit
section_units f = map (Sec f.id) (range_with_len 0 (length f.file.sections))

abbrev pub file_units : List (List InputFile) → NumberedFile → List LinkUnit
file_units groups f = symbol_units groups f ++ section_units f

-- whether a unit has no open ask: it isn't done, or all that it asks for is met
abbrev pub is_unit_closed : ClosedValue → LinkInput → LinkUnit → Bool
is_unit_closed v link unit = not (is_unit_done v link.groups unit) || list_all (is_ask_met v link.groups) (follows link unit)

-- whether a file has no open ask, neither by itself nor by one of its units
abbrev pub is_file_closed : ClosedValue → LinkInput → NumberedFile → Bool
is_file_closed v link f = list_all (is_ask_met v link.groups) (file_roots link f) && list_all (is_unit_closed v link) (file_units link.groups f)

-- whether a group has no open ask
abbrev pub is_group_closed : ClosedValue → LinkInput → ℕ → Bool
is_group_closed v link g = list_all (is_file_closed v link) (files_of_group link.groups g)

-- whether no group has
abbrev pub are_groups_closed : ClosedValue → LinkInput → Bool
are_groups_closed v link = list_all (is_group_closed v link) (range_with_len 0 (length link.groups))
