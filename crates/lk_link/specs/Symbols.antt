-- The symbols of a link, numbered over all files in order.
use Rattle.std.specs.Prelude.{◌≡◌, ℕ, ◌+◌, ◌<◌, ◌≤◌, ◌==◌, ◌&&◌, ◌||◌, not, Bool, List, Option, option_map, unwrap_or, length, take, slice_get, sum_by, ◌-◌, Some}
use Rattle.std.specs.List.{flat_map}
use Rattle.lk_link.specs.declared.file.FileKind.{FileKind}
use Rattle.lk_link.specs.declared.file.InputFile.{InputFile}
use Rattle.lk_link.specs.declared.flags.ValueFlags.{ValueFlags}
use Rattle.lk_link.specs.declared.ids.FileId.{FileId}
use Rattle.lk_link.specs.declared.ids.SymbolIdRange.{SymbolIdRange}
use Rattle.lk_link.specs.declared.symbol.InputSymbol.{InputSymbol}
use Rattle.lk_link.specs.FileKinds.{is_internal, is_not_loaded}
use Rattle.lk_link.specs.Files.{file_in}
use Rattle.lk_link.specs.Flags.{has_resolution}

-- the files of all groups, in order
abbrev pub all_files : List (List InputFile) → List InputFile
all_files groups = flat_map (λ files. files) groups

-- the symbols of all files, in order
abbrev pub all_symbols : List (List InputFile) → List InputSymbol
all_symbols groups = flat_map (λ f. f.symbols) (all_files groups)

-- the symbol with this number
abbrev pub symbol_at : List (List InputFile) → ℕ → Option InputSymbol
symbol_at groups s = slice_get (all_symbols groups) s

-- the symbol that stands for the one with this number: its definition, else itself
abbrev pub definition_of : List (List InputFile) → ℕ → Option ℕ
definition_of groups s = option_map (λ x. unwrap_or x.def s) (symbol_at groups s)

-- whether a symbol, with its number, stands for itself
abbrev pub is_canonical : ℕ → InputSymbol → Bool
is_canonical s x = unwrap_or x.def s == s

-- whether it has a name
abbrev pub is_named : InputSymbol → Bool
is_named x = not (length x.name == 0)

-- whether files of a kind give their symbols resolutions: a file that isn't loaded gives none, and one whose symbols the linker places
-- only to those with a name
abbrev pub can_resolve : FileKind → InputSymbol → Bool
can_resolve kind x = not (is_not_loaded kind) && (is_named x || not (is_internal kind))

-- whether a symbol of a file, with its number and these flags, gets a resolution: it stands for itself, and something wants it. The start
-- of the first load segment counts, since no one knows yet which segment that is
abbrev pub is_wanted : FileKind → ℕ → InputSymbol → ValueFlags → Bool
is_wanted kind s x flags = is_canonical s x && has_resolution flags.0 && can_resolve kind x

-- how many symbols a file has
abbrev pub symbols_in : InputFile → ℕ
symbols_in file = length file.symbols

-- how many symbols files have
abbrev pub symbol_count : List InputFile → ℕ
symbol_count files = sum_by (λ f. length f.symbols) files

-- how many stand before the file with this number
abbrev pub symbols_before : ℕ → List InputFile → ℕ
symbols_before k files = symbol_count (take k files)

-- the symbol with this number is one of the file with number k
pub record IsSymbolOf (files : List InputFile) (k s : ℕ) : Type 0 where
  pub there : k < length files
  pub from : symbols_before k files ≤ s
  pub below : s < symbols_before (k + 1) files

-- the number of a file over all groups
abbrev pub file_number : List (List InputFile) → FileId → ℕ
file_number groups id = sum_by length (take id.group groups) + id.file

-- the number of a file's first symbol
abbrev pub first_symbol : List (List InputFile) → FileId → ℕ
first_symbol groups id = symbols_before (file_number groups id) (all_files groups)

-- the symbol with this number is one of this file
pub record IsSymbolIn (groups : List (List InputFile)) (id : FileId) (s : ℕ) : Type 0 where
  pub file : InputFile
  pub there : file_in groups id ≡ Some file
  pub symbol : IsSymbolOf (all_files groups) (file_number groups id) s

-- the numbers of a file's symbols
pub record AreSymbolsOf (groups : List (List InputFile)) (id : FileId) (range : SymbolIdRange) : Type 0 where
  pub file : InputFile
  pub there : file_in groups id ≡ Some file
  pub start : range.start ≡ first_symbol groups id
  pub count : range.count ≡ length file.symbols
  pub within : range.start + range.count ≤ symbol_count (all_files groups)

-- a file stands under its number among all files
abbrev pub FilesHaveNumbers : Type 0
FilesHaveNumbers = (groups : List (List InputFile)) (id : FileId) (file : InputFile) → file_in groups id ≡ Some file
    → slice_get (all_files groups) (file_number groups id) ≡ Some file

-- the symbols of a file stand among all symbols, from its first one on
abbrev pub SymbolsFollow : Type 0
SymbolsFollow = (groups : List (List InputFile)) (id : FileId) (file : InputFile) (i : ℕ) → file_in groups id ≡ Some file
    → i < length file.symbols → symbol_at groups (first_symbol groups id + i) ≡ slice_get file.symbols i

-- the symbol of a file is the file's symbol behind its first one, and no other file's
pub record SymbolsHaveFiles : Type 0 where
  pub at : (groups : List (List InputFile)) (id : FileId) (s : ℕ) (h : IsSymbolIn groups id s) → (first_symbol groups id ≤ s)
      × (s - first_symbol groups id < length h.file.symbols)
      × (symbol_at groups s ≡ slice_get h.file.symbols (s - first_symbol groups id))
  pub once : (groups : List (List InputFile)) (a b : FileId) (s : ℕ) → IsSymbolIn groups a s → IsSymbolIn groups b s → a ≡ b
