-- What files and groups of a layout are called.
use Rattle.std.specs.Prelude.{List, ℕ, ◌==◌, None, Option, Some, codes, if◌then◌else◌, length, option_map, slice_get, unwrap_or}
use Rattle.std.specs.Option.{option_map_or}
use Rattle.lk_link.specs.declared.file.FileKind.TheVariants as kind
use Rattle.lk_link.specs.declared.file.InputFile.{InputFile}
use Rattle.lk_link.specs.declared.file.FileKind.{FileKind}
use Rattle.lk_link.specs.declared.ids.FileId.{FileId}
use Rattle.lk_gc.specs.StateTexts.{epilogue_name, files_name, placed_name, prelude_name, script_name, synthetic_name}
use Rattle.lk_answers.specs.declared.files.FileLayout.{FileLayout}
use Rattle.lk_answers.specs.declared.files.FileLayout.TheVariants as layout

-- what a file that isn't loaded is called
abbrev pub unloaded_name : List ℕ
unloaded_name = codes "<not loaded>"

-- what a file is called, by what is told of it
abbrev pub layout_name : FileLayout → List ℕ
layout_name (layout.Prelude l) = prelude_name
layout_name (layout.Object l) = placed_name l.name.now l.file_id
layout_name (layout.Dynamic l) = placed_name l.lib_name.now l.file_id
layout_name (layout.SyntheticSymbols l) = synthetic_name
layout_name (layout.Epilogue l) = epilogue_name
layout_name (layout.LinkerScript l) = script_name l.name.now
layout_name layout.NotLoaded = unloaded_name

-- what a file of a kind with this number is called
abbrev pub kind_name : FileKind → List ℕ → FileId → List ℕ
kind_name kind.Prelude name id = prelude_name
kind_name kind.Object name id = placed_name name id
kind_name kind.Dynamic name id = placed_name name id
kind_name kind.SyntheticSymbols name id = synthetic_name
kind_name kind.LinkerScript name id = script_name name
kind_name kind.NotLoaded name id = unloaded_name

abbrev pub file_name : InputFile → FileId → List ℕ
file_name file id = kind_name file.kind file.name id

-- the name of the one file of a group, if there is one alone
abbrev pub only_name : ℕ → List InputFile → Option (List ℕ)
only_name g files = if length files == 1 then option_map (λ file. file_name file (record { group = g; file = 0 })) (slice_get files 0) else None

-- the same of group g of a link, behind whose groups the epilogue stands alone
abbrev pub only_name_in : List (List InputFile) → ℕ → Option (List ℕ)
only_name_in groups g = option_map_or (only_name g) (slice_get groups g) (Some epilogue_name)

-- how many files it has
abbrev pub file_count_in : List (List InputFile) → ℕ → ℕ
file_count_in groups g = option_map_or length (slice_get groups g) 1

-- what it is called: one file as that file
abbrev pub group_name : List (List InputFile) → ℕ → List ℕ
group_name groups g = unwrap_or (only_name_in groups g) (files_name (file_count_in groups g))
