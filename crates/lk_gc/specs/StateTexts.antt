-- What files are called in the traversal.
use Rattle.std.specs.Prelude.{List, ℕ, [], ◌∷◌, codes, length}
use Rattle.std.specs.Fmt.{decimal}
use Rattle.lk_link.specs.declared.file.FileKind.{FileKind}
use Rattle.lk_link.specs.declared.file.FileKind.TheVariants as kind
use Rattle.lk_link.specs.declared.file.InputFile.{InputFile}
use Rattle.lk_link.specs.declared.ids.FileId.{FileId}
use Rattle.lk_link.specs.Texts.{joined}
use Rattle.lk_gc.specs.declared.states.FileLayoutState.{FileLayoutState}
use Rattle.lk_gc.specs.declared.states.FileLayoutState.TheVariants as state

-- a name, with group and index of the file behind it
abbrev pub placed_name : List ℕ → FileId → List ℕ
placed_name name id = joined (name ∷ codes " (" ∷ decimal id.group ∷ codes "." ∷ decimal id.file ∷ codes ")" ∷ [])

abbrev pub prelude_name : List ℕ
prelude_name = codes "<prelude>"

abbrev pub script_name : List ℕ → List ℕ
script_name name = name

abbrev pub synthetic_name : List ℕ
synthetic_name = codes "<synthetic>"

abbrev pub epilogue_name : List ℕ
epilogue_name = codes "<epilogue>"

abbrev pub unloaded_name : List ℕ
unloaded_name = codes "<not-loaded>"

abbrev pub state_name : FileLayoutState → List ℕ
state_name (state.Prelude s) = prelude_name
state_name (state.Object s) = placed_name s.name.now s.file_id
state_name (state.Dynamic s) = placed_name s.name.now s.file_id
state_name (state.SyntheticSymbols s) = synthetic_name
state_name (state.Epilogue s) = epilogue_name
state_name (state.LinkerScript s) = script_name s.name.now
state_name state.NotLoaded = unloaded_name

-- what a file of a kind with this number is called there
abbrev pub kind_name : FileKind → List ℕ → FileId → List ℕ
kind_name kind.Prelude name id = prelude_name
kind_name kind.Object name id = placed_name name id
kind_name kind.Dynamic name id = placed_name name id
kind_name kind.SyntheticSymbols name id = synthetic_name
kind_name kind.LinkerScript name id = script_name name
kind_name kind.NotLoaded name id = unloaded_name

abbrev pub file_name : InputFile → FileId → List ℕ
file_name file id = kind_name file.kind file.name id

-- what several files of a group are called together
abbrev pub files_name : ℕ → List ℕ
files_name count = joined (codes "Group with " ∷ decimal count ∷ codes " files. Rerun with WILD_FILES_PER_GROUP=1" ∷ [])

-- what group g with these files is called: a single file as that file
abbrev pub group_name : List InputFile → ℕ → List ℕ
group_name (file ∷ []) g = file_name file (record { group = g; file = 0 })
group_name files g = files_name (length files)
