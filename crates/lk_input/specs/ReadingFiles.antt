-- What is read of the input files, in the order of their fields.
use Rattle.std.specs.Prelude.{ℕ, List, [], ◌∷◌, Result, Ok, false}
use Rattle.serde_json.specs.Data.{Data}
use Rattle.lk_link.specs.declared.file.FileKind.{FileKind}
use Rattle.lk_link.specs.declared.file.FileKind.TheVariants.{Prelude, Object, Dynamic, NotLoaded, SyntheticSymbols, LinkerScript}
use Rattle.lk_link.specs.declared.file.Candidate.{Candidate}
use Rattle.lk_link.specs.declared.file.InputFile.{InputFile}
use Rattle.lk_link.specs.declared.section.InputSection.{InputSection}
use Rattle.lk_input.specs.ReadingSteps.{Path, ◌>>=◌, index_of, truth_of, text_of, one_of, object, required, defaulted, fixed_list, element, at_most, list_of, written}
use Rattle.lk_input.specs.ReadingSymbols.{input_symbol_of}
use Rattle.lk_input.specs.ReadingSections.{input_sections_of}

-- the kinds of files
abbrev pub file_kinds : List (List ℕ × FileKind)
file_kinds =
    (written "prelude", Prelude) ∷ (written "object", Object) ∷ (written "dynamic", Dynamic) ∷ (written "notloaded", NotLoaded) ∷
    (written "synthetic", SyntheticSymbols) ∷ (written "script", LinkerScript) ∷ []

-- `[output section, group, file, section]`
unfoldable pub candidate_of : Data → Result Candidate Path
candidate_of d = do
  _ ← fixed_list d
  output ← element index_of 0 d
  group ← element index_of 1 d
  file ← element index_of 2 d
  section ← element index_of 3 d
  _ ← at_most 4 d
  Ok (record { output = output; file = record { group = group; file = file }; index = section })

-- the candidates of a file
abbrev pub file_candidates_of : Data → Result (List Candidate) Path
file_candidates_of d = list_of candidate_of d

-- the sections of a file of this kind: only objects have any, and elsewhere the key is not read
abbrev pub sections_by_kind : FileKind → Data → Result (List InputSection) Path
sections_by_kind Object d = defaulted [] input_sections_of (written "sections") d
sections_by_kind _ d = Ok []

-- an input file: its kind must be given
unfoldable pub input_file_of : Data → Result InputFile Path
input_file_of d = do
  _ ← object d
  kind ← required (one_of file_kinds) (written "kind") d
  name ← defaulted [] text_of (written "name") d
  symbols ← defaulted [] (list_of input_symbol_of) (written "symbols") d
  sections ← sections_by_kind kind d
  archive ← defaulted false truth_of (written "archive") d
  export ← defaulted false truth_of (written "export") d
  check ← defaulted false truth_of (written "check") d
  candidates ← defaulted [] file_candidates_of (written "candidates") d
  Ok (record {
    kind = kind;
    name = name;
    symbols = symbols;
    sections = sections;
    archive = archive;
    export = export;
    check = check;
    candidates = candidates;
  })

-- the groups of files
abbrev pub groups_of : Data → Result (List (List InputFile)) Path
groups_of d = list_of (list_of input_file_of) d
