-- Files of which each known member is read where it stands: the words of private contracts.
use Rattle.std.specs.Prelude.{List, [], false, Option, Result, Ok, option_map}
use Rattle.serde_json.specs.Data.{Members}
use Rattle.serde_json.specs.Find.{get_member}
use Rattle.lk_link.specs.declared.file.FileKind.{FileKind}
use Rattle.lk_link.specs.declared.file.FileKind.TheVariants.{Object}
use Rattle.lk_link.specs.declared.file.InputFile.{InputFile}
use Rattle.lk_link.specs.declared.section.InputSection.{InputSection}
use Rattle.lk_input.specs.declared.read.file.FileKey.TheVariants as key
use Rattle.lk_input.specs.declared.read.file.FileMembers.{FileMembers}
use Rattle.lk_input.specs.Known.{kept_needed}
use Rattle.lk_input.specs.Large.{kept_or}
use Rattle.lk_input.specs.ReadingFiles.{file_kinds, file_candidates_of}
use Rattle.lk_input.specs.ReadingSections.{input_sections_of}
use Rattle.lk_input.specs.ReadingSteps.{Path, ◌>>=◌, list_of, one_of, text_of, truth_of}
use Rattle.lk_input.specs.ReadingSymbols.{input_symbol_of}
use Rattle.lk_input.specs.Keys.{file_key_text}

-- what is kept of the members of a file
abbrev pub file_kept : Members → FileMembers
file_kept ms = record {
  kind = option_map (one_of file_kinds) (get_member (file_key_text key.Kind) ms);
  name = option_map text_of (get_member (file_key_text key.Name) ms);
  symbols = option_map (list_of input_symbol_of) (get_member (file_key_text key.Symbols) ms);
  sections = option_map input_sections_of (get_member (file_key_text key.Sections) ms);
  archive = option_map truth_of (get_member (file_key_text key.Archive) ms);
  export = option_map truth_of (get_member (file_key_text key.Export) ms);
  check = option_map truth_of (get_member (file_key_text key.Check) ms);
  candidates = option_map file_candidates_of (get_member (file_key_text key.Candidates) ms);
}

-- the sections of a file of this kind, as they were kept
abbrev pub kept_sections : FileKind → Option (Result (List InputSection) Path) → Result (List InputSection) Path
kept_sections Object kept = kept_or [] (file_key_text key.Sections) kept
kept_sections _ kept = Ok []

-- a file, of what was kept, in the order of the format
unfoldable pub file_from : FileMembers → Result InputFile Path
file_from known = do
  kind ← kept_needed (file_key_text key.Kind) known.kind
  name ← kept_or [] (file_key_text key.Name) known.name
  symbols ← kept_or [] (file_key_text key.Symbols) known.symbols
  sections ← kept_sections kind known.sections
  archive ← kept_or false (file_key_text key.Archive) known.archive
  export ← kept_or false (file_key_text key.Export) known.export
  check ← kept_or false (file_key_text key.Check) known.check
  candidates ← kept_or [] (file_key_text key.Candidates) known.candidates
  Ok (record {
    kind = kind;
    name = name;
    symbols = symbols;
    sections = sections;
    archive = archive;
    export = export;
    check = check;
    candidates = candidates;
  })
