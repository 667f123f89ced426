-- Files of which each known member is read where it stands.
use Rattle.std.proofs.Common.{◌≡◌, ℕ, List, [], false, Some, option_map, if◌then◌else◌, refl}
use Rattle.std.specs.Str.{bytes_eq}
use Rattle.serde_json.specs.Data.{Data, object, Members}
use Rattle.serde_json.specs.Find.{get_member}
use Rattle.lk_link.specs.declared.file.FileKind.{FileKind}
use Rattle.lk_link.specs.declared.file.FileKind.TheVariants as kind
use Rattle.lk_input.specs.declared.read.file.FileKey.TheVariants as key
use Rattle.lk_input.specs.declared.read.file.FileMembers.{FileMembers}
use Rattle.lk_input.specs.KnownFiles.{file_from, file_kept, kept_sections}
use Rattle.lk_input.specs.ReadingFiles.{file_kinds, file_candidates_of, input_file_of, sections_by_kind}
use Rattle.lk_input.specs.ReadingSections.{input_sections_of}
use Rattle.lk_input.specs.ReadingSteps.{list_of, one_of, text_of, truth_of}
use Rattle.lk_input.specs.ReadingSymbols.{input_symbol_of}
use Rattle.lk_input.proofs.Known.{PutsBy, bind_same, field, kept-found, kept-needed}
use Rattle.lk_input.proofs.Objects.{WantsObject}
use Rattle.lk_input.specs.Keys.{file_key_text}

-- what is kept of a file goes on by this
abbrev pub file_put : List ℕ → Data → FileMembers → FileMembers
file_put k d old = record {
  kind = if bytes_eq k (file_key_text key.Kind) then Some (one_of file_kinds d) else old.kind;
  name = if bytes_eq k (file_key_text key.Name) then Some (text_of d) else old.name;
  symbols = if bytes_eq k (file_key_text key.Symbols) then Some (list_of input_symbol_of d) else old.symbols;
  sections = if bytes_eq k (file_key_text key.Sections) then Some (input_sections_of d) else old.sections;
  archive = if bytes_eq k (file_key_text key.Archive) then Some (truth_of d) else old.archive;
  export = if bytes_eq k (file_key_text key.Export) then Some (truth_of d) else old.export;
  check = if bytes_eq k (file_key_text key.Check) then Some (truth_of d) else old.check;
  candidates = if bytes_eq k (file_key_text key.Candidates) then Some (file_candidates_of d) else old.candidates;
}

pub file-put : PutsBy file_kept file_put
file-put k d ms =
    rw (
      field (one_of file_kinds) (file_key_text key.Kind) k d ms,
      field text_of (file_key_text key.Name) k d ms,
      field (list_of input_symbol_of) (file_key_text key.Symbols) k d ms,
      field input_sections_of (file_key_text key.Sections) k d ms,
      field truth_of (file_key_text key.Archive) k d ms,
      field truth_of (file_key_text key.Export) k d ms,
      field truth_of (file_key_text key.Check) k d ms,
      field file_candidates_of (file_key_text key.Candidates) k d ms,
    ) refl

pub file_wants_object : WantsObject input_file_of
unfolding input_file_of
file_wants_object d none = rw none refl

-- sections by the kind
sections_same : (k : FileKind) (ms : Members) → sections_by_kind k (object ms) ≡ kept_sections k (option_map input_sections_of (get_member (file_key_text key.Sections) ms))
sections_same kind.Object ms = kept-found [] input_sections_of (file_key_text key.Sections) (get_member (file_key_text key.Sections) ms)
sections_same kind.Prelude ms = refl
sections_same kind.Dynamic ms = refl
sections_same kind.NotLoaded ms = refl
sections_same kind.SyntheticSymbols ms = refl
sections_same kind.LinkerScript ms = refl

pub file-kept : (ms : Members) → input_file_of (object ms) ≡ file_from (file_kept ms)
unfolding input_file_of file_from
file-kept ms =
    bind_same _ _ _ _ (kept-needed (one_of file_kinds) (file_key_text key.Kind) (get_member (file_key_text key.Kind) ms)) (λ kind.
    bind_same _ _ _ _ (kept-found [] text_of (file_key_text key.Name) (get_member (file_key_text key.Name) ms)) (λ name.
    bind_same _ _ _ _ (kept-found [] (list_of input_symbol_of) (file_key_text key.Symbols) (get_member (file_key_text key.Symbols) ms)) (λ symbols.
    bind_same _ _ _ _ (sections_same kind ms) (λ sections.
    bind_same _ _ _ _ (kept-found false truth_of (file_key_text key.Archive) (get_member (file_key_text key.Archive) ms)) (λ archive.
    bind_same _ _ _ _ (kept-found false truth_of (file_key_text key.Export) (get_member (file_key_text key.Export) ms)) (λ export.
    bind_same _ _ _ _ (kept-found false truth_of (file_key_text key.Check) (get_member (file_key_text key.Check) ms)) (λ check.
    bind_same _ _ _ _ (kept-found [] file_candidates_of (file_key_text key.Candidates) (get_member (file_key_text key.Candidates) ms)) (λ candidates. refl))))))))
