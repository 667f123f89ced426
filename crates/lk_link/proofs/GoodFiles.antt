-- Relocations, candidates and data of a well-formed link: lemmas for its laws.
use Rattle.std.specs.Prelude.{◌≡◌, ℕ, ◌<◌, ◌==◌, ◌||◌, not, Bool, true, false, Option, Some, None, is_some, length, nat_lt, slice_get, refl}
use Rattle.std.specs.Option.{option_map_or}
use Rattle.std.proofs.lemmas.Bool.{and_parts, eqb-true, ltb-true}
use Rattle.lk_link.specs.declared.file.Candidate.{Candidate}
use Rattle.lk_link.specs.declared.file.InputFile.{InputFile}
use Rattle.lk_link.specs.declared.ids.FileId.{FileId}
use Rattle.lk_link.specs.declared.link.LinkInput.{LinkInput}
use Rattle.lk_link.specs.declared.plan.NamedParts.{NamedParts}
use Rattle.lk_link.specs.declared.relocation.Relocation.{Relocation}
use Rattle.lk_link.specs.declared.relocation.RelocationKind.{RelocationKind}
use Rattle.lk_link.specs.declared.section.InputSection.{InputSection}
use Rattle.lk_link.specs.CandidateRules.{is_section_of_object, is_good_candidate, has_good_candidates, IsGoodCandidate}
use Rattle.lk_link.specs.DataRules.{has_whole_data, has_file_data}
use Rattle.lk_link.specs.FileKinds.{is_object}
use Rattle.lk_link.specs.Files.{file_in}
use Rattle.lk_link.specs.InputSlots.{is_merge}
use Rattle.lk_link.specs.Relocations.{wants_got, wants_plt}
use Rattle.lk_link.specs.TableRules.{has_tables_for, has_tables, has_file_tables, HasTablesFor}
use Rattle.lk_link.specs.WellFormed.{IsWellFormed}
use Rattle.lk_link.proofs.Places.{all_at, file_passes}

-- ---- tables

implied : (a b : Bool) → (not a || b) ≡ true → a ≡ true → b ≡ true
implied true b h e = h
implied false b h e = absurd (cc)

tables_for : (named : NamedParts) (kind : RelocationKind) → has_tables_for named kind ≡ true → HasTablesFor named kind
tables_for named kind h =
    let both = and_parts (not (wants_plt kind) || is_some named.plt) (not (wants_got kind) || is_some named.got) h in
    record {
      plt = λ e. implied (wants_plt kind) (is_some named.plt) both.0 e;
      got = λ e. implied (wants_got kind) (is_some named.got) both.1 e;
    }

pub tables_there : (link : LinkInput) (id : FileId) (i k : ℕ) (file : InputFile) (section : InputSection) (r : Relocation) → IsWellFormed link → file_in link.groups id ≡ Some file → slice_get file.sections i ≡ Some section → slice_get section.relocs k ≡ Some r → HasTablesFor link.plan.named r.kind
tables_there link id i k file section r h at_id at_i at_k =
    let named = link.plan.named in
    let here = file_passes (has_file_tables named) link.groups id file h.tables at_id in
    let relocs = all_at (has_tables named) file.sections i section here at_i in
    tables_for named r.kind (all_at (λ q. has_tables_for named q.kind) section.relocs k r relocs at_k)

-- ---- candidates

file_of : (i : ℕ) (o : Option InputFile) → option_map_or (is_section_of_object i) o false ≡ true → (f : InputFile) × (o ≡ Some f) × (is_object f.kind ≡ true) × (i < length f.sections)
file_of i None h = absurd (cc)
file_of i (Some f) h =
    let both = and_parts (is_object f.kind) (nat_lt i (length f.sections)) h in
    (f, refl, both.0, ltb-true i (length f.sections) both.1)

good_candidate : (link : LinkInput) (c : Candidate) → is_good_candidate link c ≡ true → IsGoodCandidate link c
good_candidate link c h =
    let sections = length link.plan.sections in
    let both = and_parts (nat_lt c.output sections) (option_map_or (is_section_of_object c.index) (file_in link.groups c.file) false) h in
    let file = file_of c.index (file_in link.groups c.file) both.1 in
    record {
      output = ltb-true c.output sections both.0;
      file = file.0;
      there = file.1;
      object = file.2;
      section = file.3;
    }

pub candidate_of : (link : LinkInput) (id : FileId) (k : ℕ) (file : InputFile) (c : Candidate) → IsWellFormed link → file_in link.groups id ≡ Some file → slice_get file.candidates k ≡ Some c → IsGoodCandidate link c
candidate_of link id k file c h at_id at_k =
    good_candidate link c (all_at (is_good_candidate link) file.candidates k c (file_passes (has_good_candidates link) link.groups id file h.candidates at_id) at_k)

-- ---- data

last_of : (given merged same : Bool) → (not given || merged || same) ≡ true → merged ≡ false → given ≡ true → same ≡ true
last_of true false same h plain is = h
last_of true true same h plain is = absurd (cc)
last_of false merged same h plain is = absurd (cc)

pub given_whole : (link : LinkInput) (id : FileId) (i : ℕ) (file : InputFile) (section : InputSection) → IsWellFormed link → file_in link.groups id ≡ Some file → slice_get file.sections i ≡ Some section → is_merge section.slot ≡ false → section.given ≡ true → length section.bytes ≡ section.size
given_whole link id i file section h at_id at_i plain is =
    let here = file_passes has_file_data link.groups id file h.given at_id in
    let whole = all_at has_whole_data file.sections i section here at_i in
    eqb-true (length section.bytes) section.size (last_of section.given (is_merge section.slot) (length section.bytes == section.size) whole plain is)
