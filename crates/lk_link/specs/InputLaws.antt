-- What holds of the input sections of a well-formed link.
use Rattle.std.specs.Prelude.{◌≡◌, ℕ, ◌≤◌, true, false, Some, length, slice_get}
use Rattle.lk_link.specs.declared.file.Candidate.{Candidate}
use Rattle.lk_link.specs.declared.file.InputFile.{InputFile}
use Rattle.lk_link.specs.declared.ids.FileId.{FileId}
use Rattle.lk_link.specs.declared.limits.TheConstants.{RELOCATIONS, RELAXATIONS}
use Rattle.lk_link.specs.declared.link.LinkInput.{LinkInput}
use Rattle.lk_link.specs.declared.relocation.Relocation.{Relocation}
use Rattle.lk_link.specs.declared.section.InputSection.{InputSection}
use Rattle.lk_link.specs.CandidateRules.{IsGoodCandidate}
use Rattle.lk_link.specs.Files.{file_in}
use Rattle.lk_link.specs.InputRules.{goes_to_part, IsGoodInput}
use Rattle.lk_link.specs.InputSlots.{is_discarded, is_merge}
use Rattle.lk_link.specs.Parts.{all_parts}
use Rattle.lk_link.specs.TableRules.{HasTablesFor}
use Rattle.lk_link.specs.WellFormed.{IsWellFormed}

-- the input sections of a well-formed link that aren't discarded are good
abbrev pub InputsAreGood : Type 0
InputsAreGood = (link : LinkInput) (id : FileId) (i : ℕ) (file : InputFile) (section : InputSection) → IsWellFormed link
    → file_in link.groups id ≡ Some file → slice_get file.sections i ≡ Some section → is_discarded section.slot ≡ false
    → IsGoodInput link.plan (length file.symbols) section

-- they go to parts of its plan
abbrev pub InputsGoToParts : Type 0
InputsGoToParts = (link : LinkInput) (id : FileId) (i : ℕ) (file : InputFile) (section : InputSection) → IsWellFormed link
    → file_in link.groups id ≡ Some file → slice_get file.sections i ≡ Some section → is_discarded section.slot ≡ false
    → goes_to_part (length (all_parts link.plan.sections)) section ≡ true

-- all input sections have few relocations and relaxations
abbrev pub InputListsAreFew : Type 0
InputListsAreFew = (link : LinkInput) (id : FileId) (i : ℕ) (file : InputFile) (section : InputSection) → IsWellFormed link
    → file_in link.groups id ≡ Some file → slice_get file.sections i ≡ Some section → (length section.relocs ≤ RELOCATIONS)
    × (length section.relax ≤ RELAXATIONS)

-- the tables that their relocations want entries of have parts
abbrev pub TablesAreThere : Type 0
TablesAreThere = (link : LinkInput) (id : FileId) (i k : ℕ) (file : InputFile) (section : InputSection) (r : Relocation) → IsWellFormed link
    → file_in link.groups id ≡ Some file → slice_get file.sections i ≡ Some section → slice_get section.relocs k ≡ Some r
    → HasTablesFor link.plan.named r.kind

-- the candidates of a well-formed link are sections of objects
abbrev pub CandidatesAreGood : Type 0
CandidatesAreGood = (link : LinkInput) (id : FileId) (k : ℕ) (file : InputFile) (c : Candidate) → IsWellFormed link
    → file_in link.groups id ≡ Some file → slice_get file.candidates k ≡ Some c → IsGoodCandidate link c

-- the data that are given for an input section of a well-formed link that isn't merged are as many bytes as its size
abbrev pub DataAreWhole : Type 0
DataAreWhole = (link : LinkInput) (id : FileId) (i : ℕ) (file : InputFile) (section : InputSection) → IsWellFormed link
    → file_in link.groups id ≡ Some file → slice_get file.sections i ≡ Some section → is_merge section.slot ≡ false → section.given ≡ true
    → length section.bytes ≡ section.size
