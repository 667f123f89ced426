-- What is told of the files of a layout.
use Rattle.std.specs.Prelude.{◌≡◌, ◌==◌, ℕ, List, MatchOption, Option, None, Some, drop, if◌then◌else◌, length, option_map, slice_get}
use Rattle.std.specs.Option.{option_copied}
use Rattle.lk_link.specs.declared.file.FileKind.TheVariants as kind
use Rattle.lk_link.specs.declared.file.InputFile.{InputFile}
use Rattle.lk_link.specs.declared.ids.FileId.{FileId}
use Rattle.lk_link.specs.declared.ids.SymbolIdRange.{SymbolIdRange}
use Rattle.lk_link.specs.Files.{file_in}
use Rattle.lk_link.specs.Inputs.{first_input}
use Rattle.lk_link.specs.Symbols.{AreSymbolsOf, file_number}
use Rattle.lk_answers.specs.declared.files.FileLayout.{FileLayout}
use Rattle.lk_answers.specs.declared.files.FileLayout.TheVariants as layout
use Rattle.lk_answers.specs.declared.files.ObjectLayout.{ObjectLayout}
use Rattle.lk_answers.specs.declared.files.PreludeLayout.{PreludeLayout}
use Rattle.lk_layout.specs.LayoutRecord.{LayoutRecord}
use Rattle.lk_answers.specs.SectionResolutions.{resolutions_of}
use Rattle.lk_answers.specs.SectionSlots.{SlotsRecord}
use Rattle.lk_layout.specs.ThunkUsers.{block_for, owns_block}

-- the entry, what the output tells of the linker, and the headers
pub record IsPreludeLayout (all : LayoutRecord) (p : PreludeLayout) : Type 0 where
  pub entry : p.entry_symbol_id ≡ all.entry_symbol_id
  pub identity : option_map (λ s. s.now) p.identity ≡ all.link.options.identity
  pub header : p.header_info.now ≡ all.header_info

-- where the sections of a file stand
abbrev pub file_resolutions : LayoutRecord → FileId → InputFile → List ℕ
file_resolutions all id file =
    let first = first_input all.link.groups id in
    resolutions_of (drop first all.live_marks) (drop first all.section_addresses) (length file.sections)

-- what became of the sections of a file
abbrev pub file_slots : LayoutRecord → FileId → InputFile → SlotsRecord
file_slots all id file = record {
  link = all.link;
  sections = file.sections;
  marks = drop (first_input all.link.groups id) all.live_marks;
  deleted = slice_get all.section_deletions (file_number all.link.groups id);
}

-- an object's number, its symbols' numbers, its name, what became of its sections, where they stand, and what is deleted of them; its block of thunks,
-- and whether it owns that: the first block and no, where it needs none
pub record IsObjectLayout (all : LayoutRecord) (id : FileId) (file : InputFile) (range : SymbolIdRange) (o : ObjectLayout) : Type 0 where
  pub number : o.file_id ≡ id
  pub symbols : o.symbol_id_range ≡ range
  pub name : o.name.now ≡ file.name
  pub sections : o.sections ≡ file_slots all id file
  pub resolutions : o.section_resolutions ≡ file_resolutions all id file
  pub deleted : option_copied o.section_relax_deltas ≡ slice_get all.section_deletions (file_number all.link.groups id)
  pub block : o.thunk_block_id ≡ block_for all.thunk_users id
  pub owns : o.owns_thunk_block ≡ owns_block all.thunk_users id

-- by the kind of a file with this number, whose symbols have these numbers; no file is the epilogue
abbrev pub IsLayoutBy : LayoutRecord → FileId → InputFile → SymbolIdRange → FileLayout → Type 0
IsLayoutBy all id file range (layout.Prelude l) = (file.kind ≡ kind.Prelude) × IsPreludeLayout all l
IsLayoutBy all id file range (layout.Object l) = (file.kind ≡ kind.Object) × IsObjectLayout all id file range l
IsLayoutBy all id file range (layout.Dynamic l) = (file.kind ≡ kind.Dynamic) × (l.file_id ≡ id) × (l.symbol_id_range ≡ range) × (l.lib_name.now ≡ file.name)
IsLayoutBy all id file range (layout.SyntheticSymbols l) = (file.kind ≡ kind.SyntheticSymbols) × (l.file_id ≡ id) × (l.symbol_id_range ≡ range)
IsLayoutBy all id file range (layout.Epilogue l) = ⊥
IsLayoutBy all id file range (layout.LinkerScript l) = (file.kind ≡ kind.LinkerScript) × (l.file_id ≡ id) × (l.symbol_id_range ≡ range) × (l.name.now ≡ file.name)
IsLayoutBy all id file range layout.NotLoaded = file.kind ≡ kind.NotLoaded

-- the epilogue, which is the first file of its group and the last
abbrev pub IsEpilogueFile : LayoutRecord → ℕ → Option FileLayout → Type 0
IsEpilogueFile all k answer = answer ≡ (if k == 0 then Some (layout.Epilogue (record { dynsym_start_index = all.dynsym_start_index })) else None)

-- what is told of the file with this number
pub record IsFileLayout (all : LayoutRecord) (id : FileId) (l : FileLayout) : Type 0 where
  pub file : InputFile
  pub there : file_in all.link.groups id ≡ Some file
  pub range : SymbolIdRange
  pub symbols : AreSymbolsOf all.link.groups id range
  pub by : IsLayoutBy all id file range l

-- what is told of the file of a group with this number, if there is one; behind the groups of the link the epilogue stands alone
abbrev pub IsGroupFile : LayoutRecord → ℕ → ℕ → Option FileLayout → Type 0
IsGroupFile all g k answer = MatchOption (slice_get all.link.groups g) (IsEpilogueFile all k answer)
    (λ files. MatchOption answer (slice_get files k ≡ None) (IsFileLayout all (record { group = g; file = k })))
