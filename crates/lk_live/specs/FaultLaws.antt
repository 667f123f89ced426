-- References at fault, in words of reach and of symbols.
use Rattle.std.specs.Prelude.{◌≡◌, ◌↔◌, ℕ, ◌+◌, ◌==◌, true, false, List, [], ◌∷◌, AllPairs, Some, Contains, slice_get, unwrap_or}
use Rattle.std.specs.Cmp.Lexicographic.{slice_cmp}
use Rattle.std.specs.Ordering.{nat_cmp}
use Rattle.std.specs.declared.cmp.Ordering.TheVariants.{Less}
use Rattle.lk_link.specs.declared.file.InputFile.{InputFile}
use Rattle.lk_link.specs.declared.ids.FileId.{FileId}
use Rattle.lk_link.specs.declared.link.LinkInput.{LinkInput}
use Rattle.lk_link.specs.declared.relocation.Relocation.{Relocation}
use Rattle.lk_link.specs.declared.section.InputSection.{InputSection}
use Rattle.lk_link.specs.declared.symbol.InputSymbol.{InputSymbol}
use Rattle.lk_link.specs.FileKinds.{is_dynamic}
use Rattle.lk_link.specs.Files.{file_in}
use Rattle.lk_link.specs.InputSlots.{is_discarded, is_regular}
use Rattle.lk_link.specs.Relocations.{resolution_flags}
use Rattle.lk_link.specs.SymbolPlacements.{is_undefined}
use Rattle.lk_link.specs.Symbols.{first_symbol, symbol_at}
use Rattle.lk_link.specs.WellFormed.{IsWellFormed}
use Rattle.lk_live.specs.declared.error.ReferenceFault.{ReferenceFault}
use Rattle.lk_live.specs.declared.error.ReferenceFault.TheVariants.{Discarded, Undefined, UndefinedDynamic}
use Rattle.lk_live.specs.Faults.{reference_faults}
use Rattle.lk_reach.specs.declared.units.Unit.TheVariants.{Sec}
use Rattle.lk_reach.specs.Reach.{IsReached}

-- a section of a file that is reached
pub record IsReachedSection (link : LinkInput) (id : FileId) (i : ℕ) : Type 0 where
  pub file : InputFile
  pub there : file_in link.groups id ≡ Some file
  pub section : InputSection
  pub at : slice_get file.sections i ≡ Some section
  pub reached : IsReached link (Sec id i)

-- it is discarded
pub record IsDiscardedFault (link : LinkInput) (id : FileId) (i : ℕ) : Type 0 where
  pub place : IsReachedSection link id i
  pub discarded : is_discarded place.section.slot ≡ true

-- a symbol of the link, by its number, is undefined
pub record IsUndefinedSymbol (link : LinkInput) (s : ℕ) : Type 0 where
  pub symbol : InputSymbol
  pub there : symbol_at link.groups s ≡ Some symbol
  pub undefined : is_undefined symbol.at ≡ true

-- a symbol of a file, by its index there and its own number, may not stay undefined, and what stands for it is s, which is undefined
pub record LacksDefinition (link : LinkInput) (file : InputFile) (index number s : ℕ) : Type 0 where
  pub symbol : InputSymbol
  pub named : slice_get file.symbols index ≡ Some symbol
  pub strong : symbol.weak ≡ false
  pub stands : unwrap_or symbol.def number ≡ s
  pub undefined : IsUndefinedSymbol link s

-- it is a regular one, and a relocation of it wants something of a symbol that lacks its definition, where these are refused
pub record IsUndefinedFault (link : LinkInput) (s : ℕ) (id : FileId) (i r : ℕ) : Type 0 where
  pub place : IsReachedSection link id i
  pub regular : is_regular place.section.slot ≡ true
  pub refused : link.options.error_objects ≡ true
  pub relocation : Relocation
  pub at : slice_get place.section.relocs r ≡ Some relocation
  pub wants : (resolution_flags relocation.kind == 0) ≡ false
  pub lacks : LacksDefinition link place.file relocation.symbol (first_symbol link.groups id + relocation.symbol) s

-- a symbol of a dynamic file that says so lacks its definition, where these are refused; it is told by its own number
pub record IsDynamicFault (link : LinkInput) (s : ℕ) (id : FileId) : Type 0 where
  pub file : InputFile
  pub there : file_in link.groups id ≡ Some file
  pub dynamic : is_dynamic file.kind ≡ true
  pub says : file.check ≡ true
  pub refused : link.options.error_dynamics ≡ true
  pub index : ℕ
  pub number : first_symbol link.groups id + index ≡ s
  pub definition : ℕ
  pub lacks : LacksDefinition link file index s definition

-- a reference that can't be met
abbrev pub IsFault : LinkInput → ReferenceFault → Type 0
IsFault link (Discarded id i) = IsDiscardedFault link id i
IsFault link (Undefined s id i r) = IsUndefinedFault link s id i r
IsFault link (UndefinedDynamic s id) = IsDynamicFault link s id

-- its place: its file, then the section there, by its index, and the relocation; symbols come behind the sections of their file
abbrev pub fault_place : ReferenceFault → List ℕ
fault_place (Discarded id i) = id.group ∷ id.file ∷ 0 ∷ i ∷ []
fault_place (Undefined s id i r) = id.group ∷ id.file ∷ 0 ∷ i ∷ r ∷ []
fault_place (UndefinedDynamic s id) = id.group ∷ id.file ∷ 1 ∷ s ∷ []

-- the place of the first is before that of the second, number by number
abbrev pub ComesBefore : ReferenceFault → ReferenceFault → Type 0
ComesBefore a b = slice_cmp nat_cmp (fault_place a) (fault_place b) ≡ Less

-- a list has just the references that can't be met, each once, in the order of their places
pub record AreFaults (link : LinkInput) (faults : List ReferenceFault) : Type 0 where
  pub these : (fault : ReferenceFault) → Contains faults fault ↔ IsFault link fault
  pub in_order : AllPairs ComesBefore faults

-- the references that are told of a well-formed link are such a list
abbrev pub FaultsAreThese : Type 0
FaultsAreThese = (link : LinkInput) → IsWellFormed link → AreFaults link (reference_faults link)

-- there is no other
abbrev pub FaultsAreOne : Type 0
FaultsAreOne = (link : LinkInput) (a b : List ReferenceFault) → AreFaults link a → AreFaults link b → a ≡ b
