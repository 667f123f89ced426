-- Words of private contracts: what many units ask for whole, and of which of it all is found.
use Rattle.std.specs.Prelude.{◌≡◌, ◌==◌, ℕ, ◌+◌, ◌<◌, ◌^◌, Bool, false, List, All, length, map, nat_lt, not, replicate, slice_index}
use Rattle.std.specs.List.{flat_map}
use Rattle.std.specs.Option.{option_map_or, option_to_list}
use Rattle.lk_link.specs.declared.file.InputFile.{InputFile}
use Rattle.lk_link.specs.declared.ids.FileId.{FileId}
use Rattle.lk_link.specs.declared.link.LinkInput.{LinkInput}
use Rattle.lk_link.specs.declared.relocation.Relocation.{Relocation}
use Rattle.lk_link.specs.declared.symbol.InputSymbol.{InputSymbol}
use Rattle.lk_link.specs.Files.{file_in}
use Rattle.lk_link.specs.Inputs.{all_inputs, first_input, numbered_files}
use Rattle.lk_reach.specs.declared.units.Ask.{Ask}
use Rattle.lk_reach.specs.declared.units.Ask.TheVariants.{Mark, Reference, Section}
use Rattle.lk_reach.specs.declared.units.Unit.TheVariants.{Sym}
use Rattle.lk_reach.specs.Marks.{IsHit, asking}
use Rattle.lk_reach.specs.Units.{asked_references, follows, reference, relocation_asks}
use Rattle.lk_reach.specs.Walking.{AreTaken}
use Rattle.lk_explain.specs.declared.references.References.{References}
use Rattle.lk_explain.specs.declared.search.Search.{Search}
use Rattle.lk_explain.specs.declared.shared.Shared.{Shared}
use Rattle.lk_explain.specs.declared.shared.TheConstants.{TAKEN}

-- ---- files

-- the files of a link in their order
abbrev pub files_of : LinkInput → List FileId
files_of link = map (λ f. f.id) (numbered_files link.groups)

-- whether a file's first section has this number at most
abbrev pub starts_by : List (List InputFile) → ℕ → FileId → Bool
starts_by groups place id = option_map_or (λ (f : InputFile). not (nat_lt place (first_input groups id))) (file_in groups id) false

-- ---- relocations

-- what relocations of a section refer to
abbrev pub references : ℕ → List InputSymbol → List Relocation → List Ask
references first symbols relocations = flat_map (λ r. option_to_list (reference first symbols r)) relocations

abbrev pub references_in : References → List Ask
references_in r = references r.first r.symbols.now r.relocations.now

-- the relocations by which a section asks, with the symbols of its file
pub record AreReferences (link : LinkInput) (id : FileId) (i : ℕ) (r : References) : Type 0 where
  pub primary : Bool
  pub are : asked_references link id i ≡ flat_map (relocation_asks primary r.first r.symbols.now) r.relocations.now
  pub numbers : All (λ (x : Relocation). r.first + x.symbol < 2 ^ 32) r.relocations.now

-- ---- scripts

-- whether an ask refers to a symbol and sets flags of it
abbrev pub sets_flags : Ask → Bool
sets_flags (Reference s f) = not (f.0 == 0)
sets_flags (Section id i) = false
sets_flags (Mark s f) = false

-- ---- what is taken

-- no symbol has the mark
abbrev pub NoneTaken : List ℕ → Type 0
NoneTaken leaders = (s : ℕ) → slice_index leaders s ≡ TAKEN → ⊥

-- a symbol with the mark asks for the same as this one
pub record IsTakenFor (link : LinkInput) (leaders : List ℕ) (symbol : ℕ) : Type 0 where
  pub taken : ℕ
  pub marked : slice_index leaders taken ≡ TAKEN
  pub alike : follows link (Sym taken) ≡ follows link (Sym symbol)

-- nothing is taken
pub record IsNew (link : LinkInput) (shared : Shared) : Type 0 where
  pub groups : shared.groups.items ≡ replicate (length (all_inputs link.groups)) false
  pub symbols : NoneTaken shared.leaders.items

-- ---- what is found

-- whether each unit is found
abbrev pub found_marks : Search → List Bool
found_marks s = map (nat_lt 0) s.distances.items

-- all these asks reach what is found
abbrev pub AreFound : LinkInput → Search → List Ask → Type 0
AreFound link s asks = All (IsHit (asking link) (found_marks s)) asks

-- all is found that was taken: the members of a group with a mark, and what a symbol with the mark asks for
pub record AreShared (link : LinkInput) (shared : Shared) (s : Search) : Type 0 where
  pub groups : AreTaken link shared.groups.items (found_marks s)
  pub symbols : (n : ℕ) → slice_index shared.leaders.items n ≡ TAKEN → AreFound link s (follows link (Sym n))
