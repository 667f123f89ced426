-- Words of private contracts: asks that there is reason for, and what a traversal knows.
use Rattle.std.specs.Prelude.{◌≡◌, ℕ, Bool, List, IsSome, Some, All, ⊤, length, map, option_map, slice_get}
use Rattle.std.specs.Option.{ForSome}
use Rattle.lk_flags.specs.Lists.{Lists}
use Rattle.lk_link.specs.declared.file.InputFile.{InputFile}
use Rattle.lk_link.specs.declared.link.LinkInput.{LinkInput}
use Rattle.lk_link.specs.Files.{file_in}
use Rattle.lk_link.specs.Inputs.{NumberedFile}
use Rattle.lk_link.specs.WellFormed.{IsWellFormed}
use Rattle.lk_reach.specs.declared.units.Ask.{Ask}
use Rattle.lk_reach.specs.declared.units.Unit.{Unit as LinkUnit}
use Rattle.lk_reach.specs.declared.units.Unit.TheVariants.{Sec, Sym}
use Rattle.lk_reach.specs.Marks.{IsInside, IsJoined, IsMarked, unit_number}
use Rattle.lk_reach.specs.Units.{file_roots, numbered_symbols, target_of}
use Rattle.lk_slot_link.specs.LinkGraphs.{files_of_group}
use Rattle.lk_slot_link.specs.LinkLists.{lists_of}

-- an ask that there is reason for: what it names is there, its target is reached, and its flags are in its symbol's word
pub record IsMet (l : Lists) (a : Ask) : Type 0 where
  pub inside : IsInside l.groups a
  pub target : ForSome (option_map (unit_number l.groups) (target_of a)) (IsMarked l.units)
  pub flags : IsJoined l.words a

abbrev pub AreMet : Lists → List Ask → Type 0
AreMet l asks = All (IsMet l) asks

-- there is a mark for each unit, and what is marked is reached
pub record AreReached (l : Lists) (marks : List Bool) : Type 0 where
  pub count : length marks ≡ length l.units
  pub reached : (n : ℕ) → IsMarked marks n → IsMarked l.units n

-- the group of each symbol
abbrev pub symbol_groups : List (List InputFile) → List ℕ
symbol_groups groups = map (λ q. q.0.id.group) (numbered_symbols groups)

-- lists are those of a link, which is well formed
pub record AreListsOf (l : Lists) (link : LinkInput) : Type 0 where
  pub lists : l ≡ lists_of link
  pub well_formed : IsWellFormed link

-- asks are those of the file of a group with this index
pub record IsRootsOf (link : LinkInput) (g k : ℕ) (asks : List Ask) : Type 0 where
  pub file : NumberedFile
  pub there : slice_get (files_of_group link.groups g) k ≡ Some file
  pub roots : asks ≡ file_roots link file

-- a unit has a number: a symbol always, a section where its file is there
abbrev pub HasNumber : List (List InputFile) → LinkUnit → Type 0
HasNumber groups (Sym s) = ⊤
HasNumber groups (Sec id i) = IsSome (file_in groups id)
