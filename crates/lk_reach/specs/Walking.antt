-- Words of private contracts: a walk over what is reached, with marks, words and a stack of unit numbers.
use Rattle.std.specs.Prelude.{◌≡◌, ◌⊎◌, ℕ, suc, ◌+◌, Bool, true, false, if◌then◌else◌, List, [], ◌∷◌, ◌++◌, Option, Some, None, All, Contains, length, map, replicate, slice_get, slice_index}
use Rattle.std.specs.Int.{bit_at}
use Rattle.lk_link.specs.declared.file.InputFile.{InputFile}
use Rattle.lk_link.specs.declared.ids.FileId.{FileId}
use Rattle.lk_link.specs.declared.link.LinkInput.{LinkInput}
use Rattle.lk_link.specs.declared.section.InputSection.{InputSection}
use Rattle.lk_link.specs.Files.{file_in}
use Rattle.lk_link.specs.Inputs.{Input, all_inputs}
use Rattle.lk_link.specs.InputSlots.{can_be_kept}
use Rattle.lk_link.specs.Marks.{is_marked}
use Rattle.lk_link.specs.SectionGroups.{group_members}
use Rattle.lk_reach.specs.declared.units.Ask.{Ask}
use Rattle.lk_reach.specs.declared.walk.Walk.{Walk}
use Rattle.lk_reach.specs.Marks.{AreFew, IsHit, IsJoined, IsMarked, all_units, asking, flag_words, handed_in, join_all, join_flags, mark_all, mark_target, reached_marks, symbols_in_all}
use Rattle.lk_reach.specs.declared.units.Unit.TheVariants.{Sym}
use Rattle.lk_reach.specs.Units.{coming_asks, flags_of, follows, roots}

-- how many units have no mark
unfoldable pub unmarked : List Bool → ℕ
unmarked [] = 0
unmarked (true ∷ marks) = unmarked marks
unmarked (false ∷ marks) = suc (unmarked marks)

-- a unit that is asked for goes onto the stack, unless it was marked
abbrev pub stack_after : List Bool → List ℕ → Option ℕ → List ℕ
stack_after marks stack None = stack
stack_after marks stack (Some u) = if is_marked marks u then stack else stack ++ u ∷ []

-- a walk has a mark for each unit, a word for each symbol and a spare one
pub record IsSized (link : LinkInput) (w : Walk) : Type 0 where
  pub marks : length w.marks.items ≡ length (all_units link.groups)
  pub words : length w.words.items ≡ symbols_in_all link.groups + 1

-- what one ask does to a walk
pub record Takes (link : LinkInput) (a : Ask) (old new : Walk) : Type 0 where
  pub marked : new.marks.items ≡ mark_target old.marks.items ((asking link).target a)
  pub joined : new.words.items ≡ join_flags old.words.items (flags_of a)
  pub stack : new.stack.items ≡ stack_after old.marks.items old.stack.items ((asking link).target a)
  pub few : AreFew old.words.items → AreFew new.words.items

-- what asks do to a walk: their targets are marked and their flags joined, and what is newly marked is on the stack, and all that
-- is on it is marked
pub record Adds (link : LinkInput) (asks : List Ask) (old new : Walk) : Type 0 where
  pub marked : new.marks.items ≡ mark_all (asking link) old.marks.items asks
  pub joined : new.words.items ≡ join_all old.words.items asks
  pub fresh : (u : ℕ) → IsMarked new.marks.items u → IsMarked old.marks.items u ⊎ Contains new.stack.items u
  pub kept : (u : ℕ) → Contains old.stack.items u → Contains new.stack.items u
  pub few : AreFew old.words.items → AreFew new.words.items
  pub on_stack : All (IsMarked old.marks.items) old.stack.items → All (IsMarked new.marks.items) new.stack.items
  pub measure : unmarked new.marks.items + length new.stack.items ≡ unmarked old.marks.items + length old.stack.items

-- the start of a walk: nothing is marked, and no flags but those handed in are there
pub record IsStart (link : LinkInput) (w : Walk) : Type 0 where
  pub marks : w.marks.items ≡ replicate (length (all_units link.groups)) false
  pub words : w.words.items ≡ handed_in link
  pub stack : w.stack.items ≡ []

-- an ask's target is marked, and its flags are joined
abbrev pub IsDone : LinkInput → Walk → Ask → Type 0
IsDone link w a = IsHit (asking link) w.marks.items a × IsJoined w.words.items a

-- in the middle of a walk: roots are done, and so is each marked unit that isn't on the stack; what is marked is reached, and what
-- is joined are flags
pub record IsWalking (link : LinkInput) (w : Walk) : Type 0 where
  pub size : IsSized link w
  pub by_roots : All (IsDone link w) (roots link)
  pub by_units : (u : ℕ) → IsMarked w.marks.items u → Contains w.stack.items u ⊎ All (IsDone link w) ((asking link).follows u)
  pub few : AreFew w.words.items
  pub on_stack : All (IsMarked w.marks.items) w.stack.items
  pub reached : (u : ℕ) → IsMarked w.marks.items u → IsMarked (reached_marks link) u
  pub handed : (n i : ℕ) → bit_at (slice_index (handed_in link) n) i ≡ 1 → bit_at (slice_index w.words.items n) i ≡ 1
  pub flags : (n i : ℕ) → bit_at (slice_index w.words.items n) i ≡ 1 → bit_at (slice_index (flag_words link) n) i ≡ 1

-- where a mark stands at an input section of a group, all members of the group that come along are marked
pub record AreTaken (link : LinkInput) (taken marks : List Bool) : Type 0 where
  pub count : length taken ≡ length (all_inputs link.groups)
  pub members : (n : ℕ) (x : Input) (file : InputFile) (group : ℕ) → slice_get (all_inputs link.groups) n ≡ Some x → is_marked taken n ≡ true
      → file_in link.groups x.file ≡ Some file → x.section.group ≡ Some group
      → All (IsHit (asking link) marks) (coming_asks x.file file.sections (group_members file.sections group))

-- where a mark stands at a symbol, all that the symbol asks for is done
abbrev pub AreAsked : LinkInput → List Bool → Walk → Type 0
AreAsked link taken w = (s : ℕ) → is_marked taken s ≡ true → All (IsDone link w) (follows link (Sym s))

-- an input section, by its number, is in the group of this section, which is kept
pub record IsGroupPlace (link : LinkInput) (id : FileId) (i n : ℕ) : Type 0 where
  pub file : InputFile
  pub there : file_in link.groups id ≡ Some file
  pub section : InputSection
  pub at : slice_get file.sections i ≡ Some section
  pub kept : can_be_kept section.slot ≡ true
  pub group : ℕ
  pub in_group : section.group ≡ Some group
  pub first : Input
  pub at_place : slice_get (all_inputs link.groups) n ≡ Some first
  pub same_file : first.file ≡ id
  pub same_group : first.section.group ≡ Some group

-- the file of each input section, by its number
abbrev pub files_of_inputs : LinkInput → List FileId
files_of_inputs link = map (λ x. x.file) (all_inputs link.groups)
