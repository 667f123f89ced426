-- Laws on what is reached.
use Rattle.std.specs.Prelude.{◌≡◌, ◌↔◌, ◌⊎◌, ℕ, ◌+◌, ◌<◌, ◌≤◌, Bool, List, All, Some, length, slice_index}
use Rattle.std.specs.Int.{bit_at}
use Rattle.lk_link.specs.declared.link.LinkInput.{LinkInput}
use Rattle.lk_link.specs.Symbols.{definition_of}
use Rattle.lk_link.specs.WellFormed.{IsWellFormed}
use Rattle.lk_reach.specs.declared.units.Unit.{Unit as LinkUnit}
use Rattle.lk_reach.specs.declared.units.Unit.TheVariants.{Sym}
use Rattle.lk_reach.specs.Marks.{IsClosed, IsInside, IsMarked, IsUnit, all_units, asking, flag_words, handed_in, reached_marks, symbols_in_all, unit_number, word_of}
use Rattle.lk_reach.specs.Reach.{HasFlag, IsReached}
use Rattle.lk_reach.specs.Units.{AsksFor, IsRoot, follows, roots}

-- ---- numbers

-- what is asked for in a well-formed link is there
pub record AsksAreInside : Type 0 where
  pub by_roots : (link : LinkInput) → IsWellFormed link → All (IsInside link.groups) (roots link)
  pub by_unit : (link : LinkInput) (unit : LinkUnit) → IsWellFormed link → All (IsInside link.groups) (follows link unit)

-- by rounds and by paths the same units are reached
abbrev pub MarksAreReached : Type 0
MarksAreReached = (link : LinkInput) (unit : LinkUnit) → IsWellFormed link → IsUnit link.groups unit
    → IsMarked (reached_marks link) (unit_number link.groups unit) ↔ IsReached link unit

-- joined words hold the flags of roots and of reached units, and those handed in
abbrev pub WordsAreFlags : Type 0
WordsAreFlags = (link : LinkInput) (s i : ℕ) → IsWellFormed link → s < symbols_in_all link.groups
    → (bit_at (slice_index (flag_words link) (word_of s)) i ≡ 1) ↔ HasFlag link s i

-- the marks of what is reached and the joined words are closed
abbrev pub ReachIsClosed : Type 0
ReachIsClosed = (link : LinkInput) → IsWellFormed link → IsClosed (asking link) (reached_marks link) (flag_words link)

-- closed marks hold all that is reached
abbrev pub ClosedMarksHoldReach : Type 0
ClosedMarksHoldReach = (link : LinkInput) (marks : List Bool) (words : List ℕ) (unit : LinkUnit) → IsWellFormed link
    → IsClosed (asking link) marks words → IsReached link unit → IsMarked marks (unit_number link.groups unit)

-- closed words that hold what is handed in hold all flags
abbrev pub ClosedWordsHoldFlags : Type 0
ClosedWordsHoldFlags = (link : LinkInput) (marks : List Bool) (words : List ℕ) (s i : ℕ) → IsWellFormed link
    → IsClosed (asking link) marks words
    → ((n j : ℕ) → bit_at (slice_index (handed_in link) n) j ≡ 1 → bit_at (slice_index words n) j ≡ 1)
    → HasFlag link s i → bit_at (slice_index words (word_of s)) i ≡ 1

-- closed marks and words, in which nothing is marked that isn't reached and nothing is joined that isn't a flag, are all, in whatever
-- order asks were handled
pub record IsAllReached (link : LinkInput) (marks : List Bool) (words : List ℕ) : Type 0 where
  pub closed : IsClosed (asking link) marks words
  pub marks_count : length marks ≡ length (all_units link.groups)
  pub words_count : length words ≡ symbols_in_all link.groups + 1
  pub reached : (unit : LinkUnit) → IsUnit link.groups unit → IsMarked marks (unit_number link.groups unit) → IsReached link unit
  pub handed : (n j : ℕ) → bit_at (slice_index (handed_in link) n) j ≡ 1 → bit_at (slice_index words n) j ≡ 1
  pub spare : slice_index words 0 ≡ 0
  pub flags : (s i : ℕ) → bit_at (slice_index words (word_of s)) i ≡ 1 → HasFlag link s i

abbrev pub ClosedAndReachedIsAll : Type 0
ClosedAndReachedIsAll = (link : LinkInput) (marks : List Bool) (words : List ℕ) → IsWellFormed link → IsAllReached link marks words
    → (marks ≡ reached_marks link) × (words ≡ flag_words link)

-- a symbol with a flag for which it gets a resolution, from DIRECT to EXPORT_DYNAMIC, is reached
abbrev pub ResolvedIsReached : Type 0
ResolvedIsReached = (link : LinkInput) (s i : ℕ) → IsWellFormed link → 6 ≤ i → i < 14 → HasFlag link s i → IsReached link (Sym s)

-- a symbol that is reached stands for itself
abbrev pub ReachedStandForThemselves : Type 0
ReachedStandForThemselves = (link : LinkInput) (s : ℕ) → IsWellFormed link → IsReached link (Sym s) → definition_of link.groups s ≡ Some s

-- ---- paths

-- where a has no root that b hasn't, and what a unit asks for in a it asks for in b too, unless a root of b does, no less is reached in b
abbrev pub MoreRootsReachMore : Type 0
MoreRootsReachMore = (a b : LinkInput) (unit : LinkUnit) → ((u : LinkUnit) → IsRoot a u → IsRoot b u)
    → ((u next : LinkUnit) → AsksFor a u next → AsksFor b u next ⊎ IsRoot b next) → IsReached a unit → IsReached b unit
