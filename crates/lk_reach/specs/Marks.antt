-- What is reached by the numbers of units, and the flags of symbols: marks and words.
use Rattle.std.specs.Prelude.{◌≡◌, ℕ, zero, suc, ◌+◌, ◌<◌, ◌^◌, Bool, true, false, List, [], ◌∷◌, ◌++◌, Option, Some, None, bit_or, length, map, option_map, replicate, slice_get, slice_index, slice_index_or, slice_set, All}
use Rattle.std.specs.Int.{bit_at}
use Rattle.std.specs.List.{range_with_len}
use Rattle.std.specs.Option.{ForSome, option_map_or}
use Rattle.lk_link.specs.declared.file.InputFile.{InputFile}
use Rattle.lk_link.specs.declared.link.LinkInput.{LinkInput}
use Rattle.lk_link.specs.declared.symbol.InputSymbol.{InputSymbol}
use Rattle.lk_link.specs.Inputs.{all_inputs, input_number}
use Rattle.lk_link.specs.Symbols.{all_files, all_symbols, symbol_count}
use Rattle.lk_reach.specs.declared.units.Ask.{Ask}
use Rattle.lk_reach.specs.declared.units.Unit.{Unit as LinkUnit}
use Rattle.lk_reach.specs.declared.units.Unit.TheVariants.{Sym, Sec}
use Rattle.lk_reach.specs.declared.walk.Walk.{Walk}
use Rattle.lk_reach.specs.Units.{flags_of, follows, roots, target_of, unit_of}

-- ---- numbers

-- how many symbols a link has
abbrev pub symbols_in_all : List (List InputFile) → ℕ
symbols_in_all groups = symbol_count (all_files groups)

-- all units in the order of their numbers: the symbols, then the input sections
abbrev pub all_units : List (List InputFile) → List LinkUnit
all_units groups = map Sym (range_with_len 0 (symbols_in_all groups)) ++ map unit_of (all_inputs groups)

-- the unit with this number
abbrev pub unit_at : List (List InputFile) → ℕ → Option LinkUnit
unit_at groups n = slice_get (all_units groups) n

-- the number of a unit
abbrev pub unit_number : List (List InputFile) → LinkUnit → ℕ
unit_number groups (Sym s) = s
unit_number groups (Sec id i) = symbols_in_all groups + input_number groups id i

-- a unit of the link: the one that has its number
abbrev pub IsUnit : List (List InputFile) → LinkUnit → Type 0
IsUnit groups unit = unit_at groups (unit_number groups unit) ≡ Some unit

-- what an ask names is there: its target is a unit of the link, and its symbol is one of the link's
pub record IsInside (groups : List (List InputFile)) (a : Ask) : Type 0 where
  pub target : ForSome (target_of a) (IsUnit groups)
  pub symbol : ForSome (flags_of a) (λ p. p.0 < symbols_in_all groups)

-- ---- who asks for what, by numbers

-- so many units, what is asked for by roots and by each unit, and the unit that an ask reaches
pub record Asking : Type 0 where
  pub count : ℕ
  pub roots : List Ask
  pub follows : ℕ → List Ask
  pub target : Ask → Option ℕ

-- the units of a link
abbrev pub asking : LinkInput → Asking
asking link = record {
  count = length (all_units link.groups);
  roots = roots link;
  follows = λ n. option_map_or (follows link) (unit_at link.groups n) [];
  target = λ a. option_map (unit_number link.groups) (target_of a);
}

-- what roots and marked units ask for
unfoldable pub asked_from : (ℕ → List Ask) → ℕ → List Bool → List Ask
asked_from follows u [] = []
asked_from follows u (true ∷ marks) = follows u ++ asked_from follows (suc u) marks
asked_from follows u (false ∷ marks) = asked_from follows (suc u) marks

abbrev pub asked : Asking → List Bool → List Ask
asked g marks = g.roots ++ asked_from g.follows 0 marks

-- ---- marks

abbrev pub IsMarked : List Bool → ℕ → Type 0
IsMarked marks u = slice_index_or marks u false ≡ true

-- an ask's target, if it has one, is marked
abbrev pub IsHit : Asking → List Bool → Ask → Type 0
IsHit g marks a = ForSome (g.target a) (IsMarked marks)

-- mark a unit, if there is one
abbrev pub mark_target : List Bool → Option ℕ → List Bool
mark_target marks None = marks
mark_target marks (Some u) = slice_set marks u true

-- mark what is asked for
unfoldable pub mark_all : Asking → List Bool → List Ask → List Bool
mark_all g marks [] = marks
mark_all g marks (a ∷ asks) = mark_all g (mark_target marks (g.target a)) asks

-- so many rounds of "mark what roots and marked units ask for"
unfoldable pub rounds : Asking → ℕ → List Bool → List Bool
rounds g zero marks = marks
rounds g (suc k) marks = rounds g k (mark_all g marks (asked g marks))

-- the units that are reached, by their numbers: a round for each unit is enough
abbrev pub marks_of : Asking → List Bool
marks_of g = rounds g g.count (replicate g.count false)

abbrev pub reached_marks : LinkInput → List Bool
reached_marks link = marks_of (asking link)

-- ---- words

-- the place of a symbol's word: the first word is spare
abbrev pub word_of : ℕ → ℕ
word_of s = s + 1

-- the flags of an ask, if it sets any, are in its symbol's word
abbrev pub IsJoined : List ℕ → Ask → Type 0
IsJoined words a = ForSome (flags_of a) (λ p. (i : ℕ) → bit_at p.1 i ≡ 1 → bit_at (slice_index words (word_of p.0)) i ≡ 1)

-- join flags into the word of a symbol, if there are any
abbrev pub join_flags : List ℕ → Option (ℕ × ℕ) → List ℕ
join_flags words None = words
join_flags words (Some p) = slice_set words (word_of p.0) (bit_or (slice_index words (word_of p.0)) p.1)

-- join what asks set
unfoldable pub join_all : List ℕ → List Ask → List ℕ
join_all words [] = words
join_all words (a ∷ asks) = join_all (join_flags words (flags_of a)) asks

-- the flags that are handed in with a symbol
abbrev pub flags_handed_in : InputSymbol → ℕ
flags_handed_in s = s.flags.0

-- the flags that are handed in, behind a spare word
abbrev pub handed_in : LinkInput → List ℕ
handed_in link = 0 ∷ map flags_handed_in (all_symbols link.groups)

-- the flags of all symbols: those handed in, and those of what roots and reached units ask for
abbrev pub flag_words : LinkInput → List ℕ
flag_words link = join_all (handed_in link) (asked (asking link) (reached_marks link))

-- words hold 32 bits each
abbrev pub AreFew : List ℕ → Type 0
AreFew words = All (λ w. w < 2 ^ 32) words

-- ---- closed

-- each ask of a root and of a marked unit has its target marked and its flags in its word
pub record IsClosed (g : Asking) (marks : List Bool) (words : List ℕ) : Type 0 where
  pub by_roots : All (λ a. IsHit g marks a × IsJoined words a) g.roots
  pub by_units : (u : ℕ) → IsMarked marks u → All (λ a. IsHit g marks a × IsJoined words a) (g.follows u)

-- ---- a finished walk

-- the marks of all that is reached, and the words of its flags
pub record IsWalked (link : LinkInput) (w : Walk) : Type 0 where
  pub marks : w.marks.items ≡ reached_marks link
  pub words : w.words.items ≡ flag_words link
  pub few : AreFew w.words.items
