-- Words of private contracts: the rule of a table of flags, and what its steps tell.
use Rattle.std.specs.Prelude.{◌≡◌, ℕ, ◌+◌, List, [], ◌∷◌, ◌++◌, length}
use mathlib.Core.Option.{some}
use lib.ListN.{get_elem?}
use Rattle.atomic_table.specs.Table.{Me, State, Step}
use Rattle.lk_flags.specs.declared.flags.FlagSet.{FlagSet}
use Rattle.lk_flags.specs.declared.flags.View.{View}
use Rattle.lk_flags.specs.Flags.{AllWithin, AreIn, AreInTurn, IsFound, all_parts}

-- a view with so many parts, in which these flags were set
abbrev pub view_of : ℕ → List FlagSet → View
view_of parts sets = record { parts = parts; sets = sets }

-- the parts of all views
abbrev pub parts_of : List View → ℕ
parts_of [] = 0
parts_of (v ∷ views) = v.parts + parts_of views

-- the sets of all views
abbrev pub sets_of : List View → List FlagSet
sets_of [] = []
sets_of (v ∷ views) = v.sets ++ sets_of views

-- the sets of all views turned what was handed in into the words, one after the other; every word is within its bound, and has what was
-- set in views; the views have all parts together, and one that has none has set nothing
pub record IsKept (handed bounds words : List ℕ) (views : List View) : Type 0 where
  pub count : length words ≡ length bounds
  pub bounded : AllWithin words bounds
  pub in_turn : AreInTurn handed (sets_of views) words
  pub views_in : (k : ℕ) (v : View) → get_elem? views k ≡ some v → AreIn v.sets words
  pub parts : parts_of views ≡ all_parts
  pub idle : (k : ℕ) (v : View) → get_elem? views k ≡ some v → v.parts ≡ 0 → v.sets ≡ []

-- the same for a table
abbrev pub IsKeptBy : List ℕ → List ℕ → State ℕ View → Type 0
IsKeptBy handed bounds s = IsKept handed bounds s.words s.views

-- a step sets its flags in its word, and tells what it found there
pub record SetsFlags (handed bounds : List ℕ) (step : Step ℕ) (old : Me ℕ View) (found : ℕ) (new : Me ℕ View) : Type 0 where
  pub sets : new.0.sets ≡ old.0.sets ++ record { word = step.word; bits = step.first; found = found } ∷ []
  pub parts : new.0.parts ≡ old.0.parts
  pub held : new.1 ≡ old.1
  pub finds : IsFound handed bounds old.0.sets step.word found
