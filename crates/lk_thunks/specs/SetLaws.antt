-- What holds of sets of thunks.
use Rattle.std.specs.Prelude.{ℕ, ◌<◌, ◌≤◌, List, length, slice_index}
use Rattle.lk_link.specs.declared.ids.FileId.{FileId}
use Rattle.lk_thunks.specs.ThunkSets.{Planning, thunk_set}

-- a list rises strictly
abbrev pub IsRising : List ℕ → Type 0
IsRising numbers = (i j : ℕ) → i < j → j < length numbers → slice_index numbers i < slice_index numbers j

-- the definitions of a set rise
abbrev pub SetsRise : Type 0
SetsRise = (by : Planning) (k : ℕ) (objects : List (FileId × ℕ × ℕ)) → IsRising (thunk_set by k objects)

-- where a number stands or would stand in a list that rises: those before it are less, and the others aren't
pub record IsPlaceFor (numbers : List ℕ) (n place : ℕ) : Type 0 where
  pub within : place ≤ length numbers
  pub below : (k : ℕ) → k < place → slice_index numbers k < n
  pub above : (k : ℕ) → place ≤ k → k < length numbers → n ≤ slice_index numbers k
