-- Stretches of bytes, and what is made of them.
use Rattle.std.specs.Prelude.{◌≡◌, ◌++◌, ℕ, ◌+◌, ◌<◌, ◌≤◌, List, Some, drop, fold, length, replicate, slice_get, slice_index, take}

-- these bytes in place of those from an offset on
abbrev pub put : ℕ → List ℕ → List ℕ → List ℕ
put offset bytes under = take offset under ++ (bytes ++ drop (length bytes) (drop offset under))

-- bytes, and the offset at which they begin
pub record Stretch : Type 0 where
  pub at : ℕ
  pub bytes : List ℕ

abbrev pub with_stretch : List ℕ → Stretch → List ℕ
with_stretch under one = put one.at one.bytes under

-- so many zeros, and over them these stretches, one after the other
abbrev pub laid_out : ℕ → List Stretch → List ℕ
laid_out count all = fold with_stretch (replicate count 0) all

-- an offset lies in a stretch
pub record IsInStretch (offset : ℕ) (one : Stretch) : Type 0 where
  pub begins : one.at ≤ offset
  pub ends : offset < one.at + length one.bytes

-- no two share an offset
abbrev pub AreApart : List Stretch → Type 0
AreApart all = (j k offset : ℕ) (a b : Stretch) → slice_get all j ≡ Some a → slice_get all k ≡ Some b → IsInStretch offset a → IsInStretch offset b → j ≡ k

-- none has a byte at the end of so many, or past it
abbrev pub EndWithin : ℕ → List Stretch → Type 0
EndWithin count all = (k offset : ℕ) (one : Stretch) → slice_get all k ≡ Some one → IsInStretch offset one → offset < count

-- bytes are made of stretches: they are so many, the bytes of each stretch stand at its place, and every other one is zero
pub record IsMadeOf (count : ℕ) (all : List Stretch) (bytes : List ℕ) : Type 0 where
  pub long : length bytes ≡ count
  pub stands : (k n : ℕ) (one : Stretch) → slice_get all k ≡ Some one → n < length one.bytes → slice_index bytes (one.at + n) ≡ slice_index one.bytes n
  pub rest : (offset : ℕ) → offset < count → ((k : ℕ) (one : Stretch) → slice_get all k ≡ Some one → IsInStretch offset one → ⊥) → slice_index bytes offset ≡ 0
