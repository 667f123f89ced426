-- Names by their numbers and ranks, and keys that sort sections by them (words of private functions).
use Rattle.std.specs.Prelude.{◌≡◌, ℕ, ◌+◌, ◌*◌, ◌%◌, ◌^◌, ◌<◌, List, Some, length, map, slice_get, slice_index}
use Rattle.std.specs.Cmp.Lexicographic.{slice_cmp}
use Rattle.std.specs.List.{enumerate_from}
use Rattle.std.specs.List.Sorted.{IsPermutation, IsSorted}
use Rattle.std.specs.Ordering.{nat_cmp}
use Rattle.std.specs.declared.cmp.Ordering.TheVariants.{Less}
use Rattle.lk_link.specs.Inputs.{Input}
use denote.Ref.{Bor}

-- the bytes of a lent name
abbrev pub bytes_of : Bor (List ℕ) → List ℕ
bytes_of name = name.now

-- no name stands twice
abbrev pub AreDistinct : List (List ℕ) → Type 0
AreDistinct names = (i j : ℕ) (name : List ℕ) → slice_get names i ≡ Some name → slice_get names j ≡ Some name → i ≡ j

-- the name of each section stands under its number
abbrev pub AreNumbered : List (List ℕ) → List ℕ → List Input → Type 0
AreNumbered names numbers xs = map (slice_get names) numbers ≡ map (λ x. Some x.section.name) xs

-- ranks compare as the names do
abbrev pub AreRanks : List (List ℕ) → List ℕ → Type 0
AreRanks names ranks = (i j : ℕ) (a b : List ℕ) → slice_get names i ≡ Some a → slice_get names j ≡ Some b
    → nat_cmp (slice_index ranks i) (slice_index ranks j) ≡ slice_cmp nat_cmp a b

-- names with their numbers, each once, in the order of their bytes
pub record IsByBytes (names : List (Bor (List ℕ))) (order : List (Bor (List ℕ) × ℕ)) : Type 0 where
  pub count : length order ≡ length names
  pub named : (q : ℕ) (e : Bor (List ℕ) × ℕ) → slice_get order q ≡ Some e → slice_get names e.1 ≡ Some e.0
  pub all : (i : ℕ) (name : Bor (List ℕ)) → slice_get names i ≡ Some name → (q : ℕ) × (slice_get order q ≡ Some (name, i))
  pub rising : (q r : ℕ) (e f : Bor (List ℕ) × ℕ) → q < r → slice_get order q ≡ Some e → slice_get order r ≡ Some f
      → slice_cmp nat_cmp e.0.now f.0.now ≡ Less

-- the key of a section at a place, by the number of its name
abbrev pub sort_key : List ℕ → ℕ × ℕ → ℕ
sort_key ranks q = slice_index ranks q.1 * 2 ^ 32 + q.0

-- a key for each of some sections, by the ranks of their names and their own places
pub record AreKeys (xs : List Input) (keys : List ℕ) : Type 0 where
  pub names : List (List ℕ)
  pub numbers : List ℕ
  pub ranks : List ℕ
  pub numbered : AreNumbered names numbers xs
  pub ranked : AreRanks names ranks
  pub keyed : keys ≡ map (sort_key ranks) (enumerate_from 0 numbers)

-- the same keys in rising order
pub record AreSortedKeys (xs : List Input) (keys : List ℕ) : Type 0 where
  pub made : List ℕ
  pub are : AreKeys xs made
  pub moved : IsPermutation made keys
  pub rising : IsSorted nat_cmp keys

-- some in the order of keys: each from the place that its key says
abbrev pub StandByKeys : {X : Type 0} → List X → List ℕ → List X → Type 0
StandByKeys found keys all = map Some all ≡ map (λ key. slice_get found (key % 2 ^ 32)) keys
