-- Words of flags that threads share: what each may hold, and what a thread knows of them.
use Rattle.std.specs.Prelude.{◌≡◌, ◌⊎◌, ℕ, List, [], ◌∷◌, All, Contains, bit_or, length, slice_index, slice_set}
use Rattle.std.specs.Int.{bit_at}
use Rattle.std.specs.List.Sorted.{IsPermutation}
use Rattle.lk_flags.specs.declared.flags.FlagSet.{FlagSet}
pub use Rattle.atomic_table.specs.Seated.{TableId}

-- each bit of the first is one of the second
abbrev pub Within : ℕ → ℕ → Type 0
Within a b = (i : ℕ) → bit_at a i ≡ 1 → bit_at b i ≡ 1

-- each word of the first list is within the word of the second at its place
abbrev pub AllWithin : List ℕ → List ℕ → Type 0
AllWithin vs ws = (n : ℕ) → Within (slice_index vs n) (slice_index ws n)

-- what was set is still there
abbrev pub AreIn : List FlagSet → List ℕ → Type 0
AreIn sets words = All (λ x. Within x.bits (slice_index words x.word)) sets

-- all parts of the right to set flags in a table
abbrev pub all_parts : ℕ
all_parts = 4294967296

-- what a pass knows: the table that it is of, how many parts of the right it has, and what it set and found there, in order
pub record Pass : Type 0 where
  pub table : TableId
  pub parts : ℕ
  pub sets : List FlagSet

-- a bit of a word is among those that were set, by a step that found it missing
pub record IsSet (sets : List FlagSet) (n i : ℕ) : Type 0 where
  pub one : FlagSet
  pub among : Contains sets one
  pub there : one.word ≡ n
  pub bit : bit_at one.bits i ≡ 1
  pub missing : bit_at one.found i ≡ 0

-- a word as it is found: it has what was handed in and the bits that these sets gave it, and nothing beyond its bound
pub record IsFound (handed words : List ℕ) (sets : List FlagSet) (word found : ℕ) : Type 0 where
  pub handed_in : Within (slice_index handed word) found
  pub bounded : Within found (slice_index words word)
  pub own : All (λ x. x.word ≡ word → Within x.bits found) sets

-- all words at the end
pub record AreLeft (handed words : List ℕ) (sets : List FlagSet) (left : List ℕ) : Type 0 where
  pub count : length left ≡ length words
  pub handed_in : AllWithin handed left
  pub bounded : AllWithin left words
  pub own : AreIn sets left

-- words have nothing but what was handed in and what was set; each bit that wasn't handed in was set by a step that found it missing
abbrev pub HaveNoMore : List ℕ → List FlagSet → List ℕ → Type 0
HaveNoMore handed sets words = (n i : ℕ) → bit_at (slice_index words n) i ≡ 1 → (bit_at (slice_index handed n) i ≡ 1) ⊎ IsSet sets n i

-- words become others by sets, one after the other: each found its word as those before it had left it, and joined its bits to that
unfoldable pub InTurn : List ℕ → List FlagSet → List ℕ → Type 0
InTurn first [] last = last ≡ first
InTurn first (x ∷ sets) last = (x.found ≡ slice_index first x.word) × InTurn (slice_set first x.word (bit_or x.found x.bits)) sets last

-- the same by these sets in some order
pub record AreInTurn (first : List ℕ) (sets : List FlagSet) (last : List ℕ) : Type 0 where
  pub order : List FlagSet
  pub same : IsPermutation sets order
  pub turns : InTurn first order last
