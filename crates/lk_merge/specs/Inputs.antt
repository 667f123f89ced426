-- The inputs of an output section: where each stands, as if they stood one after the other.
use Rattle.std.specs.Prelude.{◌≡◌, ◌↔◌, ℕ, ◌+◌, ◌<◌, ◌^◌, List, [], ◌∷◌, ◌++◌, Contains, Some, length, map, slice_get, sum_by, take}
use Rattle.std.specs.Int.{next_multiple_of}
use Rattle.std.specs.List.{concat}
use Rattle.lk_merge.specs.declared.inputs.StringMergeInputSection.{StringMergeInputSection}
use Rattle.lk_merge.specs.Image.{all_pieces}
use Rattle.lk_merge.specs.Pieces.{Piece, MergeInput, pieces_of}

-- an input section, as contracts see it
abbrev pub input_of : StringMergeInputSection → MergeInput
input_of s = record { number = s.number; bytes = s.section_data.now; strings = s.is_string }

-- the bytes of an input, rounded up to a multiple of 256
abbrev pub padded_len : MergeInput → ℕ
padded_len x = next_multiple_of (length x.bytes) 256

-- those of some inputs
abbrev pub padded_total : List MergeInput → ℕ
padded_total inputs = sum_by padded_len inputs

-- where the k-th of some inputs starts
abbrev pub input_start : List MergeInput → ℕ → ℕ
input_start inputs k = padded_total (take k inputs)

-- inputs of an output section: each starts where the padded ones before it end; they are few, within 63 bits, and by rising number
pub record AreInputs (total : ℕ) (sections : List StringMergeInputSection) : Type 0 where
  pub starts : (k : ℕ) (s : StringMergeInputSection) → slice_get sections k ≡ Some s → s.start_input_offset ≡ padded_total (map input_of (take k sections))
  pub sum : total ≡ padded_total (map input_of sections)
  pub fits : total < 2 ^ 63
  pub few : length sections < 2 ^ 32
  pub rise : (j k : ℕ) (r s : StringMergeInputSection) → j < k → slice_get sections j ≡ Some r → slice_get sections k ≡ Some s → r.number < s.number

-- ---- pieces in their places

-- a piece, the index of its input, and where it starts
pub record Located : Type 0 where
  pub input : ℕ
  pub start : ℕ
  pub piece : Piece

-- the pieces of an input, from the first on
unfoldable pub located_in : ℕ → ℕ → List Piece → List Located
located_in input at [] = []
located_in input at (p ∷ ps) = record { input = input; start = at; piece = p } ∷ located_in input (at + length p) ps

-- the pieces of inputs, the first of which has an index and a start
unfoldable pub located_from : ℕ → ℕ → List MergeInput → List Located
located_from input at [] = []
located_from input at (x ∷ xs) = located_in input at (pieces_of x) ++ located_from (input + 1) (at + padded_len x) xs

-- those of all inputs of an output section
abbrev pub located : List MergeInput → List Located
located inputs = located_from 0 0 inputs

-- ---- a law

-- a piece of one of some inputs, which starts as far behind the input's start as the pieces before it are long
pub record IsLocated (inputs : List MergeInput) (l : Located) : Type 0 where
  pub input : MergeInput
  pub there : slice_get inputs l.input ≡ Some input
  pub index : ℕ
  pub at : slice_get (pieces_of input) index ≡ Some l.piece
  pub start : l.start ≡ input_start inputs l.input + length (concat (take index (pieces_of input)))

-- the pieces in their places are all pieces, in order, and just those that stand so
pub record PiecesAreLocated : Type 0 where
  pub pieces : (inputs : List MergeInput) → map (λ l. l.piece) (located inputs) ≡ all_pieces inputs
  pub each : (inputs : List MergeInput) (l : Located) → Contains (located inputs) l ↔ IsLocated inputs l
