-- The pieces of an input section that is merged.
use Rattle.std.specs.Prelude.{◌≡◌, ℕ, ◌-◌, ◌==◌, ◌||◌, Bool, true, not, List, [], ◌∷◌, ◌++◌, All, Contains, MatchBool, if◌then◌else◌, length, slice_index}
use Rattle.std.specs.List.{concat}

-- a piece, as its bytes
abbrev pub Piece : Type 0
Piece = List ℕ

-- what an input section brings: its number over all input sections, its data, and whether they are strings
pub record MergeInput : Type 0 where
  pub number : ℕ
  pub bytes : List ℕ
  pub strings : Bool

-- ---- the pieces, as they are defined

-- a string: its last byte is its only zero byte
pub record IsString (p : Piece) : Type 0 where
  pub text : List ℕ
  pub ends : p ≡ text ++ 0 ∷ []
  pub only : ¬ Contains text 0

-- some data, cut into strings
pub record AreStrings (bytes : List ℕ) (ps : List Piece) : Type 0 where
  pub each : All IsString ps
  pub whole : concat ps ≡ bytes

-- a constant is one piece, unless it is empty
abbrev pub constant : List ℕ → List Piece
constant [] = []
constant (b ∷ bs) = (b ∷ bs) ∷ []

-- the pieces of an input
abbrev pub ArePieces : MergeInput → List Piece → Type 0
ArePieces x ps = MatchBool x.strings (AreStrings x.bytes ps) (ps ≡ constant x.bytes)

-- an input that has pieces
abbrev pub IsTerminated : MergeInput → Type 0
IsTerminated x = (ps : List Piece) × ArePieces x ps

-- ---- the pieces, as they are found

-- a byte before the first of some pieces
abbrev pub lengthen : ℕ → List Piece → List Piece
lengthen b [] = []
lengthen b (p ∷ ps) = (b ∷ p) ∷ ps

-- some data, cut after each zero byte; bytes behind the last one are in no piece
unfoldable pub cut : List ℕ → List Piece
cut [] = []
cut (b ∷ bs) = if b == 0 then (b ∷ []) ∷ cut bs else lengthen b (cut bs)

abbrev pub pieces_of : MergeInput → List Piece
pieces_of x = if x.strings then cut x.bytes else constant x.bytes

-- an input that isn't strings, or is empty, or ends in a zero byte
abbrev pub is_terminated : MergeInput → Bool
is_terminated x = not x.strings || (slice_index x.bytes (length x.bytes - 1) == 0)

-- ---- laws

-- an input has pieces exactly where it is terminated, and they are the ones that are found
pub record PiecesAreOne : Type 0 where
  pub found : (x : MergeInput) → is_terminated x ≡ true → ArePieces x (pieces_of x)
  pub one : (x : MergeInput) (ps : List Piece) → ArePieces x ps → (is_terminated x ≡ true) × (ps ≡ pieces_of x)
