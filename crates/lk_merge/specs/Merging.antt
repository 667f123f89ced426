-- What merging makes of the inputs of an output section, or why it refuses them.
use Rattle.std.specs.Prelude.{◌≡◌, ◌≢◌, ◌↔◌, ℕ, ◌+◌, ◌<◌, ◌%◌, ◌==◌, not, Bool, false, List, [], ◌∷◌, ◌++◌, Option, None, Some, Result, Ok, Err, if◌then◌else◌, find, length, map, nat_lt, option_and_then, option_map, position, slice_get}
use Rattle.std.specs.List.{concat}
use Rattle.lk_link.specs.Files.{first_some}
use Rattle.lk_merge.specs.declared.error.MergeError.{MergeError}
use Rattle.lk_merge.specs.declared.error.MergeError.TheVariants.{NotTerminated, TooLarge, NoMemory}
use Rattle.lk_merge.specs.Buckets.{Bucket, bucket_place, fits_behind}
use Rattle.lk_merge.specs.Image.{bucket_list, all_buckets, all_pieces, is_among, piece_at, place_in}
use Rattle.lk_merge.specs.Inputs.{input_start, padded_len}
use Rattle.lk_merge.specs.Pieces.{Piece, MergeInput, is_terminated, pieces_of}

-- ---- places

-- the place of a piece: its bucket, and where it starts there, in one number
abbrev pub place_of : (Piece → ℕ) → List Piece → Piece → ℕ
place_of hash pieces p = bucket_place (hash p % 16) (place_in (bucket_list hash pieces (hash p % 16)) p)

-- ---- refusals

-- whether one of the pieces that a bucket keeps ends past the limit
abbrev pub is_too_long : ℕ → List Piece → Piece → Bool
is_too_long limit kept p = nat_lt limit (place_in kept p + length p)

-- the first of them that does: where it starts, and its length
abbrev pub first_too_long : ℕ → List Piece → Option (ℕ × ℕ)
first_too_long limit kept = option_map (λ p. (place_in kept p, length p)) (find (is_too_long limit kept) kept)

-- the refusal of a bucket that would keep these pieces
abbrev pub bucket_refusal : ℕ → ℕ → ℕ → List Piece → Option MergeError
bucket_refusal section limit b kept = option_map (λ q. TooLarge section b q.0 q.1) (first_too_long limit kept)

-- the first answer among some things
unfoldable pub first_of : {X Y : Type 0} → (X → Option Y) → List X → Option Y
first_of f [] = None
first_of f (x ∷ xs) = first_some (f x) (first_of f xs)

-- the least bucket's refusal
abbrev pub long_refusal : (Piece → ℕ) → ℕ → ℕ → List Piece → Option MergeError
long_refusal hash section limit pieces = first_of (λ b. bucket_refusal section limit b (bucket_list hash pieces b)) all_buckets

-- the refusal of an output section: of its first input that isn't terminated, else of a piece that is too long
abbrev pub merge_refusal : (Piece → ℕ) → ℕ → ℕ → List MergeInput → Option MergeError
merge_refusal hash section limit inputs =
    first_some (option_map (λ k. NotTerminated section k) (position (λ x. not (is_terminated x)) inputs))
    (long_refusal hash section limit (all_pieces inputs))

-- ---- what is kept

-- what the buckets of an output section keep, in order; without inputs it has no buckets
abbrev pub kept_lists : (Piece → ℕ) → List MergeInput → List (List Piece)
kept_lists hash [] = []
kept_lists hash (x ∷ xs) = map (bucket_list hash (all_pieces (x ∷ xs))) all_buckets

-- what the merging of an output section answers: its inputs merged, or the refusal; nothing is said for want of memory
abbrev pub GivesMerged : (Piece → ℕ) → ℕ → ℕ → List MergeInput → Result (List MergeInput) MergeError → Type 0
GivesMerged hash section limit inputs (Ok merged) = (merge_refusal hash section limit inputs ≡ None) × (merged ≡ inputs)
GivesMerged hash section limit inputs (Err NoMemory) = Unit {0}
GivesMerged hash section limit inputs (Err error) = merge_refusal hash section limit inputs ≡ Some error

-- where an offset of one of some inputs stands: its piece's place, and the distance into the piece; nowhere behind the data
abbrev pub place_at : (Piece → ℕ) → List MergeInput → MergeInput → ℕ → Option ℕ
place_at hash inputs x offset = option_map (λ q. place_of hash (all_pieces inputs) q.0 + q.1) (piece_at (pieces_of x) offset)

-- the last of inputs that starts at an offset, where the first of them starts at another
unfoldable pub last_from : ℕ → List MergeInput → ℕ → Option MergeInput
last_from at [] start = None
last_from at (x ∷ xs) start = first_some (last_from (at + padded_len x) xs start) (if at == start then Some x else None)

-- where an offset behind the start of an input stands: several may start at one place, of which the last alone can have bytes
-- (libwild: `find_string`)
abbrev pub found_place : (Piece → ℕ) → List MergeInput → ℕ → ℕ → Option ℕ
found_place hash inputs start offset = option_and_then (λ x. place_at hash inputs x offset) (last_from 0 inputs start)

-- ---- laws

-- where none of what a bucket keeps is too long, one more piece fits behind it, or is the first that is too long
abbrev pub FittingIsNotTooLong : Type 0
FittingIsNotTooLong = (bucket : Bucket) (p : Piece) → is_among bucket.pieces p ≡ false → first_too_long bucket.limit bucket.pieces ≡ None
    → first_too_long bucket.limit (bucket.pieces ++ p ∷ []) ≡ (if fits_behind bucket p then None else Some (length (concat bucket.pieces), length p))

-- one of some inputs starts at an offset, and no later one does
pub record IsLastStart (inputs : List MergeInput) (start : ℕ) (x : MergeInput) : Type 0 where
  pub index : ℕ
  pub there : slice_get inputs index ≡ Some x
  pub starts : input_start inputs index ≡ start
  pub last : (j : ℕ) (y : MergeInput) → index < j → slice_get inputs j ≡ Some y → input_start inputs j ≢ start

-- just such an input is the last one from the first on
abbrev pub LastStartIsFound : Type 0
LastStartIsFound = (inputs : List MergeInput) (start : ℕ) (x : MergeInput) → (last_from 0 inputs start ≡ Some x) ↔ IsLastStart inputs start x
