-- A bucket: what it holds, and what becomes of a piece that it gets.
use Rattle.std.specs.Prelude.{◌≡◌, ℕ, ◌+◌, ◌*◌, ◌/◌, ◌%◌, ◌^◌, ◌||◌, Bool, List, [], ◌∷◌, ◌++◌, Result, Ok, Err, if◌then◌else◌, length, nat_le}
use Rattle.std.specs.List.{concat}
use Rattle.lk_merge.specs.declared.error.MergeError.{MergeError}
use Rattle.lk_merge.specs.declared.error.MergeError.TheVariants.{TooLarge, NoMemory}
use Rattle.lk_merge.specs.declared.string.MergeString.{MergeString}
use Rattle.lk_merge.specs.Image.{is_among, place_in}
use Rattle.lk_merge.specs.Pieces.{Piece}

-- a string, as its bytes
abbrev pub piece_of : MergeString → Piece
piece_of s = s.bytes.now

-- a bucket: its output section, its number there, the most bytes that it holds, and the pieces that it keeps, in order
pub record Bucket : Type 0 where
  pub section : ℕ
  pub number : ℕ
  pub limit : ℕ
  pub pieces : List Piece

-- a bucket that holds nothing
abbrev pub empty_bucket : ℕ → ℕ → ℕ → Bucket
empty_bucket section number limit = record { section = section; number = number; limit = limit; pieces = [] }

-- a place in a bucket, in one number
abbrev pub bucket_place : ℕ → ℕ → ℕ
bucket_place number offset = number * 2 ^ 28 + offset

-- a number tells a bucket and an offset there
abbrev pub Tells : ℕ → ℕ → ℕ → Type 0
Tells number offset place = (place / 2 ^ 28 ≡ number) × (place % 2 ^ 28 ≡ offset)

-- a piece ends within the bucket's limit, or doesn't
abbrev pub fits_behind : Bucket → Piece → Bool
fits_behind bucket p = nat_le (length (concat bucket.pieces) + length p) bucket.limit

-- the place of a piece: that of the equal one that is kept, else the end; refused where it would end past the limit
abbrev pub adding : Bucket → Piece → Result ℕ MergeError
adding bucket p =
    if is_among bucket.pieces p || fits_behind bucket p then Ok (bucket_place bucket.number (place_in bucket.pieces p))
    else Err (TooLarge bucket.section bucket.number (length (concat bucket.pieces)) (length p))

-- the bucket with the piece, which goes last unless an equal one is kept
abbrev pub with_piece : Bucket → Piece → Bucket
with_piece bucket p = record bucket { pieces = if is_among bucket.pieces p then bucket.pieces else bucket.pieces ++ p ∷ [] }

-- what the bucket answers and is then, where the place tells the bucket and the piece's offset there; as it was after a refusal
abbrev pub Adds : Bucket → Piece → Result ℕ MergeError → Bucket → Type 0
Adds old p (Ok place) new = (adding old p ≡ Ok place) × (new ≡ with_piece old p) × Tells old.number (place_in old.pieces p) place
Adds old p (Err NoMemory) new = new ≡ old
Adds old p (Err error) new = (adding old p ≡ Err error) × (new ≡ old)
