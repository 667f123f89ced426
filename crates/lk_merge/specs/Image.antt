-- What the output holds of the pieces of its inputs, and where.
use Rattle.std.specs.Prelude.{◌≡◌, ℕ, ◌+◌, ◌-◌, ◌%◌, ◌==◌, Bool, List, [], ◌∷◌, ◌++◌, Option, None, Some, if◌then◌else◌, filter, length, nat_lt}
use Rattle.std.specs.List.{concat, flat_map, list_any, range_with_len}
use Rattle.std.specs.Str.{bytes_eq}
use Rattle.lk_merge.specs.Pieces.{Piece, MergeInput, pieces_of}

-- ---- which pieces are kept

-- a piece stands in a list
abbrev pub is_among : List Piece → Piece → Bool
is_among ps p = list_any (bytes_eq p) ps

-- some pieces behind others: each of them before which no equal one stands
unfoldable pub firsts_behind : List Piece → List Piece → List Piece
firsts_behind before [] = []
firsts_behind before (p ∷ ps) =
    let rest = firsts_behind (before ++ p ∷ []) ps in
    if is_among before p then rest else p ∷ rest

module _ (hash : Piece → ℕ) where
  -- those of some pieces that go to bucket b, by their hash
  abbrev pub in_bucket : ℕ → List Piece → List Piece
  in_bucket b pieces = filter (λ p. hash p % 16 == b) pieces

  -- what bucket b keeps: each of its pieces before which no equal one stands (libwild: `add_string`)
  abbrev pub bucket_list : List Piece → ℕ → List Piece
  bucket_list pieces b = firsts_behind [] (in_bucket b pieces)

-- the buckets, in order
unfoldable pub all_buckets : List ℕ
all_buckets = range_with_len 0 16

-- ---- the image

-- the pieces of inputs, in order
abbrev pub all_pieces : List MergeInput → List Piece
all_pieces inputs = flat_map pieces_of inputs

module _ (hash : Piece → ℕ) where
  -- the distinct pieces, in the order of the output: bucket by bucket
  abbrev pub image_pieces : List Piece → List Piece
  image_pieces pieces = flat_map (bucket_list hash pieces) all_buckets

  -- what the output holds of some pieces
  abbrev pub image : List Piece → List ℕ
  image pieces = concat (image_pieces pieces)

-- ---- places

-- the bytes before the first of a list that is equal to a piece
unfoldable pub place_in : List Piece → Piece → ℕ
place_in [] p = 0
place_in (q ∷ qs) p = if bytes_eq p q then 0 else length q + place_in qs p

-- the piece that an offset is in, and how far inside it
unfoldable pub piece_at : List Piece → ℕ → Option (Piece × ℕ)
piece_at [] offset = None
piece_at (p ∷ ps) offset = if nat_lt offset (length p) then Some (p, offset) else piece_at ps (offset - length p)

-- where in the image a piece stands
abbrev pub image_place : (Piece → ℕ) → List Piece → Piece → ℕ
image_place hash pieces p = place_in (image_pieces hash pieces) p

-- ---- laws

-- the law for appending: what a bucket keeps of more pieces begins with what it keeps of the first ones
abbrev pub BucketsGrow : Type 0
BucketsGrow = (hash : Piece → ℕ) (b : ℕ) (first more : List Piece)
    → bucket_list hash (first ++ more) b ≡ bucket_list hash first b ++ firsts_behind (in_bucket hash b first) (in_bucket hash b more)
