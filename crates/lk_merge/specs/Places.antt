-- Laws on places: what the image shows there, and which places there are.
use Rattle.std.specs.Prelude.{◌≡◌, ℕ, ◌+◌, ◌-◌, ◌%◌, ◌/◌, ◌^◌, ◌<◌, ◌≤◌, ◌⊎◌, ◌≢◌, List, length, None, Some, take, drop, true, slice_get, sum_by}
use Rattle.std.specs.List.{concat, flat_map, range_with_len}
use Rattle.lk_merge.specs.Hash.{fnv64}
use Rattle.lk_merge.specs.Image.{all_pieces, bucket_list, image, image_pieces, image_place, is_among, piece_at, place_in}
use Rattle.lk_merge.specs.Merging.{place_at}
use Rattle.lk_merge.specs.Pieces.{Piece, MergeInput, is_terminated, pieces_of}

-- the image shows each piece at its place; the places of different pieces are apart
pub record PiecesHavePlaces : Type 0 where
  pub shown : (hash : Piece → ℕ) (pieces : List Piece) (p : Piece) → is_among pieces p ≡ true
      → take (length p) (drop (image_place hash pieces p) (image hash pieces)) ≡ p
  pub within : (hash : Piece → ℕ) (pieces : List Piece) (p : Piece) → is_among pieces p ≡ true
      → image_place hash pieces p + length p ≤ length (image hash pieces)
  pub apart : (hash : Piece → ℕ) (pieces : List Piece) (p q : Piece) → is_among pieces p ≡ true → is_among pieces q ≡ true → p ≢ q
      → (image_place hash pieces p + length p ≤ image_place hash pieces q) ⊎ (image_place hash pieces q + length q ≤ image_place hash pieces p)
  pub one : (hash : Piece → ℕ) (pieces : List Piece) (p q : Piece) → is_among pieces p ≡ true → is_among pieces q ≡ true → 0 < length p → 0 < length q
      → image_place hash pieces p ≡ image_place hash pieces q → p ≡ q

-- an offset of an input has a place exactly within the data, and the image shows there what the input has up to its piece's end
pub record OffsetsHavePlaces : Type 0 where
  pub inside : (x : MergeInput) (offset : ℕ) → is_terminated x ≡ true → offset < length x.bytes
      → (p : Piece) × (d : ℕ) × (piece_at (pieces_of x) offset ≡ Some (p, d)) × (d < length p)
  pub outside : (hash : Piece → ℕ) (inputs : List MergeInput) (x : MergeInput) (offset : ℕ) → is_terminated x ≡ true → length x.bytes ≤ offset
      → place_at hash inputs x offset ≡ None
  pub shown : (hash : Piece → ℕ) (inputs : List MergeInput) (k : ℕ) (x : MergeInput) (offset : ℕ) (p : Piece) (d : ℕ)
      → slice_get inputs k ≡ Some x → is_terminated x ≡ true → piece_at (pieces_of x) offset ≡ Some (p, d)
      → take (length p - d) (drop (image_place hash (all_pieces inputs) p + d) (image hash (all_pieces inputs))) ≡ take (length p - d) (drop offset x.bytes)

-- where a bucket starts in the image: behind all that the buckets before it keep
abbrev pub bucket_start : (Piece → ℕ) → List Piece → ℕ → ℕ
bucket_start hash pieces b = length (concat (flat_map (bucket_list hash pieces) (range_with_len 0 b)))

-- a piece stands in the image where its bucket starts, and as far behind as in the bucket
abbrev pub BucketsStart : Type 0
BucketsStart = (hash : Piece → ℕ) (pieces : List Piece) (p : Piece) → is_among pieces p ≡ true
    → image_place hash pieces p ≡ bucket_start hash pieces (hash p % 16) + place_in (bucket_list hash pieces (hash p % 16)) p

-- the image holds each piece once, and nothing else: it is as long as they are together, and each starts where the ones before it end
pub record ImageIsDistinct : Type 0 where
  pub each : (hash : Piece → ℕ) (pieces : List Piece) (p : Piece) → is_among (image_pieces hash pieces) p ≡ is_among pieces p
  pub once : (hash : Piece → ℕ) (pieces : List Piece) (j k : ℕ) (p q : Piece) → j < k → slice_get (image_pieces hash pieces) j ≡ Some p
      → slice_get (image_pieces hash pieces) k ≡ Some q → p ≢ q
  pub len : (hash : Piece → ℕ) (pieces : List Piece) → length (image hash pieces) ≡ sum_by length (image_pieces hash pieces)
  pub places : (hash : Piece → ℕ) (pieces : List Piece) (k : ℕ) (p : Piece) → slice_get (image_pieces hash pieces) k ≡ Some p
      → image_place hash pieces p ≡ length (concat (take k (image_pieces hash pieces)))

-- ---- places in buckets

-- a place in one number tells where an offset of one of some inputs stands: the bucket of the piece that the offset is in, and how far behind
-- the bucket's start
pub record IsPlaceAt (inputs : List MergeInput) (x : MergeInput) (offset place : ℕ) : Type 0 where
  pub piece : Piece
  pub distance : ℕ
  pub at : piece_at (pieces_of x) offset ≡ Some (piece, distance)
  pub inside : distance < length piece
  pub among : is_among (all_pieces inputs) piece ≡ true
  pub bucket : place / 2 ^ 28 ≡ fnv64 piece % 16
  pub behind : place % 2 ^ 28 ≡ place_in (bucket_list fnv64 (all_pieces inputs) (fnv64 piece % 16)) piece + distance
