-- Where the pieces of a group start, as it is kept until the end.
use Rattle.std.specs.Prelude.{◌≡◌, ℕ, ◌+◌, ◌%◌, List, Some, map, slice_get}
use Rattle.lk_merge.specs.declared.piece_starts.PieceStarts.{PieceStarts}
use Rattle.lk_merge.specs.Hash.{fnv64}
use Rattle.lk_merge.specs.Inputs.{Located}

-- the bucket of a piece
abbrev pub bucket_of : Located → ℕ
bucket_of l = fnv64 l.piece % 16

-- these are the starts of some pieces, and their buckets
pub record HasStarts (pieces : List Located) (s : PieceStarts) : Type 0 where
  pub starts : map (λ o. s.from + o) s.offsets.items ≡ map (λ l. l.start) pieces
  pub buckets : s.buckets.items ≡ map bucket_of pieces

-- a piece starts at an offset, and goes to a bucket
pub record IsStartOf (pieces : List Located) (index start bucket : ℕ) : Type 0 where
  pub piece : Located
  pub there : slice_get pieces index ≡ Some piece
  pub starts : start ≡ piece.start
  pub goes : bucket ≡ bucket_of piece
