-- Of the ending of a matrix: the buckets that have ended. Cited by private parts alone.
use Rattle.std.specs.Prelude.{◌≡◌, ◌≢◌, ℕ, true, false, Some, None, Vec, length, slice_get}
use Rattle.std.specs.Global.{Global}
use Rattle.lk_merge.specs.declared.ending.Ended.{Ended}
use Rattle.lk_merge.specs.declared.merging.BucketState.{BucketState}
use Rattle.lk_merge.specs.declared.offset.BucketOffset.{BucketOffset}
use Rattle.lk_merge.specs.Hash.{fnv64}
use Rattle.lk_merge.specs.Image.{in_bucket}
use Rattle.lk_merge.specs.MatrixWork.{MatrixWork, front, kept_of, places_of}
use Rattle.lk_merge.specs.MergingTables.{HasTaken}

-- the first buckets have taken all groups, or have stopped; where none has, their pieces stand where they should
pub record HaveTaken (w : MatrixWork) (e : Ended) : Type 0 where
  pub count : length e.places.items ≡ length e.states.items
  pub states : (b : ℕ) (state : BucketState) → slice_get e.states.items b ≡ Some state → HasTaken w.section w.limit b (kept_of w b (length w.groups)) state
  pub places : e.stopped ≡ false → (b : ℕ) (found : Vec BucketOffset Global) → slice_get e.places.items b ≡ Some found
      → found.items ≡ places_of b (in_bucket fnv64 b (front w (length w.groups)))
  pub one : e.stopped ≡ true → (b : ℕ) × (state : BucketState) × (slice_get e.states.items b ≡ Some state) × (state.refusal ≢ None)
