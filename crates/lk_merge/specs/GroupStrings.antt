-- What a group of inputs brings: its strings by bucket, and where each of its pieces starts.
use Rattle.std.specs.Prelude.{◌≡◌, ℕ, ◌+◌, List, ◌++◌, Some, Vec, length, slice_get}
use Rattle.std.specs.Global.{Global}
use Rattle.lk_merge.specs.declared.group_strings.GroupStrings.{GroupStrings}
use Rattle.lk_merge.specs.declared.string.MergeString.{MergeString}
use Rattle.lk_merge.specs.Between.{until}
use Rattle.lk_merge.specs.Hash.{fnv64}
use Rattle.lk_merge.specs.Image.{in_bucket}
use Rattle.lk_merge.specs.Inputs.{Located, located_in}
use Rattle.lk_merge.specs.MatrixCells.{pieces_of_strings}
use Rattle.lk_merge.specs.MergingTables.{pieces_in}
use Rattle.lk_merge.specs.PieceStarts.{HasStarts}
use Rattle.lk_merge.specs.Pieces.{cut}

-- pieces have been brought: the strings of each bucket, and where each piece starts, with its bucket
pub record HasBrought (done : List Located) (g : GroupStrings) : Type 0 where
  pub count : length g.buckets.items ≡ 16
  pub each : (b : ℕ) (found : Vec MergeString Global) → slice_get g.buckets.items b ≡ Some found → pieces_of_strings found.items ≡ in_bucket fnv64 b (pieces_in done)
  pub starts : HasStarts done g.starts

-- strings of an input have been brought up to where the rest starts
pub record BroughtUntil (bytes : List ℕ) (input start end : ℕ) (old : GroupStrings) (rest : List ℕ) (at : ℕ) (new : GroupStrings) : Type 0 where
  pub so_far : List Located
  pub all : until end (located_in input start (cut bytes)) ≡ so_far ++ until end (located_in input at (cut rest))
  pub fits : at + length rest ≡ start + length bytes
  pub count : length new.buckets.items ≡ length old.buckets.items
  pub made : (done : List Located) → HasBrought done old → HasBrought (done ++ so_far) new
