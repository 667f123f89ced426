-- The calls of cells and buckets are the steps of the matrix.
use Rattle.std.specs.Prelude.{◌≡◌, ◌+◌, Bool, true, false, List, None}
use Rattle.lk_grid.specs.Machine as machine
use Rattle.lk_grid.specs.Machine.{Filled, GoesOn, Grid, IsFreed}
use Rattle.lk_merge.specs.declared.cell.Fill.{Fill}
use Rattle.lk_merge.specs.declared.cell.Fill.TheVariants as fill
use Rattle.lk_merge.specs.declared.cell.Take.{Take}
use Rattle.lk_merge.specs.declared.cell.Take.TheVariants as take
use Rattle.lk_merge.specs.declared.string.MergeString.{MergeString}
use Rattle.lk_merge.specs.Hash.{fnv64}
use Rattle.lk_merge.specs.Matrix.{grid_of}
use Rattle.lk_merge.specs.MatrixCells.{BucketValue, CellValue, ComesTo, IsOnItsWay, pieces_of_strings}
use Rattle.lk_merge.specs.MatrixTables.{AreRight, Gets, Puts}
use Rattle.lk_merge.specs.MatrixWork.{MatrixWork, cell_pieces}
use Rattle.lk_merge.specs.Pieces.{Piece}

-- the matrix of what is merged
abbrev pub work_grid : MatrixWork → Grid Piece
work_grid w = grid_of fnv64 w.inputs w.groups

-- a bucket of the matrix, which can go on or waits
abbrev pub step_bucket : Bool → BucketValue → machine.Bucket Piece
step_bucket free v = record { taken = v.taken; held = v.state.bucket.pieces; free = free }

-- a cell is filled, and the bucket that waited there is free
abbrev pub IsFill : {J : Type 0} → MatrixWork → CellValue → Fill J → CellValue → Type 0
IsFill w old (fill.Again strings) new = new ≡ old
IsFill w old (fill.Freed bucket) new =
    (new.cell ≡ Filled ((work_grid w).pieces old.group old.bucket)) × IsFreed old.cell (step_bucket false bucket) (step_bucket true bucket)
IsFill w old fill.Kept new = (new.cell ≡ Filled ((work_grid w).pieces old.group old.bucket)) × ((b : machine.Bucket Piece) → IsFreed old.cell b b)

-- a bucket takes its next group and goes on, unless it stops there; or it waits
abbrev pub IsTake : {J : Type 0} → MatrixWork → CellValue → BucketValue → Take J → CellValue → Type 0
IsTake w old bucket (take.Strings same strings) new = (after : BucketValue) → IsOnItsWay w after → after.number ≡ bucket.number → after.taken ≡ bucket.taken + 1
    → after.state.refusal ≡ None → GoesOn (work_grid w) old.cell (step_bucket true bucket) new.cell (step_bucket true after)
IsTake w old bucket (take.Again same) new = new ≡ old
IsTake w old bucket take.Waits new = GoesOn (work_grid w) old.cell (step_bucket true bucket) new.cell (step_bucket false bucket)

-- what cells and buckets answer are steps of the matrix
pub record CallsAreSteps (J : Type 0) : Type 0 where
  pub fills : (w : MatrixWork) (old new : CellValue) (strings : List MergeString) (answer : Fill J)
      → pieces_of_strings strings ≡ cell_pieces w old.group old.bucket → Puts old strings answer new → IsFill w old answer new
  pub takes : (w : MatrixWork) (old new : CellValue) (bucket : BucketValue) (answer : Take J) → IsOnItsWay w bucket
      → ComesTo old.group old.bucket bucket → Gets old bucket answer new → AreRight w old answer → IsTake w old bucket answer new
