-- What the calls of a cell answer.
use Rattle.std.specs.Prelude.{◌≡◌, ◌⊎◌, ◌<◌, List, length}
use Rattle.lk_grid.specs.Machine.{Cell, Empty, Filled, Taken, Waiting}
use Rattle.lk_merge.specs.declared.cell.Fill.{Fill}
use Rattle.lk_merge.specs.declared.cell.Fill.TheVariants as fill
use Rattle.lk_merge.specs.declared.cell.Take.{Take}
use Rattle.lk_merge.specs.declared.cell.Take.TheVariants as take
use Rattle.lk_merge.specs.declared.string.MergeString.{MergeString}
use Rattle.lk_merge.specs.MatrixCells.{BucketValue, CellValue, ComesTo, pieces_of_strings, with_cell}
use Rattle.lk_merge.specs.MatrixWork.{MatrixWork, cell_pieces}
use Rattle.lk_merge.specs.Pieces.{Piece}

-- whether strings came to a cell before
abbrev pub WasFilled : Cell Piece → Type 0
WasFilled (Filled ps) = Unit {0}
WasFilled Taken = Unit {0}
WasFilled _ = ⊥

-- strings come to a cell: they come back where others came before; else they are there, and a bucket that waited comes out
abbrev pub Puts : {J : Type 0} → CellValue → List MergeString → Fill J → CellValue → Type 0
Puts old strings (fill.Again back) new = WasFilled old.cell × (back.items ≡ strings) × (new ≡ old)
Puts old strings (fill.Freed bucket) new = (old.cell ≡ Waiting) × (new ≡ with_cell old (Filled (pieces_of_strings strings))) × ComesTo old.group old.bucket bucket
Puts old strings fill.Kept new = (old.cell ≡ Empty) × (new ≡ with_cell old (Filled (pieces_of_strings strings)))

-- a bucket comes to a cell: it takes the strings that are there, or waits; it comes back where one waits or was before
abbrev pub Gets : {J : Type 0} → CellValue → BucketValue → Take J → CellValue → Type 0
Gets old bucket (take.Strings same strings) new = (old.cell ≡ Filled (pieces_of_strings strings.items)) × (same ≡ bucket) × (new ≡ with_cell old Taken)
Gets old bucket (take.Again same) new = ((old.cell ≡ Waiting) ⊎ (old.cell ≡ Taken)) × (same ≡ bucket) × (new ≡ old)
Gets old bucket take.Waits new = (old.cell ≡ Empty) × (new ≡ with_cell old Waiting)

-- strings that a bucket takes are those of the cell's group and bucket
abbrev pub AreRight : {J : Type 0} → MatrixWork → CellValue → Take J → Type 0
AreRight w old (take.Strings bucket strings) = (old.group < length w.groups) × (pieces_of_strings strings.items ≡ cell_pieces w old.group old.bucket)
AreRight w old _ = Unit {0}
