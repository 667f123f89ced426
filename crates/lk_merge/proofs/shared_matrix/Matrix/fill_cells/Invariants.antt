use Rattle.std.proofs.Common.{◌≡◌, ◌≤◌, ℕ, Some, Vec, Global, length}
use Rattle.std.specs.List.{slice_get}
use Rattle.lk_merge.specs.declared.string.MergeString.{MergeString}
use Rattle.lk_merge.specs.MatrixCells.{pieces_of_strings}
use Rattle.lk_merge.specs.MatrixWork.{cell_pieces}
use Rattle.lk_merge.proofs.shared_matrix.Matrix.fill_cells.Given as goal

-- the strings that are left are those of their cells
abbrev pub invariant-loop-bucket : goal.invariant-loop-bucket
invariant-loop-bucket g l = (length l.buckets.items ≡ length l.initial.buckets.items)
    × ((b : ℕ) (found : Vec MergeString Global) → l.bucket ≤ b → slice_get l.buckets.items b ≡ Some found → pieces_of_strings found.items ≡ cell_pieces g.J.Brings.work l.group b)
