-- What is told of a group's pieces.
use Rattle.std.specs.Prelude.{ℕ, Option}
use Rattle.lk_merge.specs.declared.piece_starts.PieceStarts.{PieceStarts}

-- a group, and where its pieces start, once that is told
pub record StartsValue : Type 0 where
  pub group : ℕ
  pub starts : Option PieceStarts
