use Rattle.std.proofs.Common.{ℕ, List, ◌++◌, take}
use Rattle.lk_merge.specs.MatrixCells.{HasPlaces, pieces_of_strings}
use Rattle.lk_merge.specs.Pieces.{Piece}
use Rattle.lk_merge.proofs.bucket_work.add_group.Given as goal

-- the strings so far have been added
abbrev pub invariant-loop-string : goal.invariant-loop-string
invariant-loop-string l = (section limit b : ℕ) (pieces : List Piece) → HasPlaces section limit b pieces l.initial.state l.initial.places.items
    → HasPlaces section limit b (pieces ++ pieces_of_strings (take l.string-index l.strings)) l.state l.places.items
