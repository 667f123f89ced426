-- Of the insides of the report: the lines of pieces that follow each other. Cited by private parts alone.
use Rattle.std.specs.Prelude.{ℕ, List, [], ◌∷◌, ◌++◌, length}
use Rattle.lk_merge.specs.Pieces.{Piece}
use Rattle.lk_report.specs.Report.{bytes_behind, piece_line}

-- the lines of pieces, of which the first stands at an address, and each other one where the one before it ends
unfoldable pub lines_from : ℕ → ℕ → List Piece → List ℕ
lines_from s address [] = []
lines_from s address (p ∷ ps) = piece_line s address (length p) ++ lines_from s (bytes_behind address (length p)) ps

-- where the last of them ends
unfoldable pub behind_all : ℕ → List Piece → ℕ
behind_all address [] = address
behind_all address (p ∷ ps) = behind_all (bytes_behind address (length p)) ps
