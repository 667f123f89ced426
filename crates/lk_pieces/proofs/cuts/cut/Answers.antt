use Rattle.std.proofs.Common.{◌≡◌, [], ◌∷◌, ◌++◌, arith}
use Rattle.lk_pieces.proofs.Joined.{cut_once}
use Rattle.lk_pieces.proofs.cuts.cut.Goals as goal

pub pieces-preserved : goal.pieces-preserved
pieces-preserved g c =
    let split : c.pieces.rest.now ≡ c.in-Some-cut_at.piece.now ++ 44 ∷ c.in-Some-cut_at.behind.now = grind arith in
    let more : c.push.new.self.items ≡ c.pieces.pieces.items ++ c.in-Some-cut_at.piece ∷ [] = grind arith in
    cut_once c.args.text.now c.pieces.pieces.items c.push.new.self.items c.in-Some-cut_at.piece c.pieces.rest.now c.in-Some-cut_at.behind.now c.pieces.invariant split more
