use Rattle.std.proofs.Common.{refl, arith}
use Rattle.lk_pieces.proofs.Joined.{none_continue, next_continue}
use Rattle.lk_pieces.proofs.pieces.read_in_turn.Goals as goal

pub loop-piece-init : goal.loop-piece-init
loop-piece-init g c = none_continue g.T.Element.described c.args.depth c.args.part c.args.part refl

pub loop-piece-preserved : goal.loop-piece-preserved
loop-piece-preserved g c =
    next_continue g.T.Element.described c.args.depth c.args.pieces.now c.loop-piece.piece-index _ c.args.part c.loop-piece.all c.in_ok-all.all (omega arith) c.loop-piece.invariant c.in_ok-all.ensures
