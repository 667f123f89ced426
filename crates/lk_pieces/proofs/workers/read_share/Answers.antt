use Rattle.std.proofs.Common.{refl}
use Rattle.lk_pieces.proofs.Shares.{share_held}
use Rattle.lk_pieces.proofs.workers.read_share.Goals as goal

pub returns : goal.returns
returns g c =
    share_held g.T.Element.described c.args.shares.now.depth c.args.shares.now.size c.args.worker c.args.shares.now.pieces.now c.share-pieces.result.now c.seem_within-within.result c.nothing-front.result c.in_ok-all.all
    (record { within = c.seem_within-within.result; closed = c.in_ok-all.all.closed; unclosed = c.in_ok-all.all.unclosed }) c.share-pieces.ensures c.nothing-front.ensures.closed c.nothing-front.ensures.unclosed c.in_ok-all.ensures refl refl refl
