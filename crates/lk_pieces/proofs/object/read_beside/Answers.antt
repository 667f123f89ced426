use Rattle.lk_pieces.specs.Pieces.{bytes_of}
use Rattle.lk_pieces.proofs.Around.{beside_read}
use Rattle.lk_pieces.proofs.object.read_beside.Goals as goal

pub returns : goal.returns
returns g c =
    beside_read g.T.Element.described c.args.key.now c.args.object.first.now (bytes_of c.args.object.near.now) (bytes_of c.args.object.far.now) c.args.object.last.now c.in_ok-ends.ends.opening c.in_ok-opening.opening c.in_ok-ends.ends.ending
    c.in_ok-join_parts.field-0 _ c.in_ok-lists.lists.items (rw c.in_ok-ends.was at c.join-between.ensures.second)
    (c.in_ok-opening.ensures 124 (bytes_of c.args.object.far.now) (rw c.in_ok-between.was at c.join-between.ensures.first)) c.in_ok-join_parts.ensures c.in_ok-lists.ensures
