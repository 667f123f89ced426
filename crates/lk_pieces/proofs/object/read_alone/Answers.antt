use Rattle.lk_pieces.specs.Pieces.{bytes_of}
use Rattle.lk_pieces.proofs.Around.{ends_read}
use Rattle.lk_pieces.proofs.object.read_alone.Goals as goal

pub returns : goal.returns
returns g c =
    ends_read g.T.Element.described c.args.key.now c.args.first.now (bytes_of c.args.pieces.now) c.args.last.now c.in_ok-ends.ends.opening c.in_ok-ends.ends.ending c.in_ok-join_parts.field-0 _ c.in_ok-lists.lists.items
    c.in_ok-ends.ensures c.in_ok-join_parts.ensures c.in_ok-lists.ensures
