use Rattle.std.proofs.Common.{◌≡◌, ◌∷◌, arith}
use Rattle.lk_pieces.specs.Pieces.{joined, bytes_of}
use Rattle.lk_pieces.proofs.Around.{text_holds}
use Rattle.lk_pieces.proofs.object.read_object_in_pieces.Goals as goal

pub returns : goal.returns
returns g c =
    let is : c.args.text.now ≡ joined (c.in_ok-first.first.now.now ∷ bytes_of c.in_ok-first.pieces.now) c.in_ok-pieces.last.now = grind arith in
    text_holds g.T.Element.described g.M.Others.members c.args.key.now c.args.text.now _ c.read_alone.result is c.read_alone.ensures
