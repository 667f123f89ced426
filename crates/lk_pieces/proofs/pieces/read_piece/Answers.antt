use Rattle.std.proofs.Common.{◌≡◌, rules, arith}
use Rattle.std.specs.Str.{IsUtf8}
use Rattle.json.specs.Lex.{tokens}
use Rattle.lk_pieces.proofs.Joined.{piece_continues}
use Rattle.lk_pieces.proofs.pieces.read_piece.Goals as goal

pub returns : goal.returns
returns g c =
    let text : IsUtf8 c.args.piece.now = search rules in
    let is : c.in_ok-reader.reader ≡ tokens c.args.piece.now = grind arith in
    piece_continues g.T.Element.described c.args.depth c.args.piece.now c.in_ok-reader.reader c.args.part (record { within = c.args.part.within; closed = c.read_on.new.closed; unclosed = c.in_ok-unclosed.unclosed }) text is
    c.in_ok-unclosed.ensures
