use Rattle.std.proofs.Common.{◌≡◌, false, rules, arith}
use Rattle.std.specs.Str.{IsUtf8}
use Rattle.json.specs.Lex.{tokens}
use Rattle.lk_pieces.proofs.Around.{opens_object}
use Rattle.lk_pieces.proofs.object.read_front.Goals as goal

pub returns : goal.returns
returns g c =
    let text : IsUtf8 c.args.piece.now = search rules in
    let is : c.in_ok-reader.reader ≡ tokens c.args.piece.now = grind arith in
    opens_object g.T.Element.described c.args.key.now c.args.piece.now _ _ c.in_ok-reader.reader c.open_object.new.reader c.read_up_to_list.new.reader c.new-closed.result.items
    (record { within = false; closed = c.read_on.new.closed; unclosed = c.in_ok-unclosed.unclosed }) text is c.in_ok-open_object.ensures c.none-others.ensures c.in_ok-read_up_to_list.ensures c.new-closed.ensures.items
    c.in_ok-unclosed.ensures
