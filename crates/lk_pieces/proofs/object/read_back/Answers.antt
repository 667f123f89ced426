use Rattle.std.proofs.Common.{◌≡◌, None, refl, rules, arith}
use Rattle.std.specs.Str.{IsUtf8}
use Rattle.json.specs.Lex.{tokens}
use Rattle.lk_pieces.proofs.Around.{closes_object}
use Rattle.lk_pieces.proofs.object.read_back.Goals as goal

pub returns-in-None : goal.returns-in-None
returns-in-None g c =
    let text : IsUtf8 c.args.piece.now = search rules in
    let is : c.in_ok-reader.reader ≡ tokens c.args.piece.now = grind arith in
    closes_object g.T.Element.described c.args.key.now c.args.piece.now _ _ c.in_ok-reader.reader c.read_to_end.new.reader c.read_behind_list.new.reader c.seems_within.result c.nothing-within.result.closed.items
    c.nothing-within.result.unclosed (record { within = c.nothing-within.result.within; closed = c.read_to_end.new.closed; unclosed = None }) text is c.nothing-within.ensures.closed c.nothing-within.ensures.unclosed
    c.in_ok-read_to_end.ensures c.in_ok-read_behind_list.ensures c.in-None.ensures.value.0 c.nothing-within.ensures.within refl
