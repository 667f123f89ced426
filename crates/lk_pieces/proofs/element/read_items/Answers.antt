use Rattle.std.proofs.Common.{◌≡◌, [], ◌∷◌, Some, arith}
use Rattle.json.specs.Json.{after_end_array}
use Rattle.json.specs.Reads.{token_of}
use Rattle.lk_pieces.proofs.ListLaws.{first_item, next_item, item_shorter, row_ended, row_open}
use Rattle.lk_pieces.proofs.element.read_items.Goals as goal

pub items-init : goal.items-init
items-init g c =
    let taken : c.args.reader.now ≡ token_of c.in_ok-token.token ∷ c.next.new.self = grind arith in
    first_item g.T.Element.described c.args.depth c.args.reader.now _ c.args.items.now.items c.add_item.new.items.items c.add_item.new.reader taken c.in_ok-add_item.ensures

pub items-smaller : goal.items-smaller
items-smaller g c =
    let taken : c.items.reader ≡ token_of c.in-Some.token ∷ c.next-in-items.new.self = grind arith in
    item_shorter g.T.Element.described c.args.depth c.items.reader _ c.items.items.items c.add_item-in-items.new.items.items c.add_item-in-items.new.reader taken c.in_ok-add_item-2.ensures

pub items-preserved : goal.items-preserved
items-preserved g c =
    let taken : c.items.reader ≡ token_of c.in-Some.token ∷ c.next-in-items.new.self = grind arith in
    next_item g.T.Element.described c.args.depth c.args.reader.now c.args.items.now.items c.items.items.items c.add_item-in-items.new.items.items c.items.reader _ c.add_item-in-items.new.reader c.items.invariant taken
    c.in_ok-add_item-2.ensures

pub returns-in_default : goal.returns-in_default
returns-in_default g c =
    let over : c.items.reader ≡ [] = grind arith in
    row_open g.T.Element.described c.args.depth c.args.reader.now c.args.items.now.items c.items.items.items c.items.reader c.next-in-items.new.self c.items.invariant over c.in_default.ensures.value.1

pub returns : goal.returns
returns g c =
    let end : after_end_array c.items.reader ≡ Some c.take_end_array.new.self = grind arith in
    row_ended g.T.Element.described c.args.depth c.args.reader.now c.args.items.now.items c.items.items.items c.items.reader c.take_end_array.new.self c.items.invariant end
