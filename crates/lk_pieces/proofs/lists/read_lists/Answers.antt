use Rattle.std.proofs.Common.{◌≡◌, [], ◌∷◌, refl, arith}
use Rattle.json.specs.Token.{Token}
use Rattle.lk_pieces.proofs.ListLaws.{none_more, next_list, last_list, list_shorter, no_more_lists}
use Rattle.lk_pieces.proofs.lists.read_lists.Goals as goal

pub lists-init : goal.lists-init
lists-init g c = none_more g.T.Element.described c.args.depth c.args.reader.now c.args.closed.now.items c.args.closed.now.items refl

pub returns-in-Some-2 : goal.returns-in-Some-2
returns-in-Some-2 g c =
    let taken : c.lists.reader ≡ Token.begin_array ∷ c.next.new.self = grind arith in
    last_list g.T.Element.described c.args.depth c.args.reader.now c.args.closed.now.items c.lists.closed.items c.read_list.new.closed.items _ c.in-Some-2.row c.lists.reader c.next.new.self c.read_list.new.reader c.lists.invariant
    taken c.in-Some-2.is c.in_ok-row.ensures

pub lists-smaller : goal.lists-smaller
lists-smaller g c =
    let taken : c.lists.reader ≡ Token.begin_array ∷ c.next.new.self = grind arith in
    list_shorter g.T.Element.described c.args.depth c.lists.reader c.next.new.self c.lists.closed.items c.read_list.new.closed.items _ c.read_list.new.reader taken c.in_ok-row.ensures

pub lists-preserved : goal.lists-preserved
lists-preserved g c =
    let taken : c.lists.reader ≡ Token.begin_array ∷ c.next.new.self = grind arith in
    next_list g.T.Element.described c.args.depth c.args.reader.now c.args.closed.now.items c.lists.closed.items c.read_list.new.closed.items _ c.lists.reader c.next.new.self c.read_list.new.reader c.lists.invariant taken
    c.in_default-2.is c.in_ok-row.ensures

pub returns : goal.returns
returns g c =
    let over : c.lists.reader ≡ [] = grind arith in
    no_more_lists g.T.Element.described c.args.depth c.args.reader.now c.args.closed.now.items c.lists.closed.items c.lists.reader c.lists.invariant over
