use Rattle.std.proofs.Common.{◌≡◌, ◌∷◌, refl, arith}
use Rattle.json.specs.Token.{Token}
use Rattle.lk_pieces.proofs.ListLaws.{none_more, next_list, list_shorter}
use Rattle.lk_pieces.proofs.lists.read_last_lists.Goals as goal

pub lists-init : goal.lists-init
lists-init g c = none_more g.T.Element.described c.args.depth c.args.reader.now c.args.closed.now.items c.args.closed.now.items refl

pub lists-smaller : goal.lists-smaller
lists-smaller g c =
    let taken : c.lists.reader ≡ Token.begin_array ∷ c.open_list.new.reader = grind arith in
    list_shorter g.T.Element.described c.args.depth c.lists.reader c.open_list.new.reader c.lists.closed.items c.read_list.new.closed.items _ c.read_list.new.reader taken c.in_ok-read_list.ensures

pub lists-preserved : goal.lists-preserved
lists-preserved g c =
    let taken : c.lists.reader ≡ Token.begin_array ∷ c.open_list.new.reader = grind arith in
    next_list g.T.Element.described c.args.depth c.args.reader.now c.args.closed.now.items c.lists.closed.items c.read_list.new.closed.items _ c.lists.reader c.open_list.new.reader c.read_list.new.reader c.lists.invariant taken
    c.in-None.is c.in_ok-read_list.ensures
