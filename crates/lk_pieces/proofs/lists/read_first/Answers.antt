use Rattle.lk_pieces.proofs.ListLaws.{within_told, between_told}
use Rattle.lk_pieces.proofs.lists.read_first.Goals as goal

pub returns-in-Some : goal.returns-in-Some
returns-in-Some g c =
    within_told g.T.Element.described c.args.depth c.args.reader.now c.in-Some.row c.args.closed.now.items c.read_rest.new.closed.items c.args.unclosed c.read_rest.result c.read_rest.new.reader c.in-Some.is c.read_rest.ensures

pub returns-in_ok-open_list-in-None : goal.returns-in_ok-open_list-in-None
returns-in_ok-open_list-in-None g c =
    between_told g.T.Element.described c.args.depth c.args.reader.now c.open_list.new.reader c.args.closed.now.items c.read_list.new.closed.items c.args.unclosed c.read_list.result c.read_list.new.reader c.in-None.is
    c.in_ok-open_list-in-None.ensures c.read_list.ensures
