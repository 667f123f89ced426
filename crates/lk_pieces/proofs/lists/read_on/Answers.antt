use Rattle.lk_pieces.proofs.ListLaws.{on_within, on_told}
use Rattle.lk_pieces.proofs.lists.read_on.Goals as goal

pub returns-in-Some : goal.returns-in-Some
returns-in-Some g c =
    on_within g.T.Element.described c.args.depth c.args.reader.now c.args.closed.now.items c.read_first.new.closed.items c.args.unclosed _ c.in-Some.row c.read_first.new.reader c.in-Some.is c.in_ok-row.ensures

pub returns-in-None : goal.returns-in-None
returns-in-None g c =
    on_told g.T.Element.described c.args.depth c.args.reader.now c.args.closed.now.items c.read_first.new.closed.items c.read_lists.new.closed.items c.args.unclosed _ c.read_lists.result c.read_first.new.reader c.in-None.is
    c.in_ok-row.ensures c.read_lists.ensures
