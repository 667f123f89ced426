use Rattle.lk_pieces.proofs.ListLaws.{to_end_told}
use Rattle.lk_pieces.proofs.lists.read_to_end.Goals as goal

pub returns : goal.returns
returns g c =
    to_end_told g.T.Element.described c.args.depth c.args.reader.now c.args.closed.now.items c.read_first.new.closed.items c.read_last_lists.new.closed.items c.args.unclosed _ c.read_last_lists.result c.read_first.new.reader
    c.read_last_lists.new.reader c.in-None.is c.in_ok-read_first.ensures c.read_last_lists.ensures
