use Rattle.lk_input.proofs.Lists.{list-opened, no_list}
use Rattle.lk_input.proofs.read.stream.stream_list.Goals as goal

pub returns-in_ok-depth-in-BeginArray : goal.returns-in_ok-depth-in-BeginArray
returns-in_ok-depth-in-BeginArray g c =
    rw (c.in-BeginArray.is, list-opened g.T.Streamed.streamed c.args.depth c.in_ok-depth-in-BeginArray.depth c.args.reader.now c.in_ok-depth-in-BeginArray.ensures) c.stream_items.ensures

pub returns-in_default : goal.returns-in_default
returns-in_default g c = rw (no_list g.T.Streamed.streamed c.args.depth c.args.token c.args.reader.now c.in_default.not-BeginArray) c.misfit_from.ensures
