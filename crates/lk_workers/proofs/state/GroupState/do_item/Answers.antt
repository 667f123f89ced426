use Rattle.std.proofs.Common.{subst}
use Rattle.lk_workers.specs.Items.{IsMeant}
use Rattle.lk_workers.proofs.Asked.{export_met}
use Rattle.lk_workers.proofs.state.GroupState.do_item.Goals as goal

pub refer-requires-clause-met : goal.refer-requires-clause-met
refer-requires-clause-met g c =
    export_met g.J.Reach.lists c.in-ExportDynamic.symbol (subst (IsMeant g.J.Reach.lists) c.in-ExportDynamic.is c.requires.item.meant)
