use Rattle.std.proofs.Common.{◌∙◌, arith}
use Rattle.lk_sizes.specs.Tables.{edges_by}
use Rattle.lk_sizes.proofs.Emitting.{whole}
use Rattle.lk_sizes.proofs.Made.{one_pushed}
use Rattle.lk_sizes.proofs.header.mark_told.Goals as goal

pub loop-number-preserved : goal.loop-number-preserved
loop-number-preserved c =
    one_pushed (edges_by c.args.link.now c.args.emitted.now) c.loop-number.number c.loop-number.told.items c.push.new.self.items c.tells_edges.result c.in_ok-push.ensures.items c.loop-number.invariant
    c.tells_edges.ensures

pub returns : goal.returns
returns c = c.loop-number.invariant ∙ whole (edges_by c.args.link.now c.args.emitted.now) c.args.link.now.plan.sections c.loop-number.number (omega arith)
