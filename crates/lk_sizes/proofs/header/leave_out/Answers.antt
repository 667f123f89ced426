use Rattle.std.proofs.Common.{ap, ◌∙◌, arith}
use Rattle.lk_sizes.proofs.Emitting.{left_by, whole}
use Rattle.lk_sizes.proofs.Made.{one_pushed}
use Rattle.lk_sizes.proofs.header.leave_out.Goals as goal

pub loop-number-preserved : goal.loop-number-preserved
loop-number-preserved c =
    let made = left_by c.args.plan.now c.args.marks.now in
    one_pushed made c.loop-number.number c.loop-number.left.items c.push.new.self.items c.stays.result c.in_ok-push.ensures.items c.loop-number.invariant
    (c.stays.ensures ∙ ap made c.from_u32.ensures)

pub returns : goal.returns
returns c = c.loop-number.invariant ∙ whole (left_by c.args.plan.now c.args.marks.now) c.args.plan.now.sections c.loop-number.number (omega arith)
