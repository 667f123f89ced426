use Rattle.lk_thunks.proofs.Noting.{named_marks}
use Rattle.lk_thunks.proofs.sets.named_elsewhere.Goals as goal

pub returns : goal.returns
returns c = named_marks c.args.link.now c.args.live.now c.in_ok-marks.marks.items c.in_ok-marks.ensures
