use Rattle.std.proofs.Common.{◌<◌, length, arith}
use Rattle.std.proofs.lemmas.Grind.{common_steps}
use Rattle.lk_link.specs.Inside.{sections_inside}
use Rattle.lk_link.proofs.Numbers.{map_enumerate_drop}
use Rattle.lk_link.proofs.plan.Plan.sections_of_segments.Goals as goal

pub loop-number-preserved : goal.loop-number-preserved
loop-number-preserved c =
    let below : c.loop-number.number < length c.args.self.now.segments = rw (← c.as_slice-items.ensures) c.loop-number-test.true in
    grind (arith, common_steps, map_enumerate_drop (sections_inside c.args.self.now.events) c.args.self.now.segments c.loop-number.number c.loop-number.number below)
