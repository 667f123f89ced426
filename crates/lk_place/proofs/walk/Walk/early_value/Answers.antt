use Rattle.lk_place.specs.Walk.{setting_in}
use Rattle.lk_place.proofs.PlacedTables.{value_known}
use Rattle.lk_place.proofs.walk.Walk.early_value.Goals as goal

pub returns : goal.returns
returns g c =
    let walk = c.args.self.now in
    let known = walk.unplaced.now in
    let able = c.requires.walkable in
    value_known (setting_in g.P.Platform.segment_start walk) walk.placed_at.now c.args.records.now c.args.event c.args.from c.args.expression.now c.unwrap_or-dot.result known.link.now.groups known.regions.now
    known.constants.now c.evaluate_before.result able.ready able.placed_at c.requires.each c.unwrap_or-dot.ensures able.groups able.regions able.constants c.requires.walked.spoken c.evaluate_before.ensures
