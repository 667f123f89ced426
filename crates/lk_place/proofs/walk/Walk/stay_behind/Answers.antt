use Rattle.std.specs.Prelude.{Option}
use Rattle.std.proofs.Common.{◌∙◌, ap}
use Rattle.lk_link.specs.PlanSections.{primary_of}
use Rattle.lk_place.specs.Locations.{behind_start}
use Rattle.lk_expressions.specs.Records.{Record}
use Rattle.lk_place.specs.Tables.{section_before}
use Rattle.lk_place.specs.Walk.{setting_in}
use Rattle.lk_place.proofs.PlacedTables.{section_known}
use Rattle.lk_place.proofs.walk.Walk.stay_behind.Goals as goal

pub returns : goal.returns
returns g c =
    let walk = c.args.self.now in
    let able = c.requires.walkable in
    let sections = walk.link.now.plan.sections in
    c.not_before.ensures
    ∙ ap (λ (o : Option Record). behind_start o c.args.location)
    (section_known (setting_in g.P.Platform.segment_start walk) walk.placed_at.now c.args.records.now c.args.event (primary_of sections c.args.section) c.section.result able.ready able.placed_at c.requires.each
    (c.section.ensures ∙ ap (section_before sections walk.placed_at.now c.args.records.now c.args.event) c.primary_of-primary.ensures))
