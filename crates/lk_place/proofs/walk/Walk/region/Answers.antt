use Rattle.std.proofs.Common.{◌∙◌, ap, sym, subst, length}
use Rattle.std.specs.Prelude.{slice_get, unwrap_or}
use Rattle.lk_link.specs.declared.plan.Plan.{Plan}
use Rattle.lk_link.specs.PlanSections.{section_at}
use Rattle.lk_place.specs.declared.regions.SectionRegion.TheVariants.{Free}
use Rattle.lk_place.specs.InRegions.{IsAmong}
use Rattle.lk_place.proofs.SectionRegions.{named_among, stands_there}
use Rattle.lk_place.proofs.walk.Walk.region.Goals as goal

pub returns-clause-is : goal.returns-clause-is
returns-clause-is g c =
    let plan : Plan = c.args.self.now.link.now.plan in
    c.region_at.ensures
    ∙ ap (λ n. unwrap_or (slice_get c.args.self.now.section_regions.now n) Free) c.as_usize.ensures
    ∙ stands_there plan c.args.self.now.section_regions.now c.args.section c.requires.walkable.section_regions

pub returns-clause-among : goal.returns-clause-among
returns-clause-among g c =
    let plan : Plan = c.args.self.now.link.now.plan in
    let is = returns-clause-is g c in
    subst (IsAmong (length plan.regions)) (sym is) (named_among plan.regions (section_at plan.sections c.args.section).region)
