use Rattle.std.proofs.Common.{◌∙◌, ap, arith, length}
use Rattle.lk_link.specs.declared.plan.Plan.{Plan}
use Rattle.lk_link.specs.declared.plan.PlanSection.{PlanSection}
use Rattle.lk_place.proofs.WalkSteps.{read_there}
use Rattle.lk_place.proofs.walk.Walk.load_address.Goals as goal

pub early_value-requires-clause-walked : goal.early_value-requires-clause-walked
early_value-requires-clause-walked g c =
    let plan : Plan = c.args.self.now.link.now.plan in
    let section : PlanSection = c.index-as_slice-as_usize.result in
    c.requires.loads c.as_usize.result section
    (read_there plan.sections c.as_slice.result.now c.as_usize.result section c.as_slice.ensures (omega (arith, ap length c.as_slice.ensures, c.as_usize.ensures, c.requires.in_range)) c.index-as_slice-as_usize.is)
    c.in-Some.expression (ap (λ (x : PlanSection). x.at) c.index-as_slice-as_usize.is ∙ c.in-Some.is)
