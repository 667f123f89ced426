use Rattle.std.proofs.Common.{nat_lt, ap, ◌∙◌}
use Rattle.std.specs.List.{list_all, zip}
use Rattle.lk_link.specs.declared.plan.PlanPart.{PlanPart}
use Rattle.lk_check.proofs.Neighbours.{behind_first, falls-pairs}
use Rattle.lk_check.proofs.sections.falls.Goals as goal

pub returns : goal.returns
returns c =
    let parts = c.args.parts.now in
    c.fall_to.ensures
    ∙ ap (λ next. list_all (λ (p : PlanPart × PlanPart). nat_lt p.1.alignment p.0.alignment) (zip parts next)) (behind_first parts c.min.result c.min.ensures)
    ∙ falls-pairs parts
