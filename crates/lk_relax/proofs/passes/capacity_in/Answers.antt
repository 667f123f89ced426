use Rattle.std.proofs.Common.{◌≡◌, true, ap, sym, subst, ◌∙◌}
use Rattle.lk_link.specs.Sizes.{capacity}
use Rattle.lk_link.specs.declared.plan.PlanPart.{PlanPart}
use Rattle.lk_link.specs.Alignments.{is_alignment}
use Rattle.lk_sizes.proofs.PartAlignments.{part_is_aligned}
use Rattle.lk_relax.proofs.Falling.{no_part, part_there}
use Rattle.lk_relax.proofs.passes.capacity_in.Goals as goal

pub exact_capacity-requires : goal.exact_capacity-requires
exact_capacity-requires c =
    let link = c.args.link.now in
    let is = part_there link.plan.sections c.args.part c.in-Some.part.now (sym c.in-Some.ensures) in
    subst (λ (part : PlanPart). is_alignment part.alignment ≡ true) is (part_is_aligned link c.args.part c.requires)

pub returns-in-Some : goal.returns-in-Some
returns-in-Some c =
    let link = c.args.link.now in
    c.exact_capacity.ensures ∙ ap (λ (part : PlanPart). capacity part c.args.size) (sym (part_there link.plan.sections c.args.part c.in-Some.part.now (sym c.in-Some.ensures)))

pub returns-in-None : goal.returns-in-None
returns-in-None c = c.from.ensures ∙ sym (no_part c.args.link.now.plan.sections c.args.part c.args.size (sym c.in-None.ensures))
