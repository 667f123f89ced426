use Rattle.std.proofs.Common.{◌≡◌, None, sym, ap, ◌∙◌}
use Rattle.std.specs.Prelude.{◌&&◌, is_some, slice_get}
use Rattle.std.specs.Option.{option_copied}
use Rattle.lk_link.specs.declared.plan.PlanSection.{PlanSection}
use Rattle.lk_link.specs.PlanSections.{no_section}
use Rattle.lk_link.proofs.Numbers.{none_default}
use Rattle.lk_place.proofs.locations.stays_on_top.Goals as goal

pub returns-in-None : goal.returns-in-None
returns-in-None c =
    let none : slice_get c.args.plan.now.sections c.args.section ≡ None = sym c.get.ensures ∙ ap option_copied c.in-None.is in
    sym (ap (λ (x : PlanSection). is_some x.primary && x.top) (none_default c.args.plan.now.sections c.args.section no_section none))
