use Rattle.std.specs.Option.{option_copied}
use Rattle.std.proofs.Common.{ap, length, sym, ◌∙◌}
use Rattle.lk_link.specs.PlanSections.{no_section}
use Rattle.lk_link.proofs.Numbers.{none_default}
use Rattle.lk_tables.proofs.headers.name_len.Goals as goal

pub returns-in-None : goal.returns-in-None
returns-in-None c =
    let none = sym c.get.ensures ∙ ap option_copied c.in-None.is in
    ap (λ s. length s.name) (sym (none_default c.args.sections.now c.args.section no_section none))
