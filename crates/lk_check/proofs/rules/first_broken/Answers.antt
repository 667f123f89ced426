use Rattle.std.proofs.Common.{get_or, option_map, sym, ap, ◌∙◌}
use Rattle.lk_link.specs.declared.fault.LinkFault.TheVariants.{BadLink}
use Rattle.lk_link.specs.declared.fault.Rule.TheVariants.{Options}
use Rattle.lk_check.specs.FirstFault.{rule_fault}
use Rattle.lk_check.proofs.First.{first_at-here}
use Rattle.lk_check.proofs.rules.first_broken.Goals as goal

pub returns-in-Some : goal.returns-in-Some
returns-in-Some c =
    let rules = c.args.rules.now in
    let i = c.loop-rule.rule-index in
    let r = get_or rules i Options in
    sym (first_at-here (rule_fault c.args.link.now) rules i Options (BadLink r c.in-Some.place) c.loop-rule-test.true (ap (option_map (BadLink r)) (sym c.in-Some.ensures)))
    ∙ c.loop-rule.invariant
