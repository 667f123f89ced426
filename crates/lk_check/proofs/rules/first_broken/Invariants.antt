use Rattle.std.proofs.Common.{◌≡◌, drop}
use Rattle.lk_check.specs.FirstAnswer.{first_of}
use Rattle.lk_check.specs.FirstFault.{rule_fault}
use Rattle.lk_check.proofs.rules.first_broken.Given as goal

-- the rules that are left have the first fault of all
abbrev pub invariant-loop-rule : goal.invariant-loop-rule
invariant-loop-rule l = first_of (rule_fault l.link) (drop l.rule-index l.rules) ≡ first_of (rule_fault l.link) l.rules
