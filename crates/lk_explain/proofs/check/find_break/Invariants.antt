use Rattle.std.proofs.Common.{◌≡◌, ◌+◌, length}
use Rattle.lk_explain.specs.Faults.{break_fault, chain_fault}
use Rattle.lk_explain.proofs.check.find_break.Given as goal

-- what is left has the fault that all have
abbrev pub invariant-loop-unit : goal.invariant-loop-unit
invariant-loop-unit l = (chain_fault l.link l.before l.at l.left ≡ break_fault l.link l.path) × (l.at + length l.left ≡ length l.path)

abbrev pub decreases-loop-unit : goal.decreases-loop-unit
decreases-loop-unit l = length l.left
