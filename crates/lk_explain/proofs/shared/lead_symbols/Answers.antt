use Rattle.std.proofs.Common.{sym, ap, subst}
use Rattle.lk_explain.specs.Sharing.{NoneTaken}
use Rattle.lk_explain.proofs.shared.lead_symbols.Goals as goal
use Rattle.lk_explain.proofs.shared.lead_symbols.Goals.{in-Some, in_default}

pub loop-symbol-preserved : goal.loop-symbol-preserved
loop-symbol-preserved c none = elim c.match-edge_of.branch [
  | in-Some w ↦ subst NoneTaken (sym (ap (λ v. v.items) w.leaders-is)) (w.lead.ensures (c.loop-symbol.invariant none))
  | in_default w ↦ subst NoneTaken (sym (ap (λ v. v.items) w.leaders-is)) (c.loop-symbol.invariant none)
]
