use Rattle.std.proofs.Common.{◌≡◌}
use Rattle.lk_workers.specs.Steps.{DoesAsks}
use Rattle.lk_workers.proofs.state.GroupState.do_asks.Given as goal

-- the asks so far are done
abbrev pub invariant-loop-ask : goal.invariant-loop-ask
invariant-loop-ask g l =
    (l.pass.table ≡ l.fn.pass.table) × (l.pass.parts ≡ l.fn.pass.parts) × (l.self.group ≡ l.fn.self.group) × DoesAsks g.J.Reach.lists.groups l.yielded l.fn.self l.self l.fn.pass.sets l.pass.sets
