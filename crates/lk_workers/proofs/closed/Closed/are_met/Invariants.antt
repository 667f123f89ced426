use Rattle.std.proofs.Common.{◌≡◌, true}
use Rattle.std.specs.List.{list_all}
use Rattle.lk_workers.specs.Closings.{is_ask_met}
use Rattle.lk_workers.proofs.closed.Closed.are_met.Given as goal

-- the asks so far are met
abbrev pub invariant-loop-ask : goal.invariant-loop-ask
invariant-loop-ask g l = list_all (is_ask_met l.self l.link.groups) l.yielded ≡ true
