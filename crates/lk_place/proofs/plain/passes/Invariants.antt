use Rattle.std.proofs.Common.{◌≡◌, drop}
use Rattle.lk_place.specs.PlainScan.{passes, unscanned}
use Rattle.lk_place.proofs.plain.passes.Given as goal

-- whether the events that are left pass is whether all do
abbrev pub invariant-loop-event : goal.invariant-loop-event
invariant-loop-event l = passes l.plan l.scan (drop l.event-index l.plan.events) ≡ passes l.plan unscanned l.plan.events
