use Rattle.std.proofs.Common.{◌≡◌, ◌-◌, ◌^◌, min, sum_by, take}
use Rattle.lk_tables.specs.HeaderSteps.{event_name}
use Rattle.lk_tables.proofs.headers.names_bytes.Given as goal

-- the sum over the events so far
abbrev pub invariant-loop-event : goal.invariant-loop-event
invariant-loop-event l = l.sum ≡ min (sum_by (event_name l.link l.emitted) (take l.event-index l.events)) (2 ^ 128 - 1)
