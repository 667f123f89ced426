use Rattle.std.proofs.Common.{◌≡◌, [], length}
use Rattle.std.specs.List.{flat_map}
use Rattle.lk_reach.specs.Units.{event_asks}
use Rattle.lk_reach.proofs.scripts.LocationAsksIterator.next.Given as goal

-- only events that refer to nothing were passed over
abbrev pub invariant-loop-event : goal.invariant-loop-event
invariant-loop-event l = (l.self-inside.own ≡ []) × (flat_map (event_asks l.self-inside.groups.now) l.self-inside.events.now ≡ l.fn.self)

abbrev pub decreases-loop-event : goal.decreases-loop-event
decreases-loop-event l = length l.self-inside.events.now
