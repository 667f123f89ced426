use Rattle.std.proofs.Common.{◌≡◌, ◌≤◌, count_by, take}
use Rattle.lk_link.specs.Rules.{is_location}
use Rattle.lk_check.proofs.events.count_locations.Given as goal

abbrev pub invariant-loop-event : goal.invariant-loop-event
invariant-loop-event l = record {
  few : l.count ≤ l.event-index;
  counted : l.count ≡ count_by is_location (take l.event-index l.events);
}
