use Rattle.std.proofs.Common.{◌≡◌, ◌++◌, drop, take}
use Rattle.std.specs.List.{enumerate_from, filter_map, list_any}
use Rattle.lk_link.specs.Inside.{placed_inside, sections_inside}
use Rattle.lk_link.specs.Rules.{is_start, is_end}
use Rattle.lk_link.proofs.inside.sections_of_segment.Given as goal

-- what is found so far, followed by what is left, is the whole
abbrev pub invariant-loop-event : goal.invariant-loop-event
invariant-loop-event l = record {
  opened : l.opened ≡ list_any (is_start l.segment) (take l.event-index l.events);
  closed : l.closed ≡ list_any (is_end l.segment) (take l.event-index l.events);
  found : l.inside.items ++ filter_map (placed_inside l.events l.segment) (enumerate_from l.event-index (drop l.event-index l.events)) ≡ sections_inside l.events l.segment;
}
