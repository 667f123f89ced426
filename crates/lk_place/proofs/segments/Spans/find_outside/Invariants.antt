use Rattle.std.proofs.Common.{◌≡◌, drop}
use Rattle.std.specs.Prelude.{find}
use Rattle.std.specs.List.{filter_map}
use Rattle.lk_link.specs.Inside.{placed_section}
use Rattle.lk_link.specs.Marks.{is_marked}
use Rattle.lk_place.specs.Segments.{found_outside, is_outside}
use Rattle.lk_place.proofs.segments.Spans.find_outside.Given as goal

-- the first among those that are left is the first of all
abbrev pub invariant-loop-event : goal.invariant-loop-event
invariant-loop-event l = find (is_outside l.self.link.now.plan l.self.records.now (is_marked l.self.emitted.now)) (filter_map placed_section (drop l.event-index l.self.link.now.plan.events)) ≡ found_outside l.self.link.now.plan l.self.records.now (is_marked l.self.emitted.now)
