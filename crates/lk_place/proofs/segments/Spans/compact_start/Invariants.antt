use Rattle.std.proofs.Common.{◌≡◌, drop}
use Rattle.std.specs.List.{before_first}
use Rattle.lk_link.specs.Marks.{is_marked}
use Rattle.lk_link.specs.Rules.{is_start}
use Rattle.lk_place.specs.Segments.{compact_start}
use Rattle.lk_place.specs.Spans.{file_end_behind}
use Rattle.lk_place.proofs.segments.Spans.compact_start.Given as goal

-- the end so far, and behind it that of those that are left before the opening, is that of all
abbrev pub invariant-loop-event : goal.invariant-loop-event
invariant-loop-event l =
    file_end_behind l.self.link.now.plan l.self.records.now (is_marked l.self.emitted.now) l.end (before_first (is_start l.segment) (drop l.event-index l.self.link.now.plan.events))
    ≡ compact_start l.self.link.now.plan l.self.records.now (is_marked l.self.emitted.now) l.segment
