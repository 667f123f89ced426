use Rattle.std.proofs.Common.{◌≡◌, ◌≤◌, drop}
use Rattle.lk_place.specs.Segments.{compact_end}
use Rattle.lk_place.proofs.segments.Spans.compact_end.Given as goal

-- the greatest end so far and of those that are left is that of all
abbrev pub invariant-loop-section : goal.invariant-loop-section
invariant-loop-section l = record {
  greatest : compact_end l.self.records.now l.end (drop l.section-index l.inside) ≡ compact_end l.self.records.now l.fn.least l.inside;
  at_least : l.fn.least ≤ l.end;
}
