use Rattle.std.proofs.Common.{◌≡◌, drop, None, fold, map}
use Rattle.std.specs.Prelude.{filter}
use Rattle.lk_link.specs.Marks.{is_marked}
use Rattle.lk_place.specs.Hulls.{with_record}
use Rattle.lk_expressions.specs.Records.{record_at}
use Rattle.lk_place.specs.Segments.{counts}
use Rattle.lk_place.proofs.segments.Spans.span_inside.Given as goal

-- what reaches over those so far, joined with what is left, reaches over all
abbrev pub invariant-loop-section : goal.invariant-loop-section
invariant-loop-section l =
    fold with_record l.all (map (record_at l.self.records.now) (filter (counts l.self.link.now.plan l.self.records.now (is_marked l.self.emitted.now) l.segment) (drop l.section-index l.inside)))
    ≡ fold with_record None (map (record_at l.self.records.now) (filter (counts l.self.link.now.plan l.self.records.now (is_marked l.self.emitted.now) l.segment) l.inside))
