use Rattle.std.proofs.Common.{◌≡◌, ◌++◌, drop}
use Rattle.lk_link.specs.Marks.{is_marked}
use Rattle.lk_place.specs.Segments.{segment_layouts}
use Rattle.lk_place.proofs.segments.Spans.lay_out_all.Given as goal

-- the layouts so far, followed by those that are left, are all
abbrev pub invariant-loop-segment : goal.invariant-loop-segment
invariant-loop-segment l =
    l.all.items ++ segment_layouts l.self.file l.self.link.now.plan l.self.link.now.options.stack l.self.records.now (is_marked l.self.emitted.now) (drop l.segment-index l.active)
    ≡ segment_layouts l.self.file l.self.link.now.plan l.self.link.now.options.stack l.self.records.now (is_marked l.self.emitted.now) l.active
