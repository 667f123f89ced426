use Rattle.std.proofs.Common.{◌≡◌, ◌++◌, drop, map}
use Rattle.std.specs.List.{enumerate_from}
use Rattle.lk_place.specs.Segments.{part_records, section_record, section_records}
use Rattle.lk_place.proofs.hulls.span_sections.Given as goal

-- the records so far, followed by those that are left, are all
abbrev pub invariant-loop-number : goal.invariant-loop-number
invariant-loop-number l =
    l.records.items ++ map (λ q. section_record q.1 (part_records l.sections l.parts q.0)) (enumerate_from l.number (drop l.number l.sections))
    ≡ section_records l.sections l.parts
