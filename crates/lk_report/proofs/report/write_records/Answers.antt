use Rattle.std.specs.Prelude.{string_bytes}
use Rattle.rayon.proofs.ListFacts.{IfOk-then}
use Rattle.lk_report.specs.Report.{each, laid_out_text, section_part_lines, segment_line}
use Rattle.lk_report.proofs.Lines.{three_in_a_row}
use Rattle.lk_report.proofs.report.write_records.Goals as goal

pub returns : goal.returns
returns c =
    let layout = c.args.layout.now in
    let sections = c.args.link.now.plan.sections in
    let first = rw c.as_slice.ensures at c.in_ok-write_sections.ensures in
    let second = rw c.section_part_layouts.ensures at c.in_ok-write_parts.ensures in
    let third = rw c.segment_layouts.ensures at c.write_segments.ensures in
    IfOk-then c.write_segments.result _ _ third (λ _ is.
    three_in_a_row (string_bytes c.write_segments.new.text) (string_bytes c.args.text.now) (each (λ s _. laid_out_text layout s) 0 sections)
    (each (λ s _. section_part_lines sections layout.section_part_layouts s) 0 sections) (each (λ _ segment. segment_line segment) 0 layout.segment_layouts)
    (cc (first, second, is)))
