use Rattle.std.proofs.Common.{sym, ap, ◌∙◌}
use Rattle.std.specs.List.{slice_get}
use Rattle.lk_link.specs.Parts.{part_sections}
use Rattle.lk_link.proofs.OutputSections.{halved_last}
use Rattle.lk_link.proofs.part_sections.section_of_part.Goals as goal

pub returns : goal.returns
returns c =
    ap (slice_get (part_sections c.args.sections.now)) (sym c.as_usize-part.ensures)
    ∙ halved_last c.args.sections.now c.as_usize-part.result c.loop-high.low c.loop-high.high c.loop-high.invariant c.loop-high-test.false
