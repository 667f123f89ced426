use Rattle.lk_layout.proofs.Moving.{parts_are}
use Rattle.lk_layout.proofs.file_ranges.move_section.Goals as goal

pub returns-clause-parts : goal.returns-clause-parts
returns-clause-parts c =
    parts_are c.args.sections.now c.args.parts.now _ c.args.section c.args.start c.part_range-first.result.0 c.part_range-first.result.1 c.part_range-first.ensures.first c.part_range-first.ensures.behind
    c.assign_section_file_range.auto.parts c.assign_section_file_range.ensures.parts
