use Rattle.lk_sizes.specs.declared.sorted.InputSortedSection.{InputSortedSection}
use Rattle.lk_ranks.proofs.Turns.{there}
use Rattle.lk_sizes.proofs.resized.resize_sections.Goals as goal

pub resize_section-requires-clause-there : goal.resize_section-requires-clause-there
resize_section-requires-clause-there c =
    let s : InputSortedSection = c.section-item.result in
    c.requires.there c.loop-section.section-index s (there c.args.sorted.now c.loop-section.section-index s c.loop-section-test.true c.section-item.is)

pub resize_section-requires-clause-fits : goal.resize_section-requires-clause-fits
resize_section-requires-clause-fits c =
    let s : InputSortedSection = c.section-item.result in
    c.requires.fit c.loop-section.section-index s (there c.args.sorted.now c.loop-section.section-index s c.loop-section-test.true c.section-item.is)
