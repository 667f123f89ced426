use Rattle.lk_thunks.specs.Ranges.{section_bytes}
use Rattle.lk_thunks.proofs.Sums.{sum_end}
use Rattle.lk_thunks.proofs.ranges.sum_sections.Goals as goal

pub returns : goal.returns
returns c = sum_end (section_bytes c.args.link.now c.args.marks.now c.args.first) c.args.sections.now c.loop-index.index c.loop-index.total _ c.loop-index-test.false c.loop-index.invariant.0 c.loop-index.invariant.1
