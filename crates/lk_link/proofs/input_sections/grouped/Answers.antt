use Rattle.lk_link.proofs.SectionGroupLemmas.{next_index}
use Rattle.lk_link.proofs.input_sections.grouped.Goals as goal

pub loop-index-preserved : goal.loop-index-preserved
loop-index-preserved c = λ group.
    next_index c.args.sections.now c.loop-index.index c.index-sections-index.result c.loop-index.pairs.items c.push_member.new.pairs.items group
    c.loop-index-test.true c.index-sections-index.is c.in_ok-push_member.ensures (c.loop-index.invariant group)
