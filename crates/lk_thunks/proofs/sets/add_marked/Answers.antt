use Rattle.std.proofs.Common.{false, ◌||◌, take, ◌∙◌}
use Rattle.lk_link.specs.Marks.{is_marked}
use Rattle.lk_thunks.proofs.Noting.{all_marked, mark_more}
use Rattle.lk_thunks.proofs.sets.add_marked.Goals as goal

pub loop-index-preserved : goal.loop-index-preserved
loop-index-preserved c = (
  c.in_ok-note.ensures.count ∙ c.loop-index.invariant.0,
  λ test given.
      mark_more c.args.marks.now c.loop-index.index false c.from_u32.result test c.args.stamp c.note.new.stamps c.note.new.set.items
      c.loop-index-test.true c.from_u32.ensures
      (c.in_ok-note.ensures.noted (λ d. test d || is_marked (take c.loop-index.index c.args.marks.now) d) (c.loop-index.invariant.1 test given)),
)

pub returns-clause-noted : goal.returns-clause-noted
returns-clause-noted c = λ test given.
    all_marked c.args.marks.now c.loop-index.index test c.args.stamp c.loop-index.stamps c.loop-index.set.items c.loop-index-test.false (c.loop-index.invariant.1 test given)
