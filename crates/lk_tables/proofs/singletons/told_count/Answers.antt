use Rattle.std.proofs.Common.{true, false, sym, ◌∙◌, arith}
use Rattle.lk_link.specs.Marks.{is_marked}
use Rattle.lk_tables.proofs.SingletonLemmas.{counted_next, told_few, told_numbers}
use Rattle.lk_tables.proofs.singletons.told_count.Goals as goal
use Rattle.lk_tables.proofs.singletons.told_count.Goals.{then-is_marked, else-is_marked}

pub loop-number-preserved : goal.loop-number-preserved
loop-number-preserved c =
    let told = c.args.told.now in
    elim c.if-is_marked.branch [
      | then-is_marked w ↦
          counted_next (is_marked told) c.loop-number.number c.loop-number.count c.if-is_marked.count true (sym c.is_marked.ensures ∙ w.if-is_marked.true) c.loop-number.invariant
          (w.count-is ∙ w.saturating_add-count.ensures)
      | else-is_marked w ↦
          counted_next (is_marked told) c.loop-number.number c.loop-number.count c.if-is_marked.count false (sym c.is_marked.ensures ∙ w.if-is_marked.false) c.loop-number.invariant w.count-is
    ]

pub returns : goal.returns
returns c =
    omega (arith, c.loop-number.invariant, told_numbers c.args.link.now c.args.told.now c.loop-number.number (omega arith), told_few c.args.link.now c.args.told.now c.requires)
