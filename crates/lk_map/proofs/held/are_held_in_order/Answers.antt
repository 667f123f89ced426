use Rattle.std.proofs.Common.{◌≡◌, false, get_or, sym, arith}
use Rattle.std.proofs.lemmas.List.Elements.{All-more}
use Rattle.lk_map.specs.Checking.{is_outside}
use Rattle.lk_map.proofs.Holders.{all_held, held, no_need, some_section}
use Rattle.lk_map.proofs.InOrder.{decides_all, decides_first, decides_free, decides_held, decides_none}
use Rattle.lk_map.proofs.held.are_held_in_order.Goals as goal
use Rattle.lk_map.proofs.held.are_held_in_order.Goals.{then-is_in_need+in-Some, else-is_in_need}

pub loop-section-init : goal.loop-section-init
loop-section-init c = (λ k d h. absurd (omega arith), decides_first c.args.segments.now c.args.sections.now)

pub loop-section-preserved : goal.loop-section-preserved
loop-section-preserved c = (
  All-more (λ s. is_outside c.args.segments.now s ≡ false) c.args.sections.now c.loop-section.section-index some_section c.loop-section-test.true c.loop-section.invariant.0
      (elim c.if-is_in_need.branch [
        | then-is_in_need+in-Some w ↦ held c.args.segments.now (get_or c.args.sections.now c.loop-section.section-index some_section) w.in-Some.ensures.held
        | else-is_in_need w ↦ no_need c.args.segments.now (get_or c.args.sections.now c.loop-section.section-index some_section) (sym (w.if-is_in_need.ensures {u = tt}))
      ]),
  elim c.if-is_in_need.branch [
    | then-is_in_need+in-Some w ↦ (rw w.holder-is
        (decides_held c.args.segments.now c.args.sections.now c.loop-section.holder c.loop-section.section-index some_section c.loop-section-test.true c.loop-section.invariant.1
        w.in-Some.next (sym (w.if-is_in_need.ensures {u = tt})) w.in-Some.ensures.first))
    | else-is_in_need w ↦ (rw w.holder-is
        (decides_free c.args.segments.now c.args.sections.now c.loop-section.holder c.loop-section.section-index some_section c.loop-section-test.true c.loop-section.invariant.1
        (sym (w.if-is_in_need.ensures {u = tt}))))
  ],
)

pub returns-clause-held : goal.returns-clause-held
returns-clause-held c = λ _. all_held c.args.segments.now c.args.sections.now c.loop-section.section-index c.loop-section-test.false c.loop-section.invariant.0

pub returns-clause-order : goal.returns-clause-order
returns-clause-order c = decides_all c.args.segments.now c.args.sections.now c.loop-section.holder c.loop-section.section-index c.loop-section-test.false c.loop-section.invariant.1

pub returns-in_default-clause-order : goal.returns-in_default-clause-order
returns-in_default-clause-order c =
    decides_none c.args.segments.now c.args.sections.now c.loop-section.holder c.loop-section.section-index some_section c.loop-section-test.true c.loop-section.invariant.1
    (sym (c.if-is_in_need.ensures {u = tt})) c.in_default.ensures.first
