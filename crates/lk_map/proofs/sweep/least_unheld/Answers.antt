use Rattle.std.proofs.Common.{◌+◌, get_or, take, sym, subst}
use Rattle.std.specs.BinaryHeap.{heap_items}
use Rattle.std.proofs.lemmas.List.{get_or_default}
use Rattle.lk_map.specs.declared.sweep.Need.{Need}
use Rattle.lk_map.specs.Sweep.{IsLeast}
use Rattle.lk_map.proofs.Least.{least_all, least_first, least_more}
use Rattle.lk_map.proofs.Opening.{near, open_at_first, open_next, served_so}
use Rattle.lk_map.proofs.sweep.least_unheld.Goals as goal

abbrev some_need : Need
some_need = record { distance = 0; start = 0; file_end = 0; mem_end = 0; line = 0 }

pub loop-need-init : goal.loop-need-init
loop-need-init c = (open_at_first c.args.offers.now c.args.needs.now (heap_items c.new-heap.result) c.new-heap.ensures.items c.new-heap.ensures.heap_order, least_first c.args.offers.now)

pub is_held_by_best-is_held-requires-clause-near : goal.is_held_by_best-is_held-requires-clause-near
is_held_by_best-is_held-requires-clause-near c =
    near c.args.offers.now c.loop-need.next c.in_ok-next.next c.args.needs.now c.loop-need.need-index (get_or c.args.needs.now c.loop-need.need-index some_need)
    (heap_items c.loop-need.heap) (heap_items c.open_up_to.new.heap) (heap_items c.open_up_to.new.heap) c.loop-need.invariant.0 c.loop-need-test.true
    (λ d. get_or_default c.args.needs.now c.loop-need.need-index d some_need c.loop-need-test.true) (c.in_ok-next.ensures {u = tt})

pub loop-need-preserved : goal.loop-need-preserved
loop-need-preserved c =
    let is = λ (d : Need). get_or_default c.args.needs.now c.loop-need.need-index d some_need c.loop-need-test.true in (
      open_next c.args.offers.now c.loop-need.next c.in_ok-next.next c.args.needs.now c.loop-need.need-index (get_or c.args.needs.now c.loop-need.need-index some_need)
          (heap_items c.loop-need.heap) (heap_items c.open_up_to.new.heap) (heap_items c.is_held_by_best-is_held.new.heap) c.loop-need.invariant.0 c.loop-need-test.true is (c.in_ok-next.ensures {u = tt})
          c.is_held_by_best-is_held.ensures.left c.requires.needs,
      subst (λ o. IsLeast c.args.offers.now (take (c.loop-need.need-index + 1) c.args.needs.now) o) (sym c.lesser-least.ensures)
          (least_more c.args.offers.now c.args.needs.now c.loop-need.need-index c.loop-need.least (get_or c.args.needs.now c.loop-need.need-index some_need) c.is_held_by_best-is_held.result c.loop-need-test.true is
          c.loop-need.invariant.1
          (served_so c.args.offers.now c.loop-need.next c.in_ok-next.next c.args.needs.now c.loop-need.need-index (get_or c.args.needs.now c.loop-need.need-index some_need)
          (heap_items c.loop-need.heap) (heap_items c.open_up_to.new.heap) (heap_items c.is_held_by_best-is_held.new.heap) c.loop-need.invariant.0 c.loop-need-test.true is (c.in_ok-next.ensures {u = tt})
          c.is_held_by_best-is_held.ensures.left c.is_held_by_best-is_held.result c.is_held_by_best-is_held.ensures.found)),
    )

pub returns : goal.returns
returns c = least_all c.args.offers.now c.args.needs.now c.loop-need.need-index c.loop-need.least c.loop-need-test.false c.loop-need.invariant.1
