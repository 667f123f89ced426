use Rattle.std.proofs.Common.{get_or}
use Rattle.std.specs.BinaryHeap.{heap_items}
use Rattle.std.proofs.lemmas.List.{get_or_default}
use Rattle.lk_map.proofs.Opening.{opens_all, opens_first, opens_more, opens_stop, so_false, so_true, some_offer}
use Rattle.lk_map.proofs.sweep.open_up_to.Goals as goal

pub loop-now-init : goal.loop-now-init
loop-now-init c = opens_first c.args.offers.now c.args.next c.args.need.now (heap_items c.args.heap.now) c.requires.within

pub returns-then-not-has_begun : goal.returns-then-not-has_begun
returns-then-not-has_begun c =
    opens_stop c.args.offers.now c.args.next c.loop-now.now c.args.need.now (heap_items c.args.heap.now) (heap_items c.loop-now.heap) (heap_items c.loop-now.heap) c.loop-now.invariant
    (get_or c.args.offers.now c.loop-now.now some_offer) c.loop-now-test.true (λ d. get_or_default c.args.offers.now c.loop-now.now d some_offer c.loop-now-test.true)
    (so_false c.has_begun.result c.has_begun.ensures c.if-not-has_begun.true) c.requires.rises

pub loop-now-preserved : goal.loop-now-preserved
loop-now-preserved c =
    opens_more c.args.offers.now c.args.next c.loop-now.now c.args.need.now (heap_items c.args.heap.now) (heap_items c.loop-now.heap) (heap_items c.open_one.new.heap) c.loop-now.invariant
    (get_or c.args.offers.now c.loop-now.now some_offer) c.loop-now-test.true (λ d. get_or_default c.args.offers.now c.loop-now.now d some_offer c.loop-now-test.true)
    (so_true c.has_begun.result c.has_begun.ensures c.if-not-has_begun.false)
    (c.in_ok-open_one.ensures.items) (c.in_ok-open_one.ensures.order)

pub returns : goal.returns
returns c = opens_all c.args.offers.now c.args.next c.loop-now.now c.args.need.now (heap_items c.args.heap.now) (heap_items c.loop-now.heap) (heap_items c.loop-now.heap) c.loop-now.invariant c.loop-now-test.false
