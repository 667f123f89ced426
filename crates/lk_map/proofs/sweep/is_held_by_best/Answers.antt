use Rattle.std.specs.BinaryHeap.{heap_items}
use Rattle.lk_map.proofs.Opening.{best_decides, lets_go_more, so_false, so_true}
use Rattle.lk_map.proofs.sweep.is_held_by_best.Goals as goal

pub returns-then-not-is_spent-clause-found : goal.returns-then-not-is_spent-clause-found
returns-then-not-is_spent-clause-found c =
    best_decides (heap_items c.loop-x.heap) c.in-Some.x c.args.need.now (c.in-Some.ensures.best)
    (c.requires.near c.in-Some.x (c.loop-x.invariant.only c.in-Some.x (c.in-Some.ensures.best).0))
    (so_false c.is_spent.result c.is_spent.ensures c.if-not-is_spent.true)

pub loop-x-preserved : goal.loop-x-preserved
loop-x-preserved c =
    lets_go_more c.args.need.now (heap_items c.args.heap.now) (heap_items c.loop-x.heap) (heap_items c.let_best_go.new.heap) c.in-Some.x c.loop-x.invariant
    (c.let_best_go.ensures.items c.in-Some.x (c.in-Some.ensures.top))
    (so_true c.is_spent.result c.is_spent.ensures c.if-not-is_spent.false) c.let_best_go.ensures.order
