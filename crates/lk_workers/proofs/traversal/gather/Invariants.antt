use Rattle.std.proofs.Common.{◌≡◌, ◌+◌, ◌*◌, length}
use Rattle.lk_workers.specs.Asked.{AreReached}
use Rattle.lk_workers.specs.Closings.{AreMarksOf}
use Rattle.lk_workers.proofs.traversal.gather.Given as goal

-- what is marked so far is reached, and is what was done in the states that were opened
abbrev pub invariant-loop-state : goal.invariant-loop-state
invariant-loop-state g l =
    AreReached g.J.Reach.lists l.room.items
    × AreMarksOf l.opened.marks l.room.items
    × (length l.opened.marks + 2 * length l.state-iterator.rest.items ≡ 2 * length l.fn.states.items)
