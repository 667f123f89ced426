use Rattle.std.proofs.Common.{◌≡◌, ◌++◌}
use Rattle.lk_workers.specs.Work.{items_of}
use Rattle.lk_workers.proofs.work.LocalWorkQueue.add_all.Given as goal

-- what the asks so far add stands behind what waited before
abbrev pub invariant-loop-ask : goal.invariant-loop-ask
invariant-loop-ask l = l.self ≡ l.fn.self ++ items_of l.yielded
