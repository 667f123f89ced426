use Rattle.std.proofs.Common.{◌≡◌, drop}
use Rattle.lk_place.specs.Segments.{thread_local_one}
use Rattle.lk_place.proofs.segments.find_thread_local.Given as goal

-- the first among those that are left is the first of all
abbrev pub invariant-loop-layout : goal.invariant-loop-layout
invariant-loop-layout l = thread_local_one l.plan (drop l.layout-index l.layouts) ≡ thread_local_one l.plan l.layouts
