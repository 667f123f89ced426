use Rattle.std.proofs.Common.{◌≡◌, drop}
use Rattle.lk_place.specs.Segments.{thread_local_one}
use Rattle.lk_own_symbols.proofs.edges.find_thread_local.Given as goal

-- the first among those that are left is the first of all
abbrev pub invariant-loop-segment : goal.invariant-loop-segment
invariant-loop-segment l = thread_local_one l.plan (drop l.segment-index l.segments) ≡ thread_local_one l.plan l.segments
