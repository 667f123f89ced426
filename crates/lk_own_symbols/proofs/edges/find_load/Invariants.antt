use Rattle.std.proofs.Common.{◌≡◌, drop}
use Rattle.lk_own_symbols.specs.Edges.{first_load}
use Rattle.lk_own_symbols.proofs.edges.find_load.Given as goal

-- the first among those that are left is the first of all
abbrev pub invariant-loop-segment : goal.invariant-loop-segment
invariant-loop-segment l = first_load l.plan (drop l.segment-index l.segments) ≡ first_load l.plan l.segments
