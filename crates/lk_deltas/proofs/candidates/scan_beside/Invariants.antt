use Rattle.std.proofs.Common.{◌≤◌, drop}
use Rattle.lk_deltas.proofs.SideBySide.{Walk}
use Rattle.lk_deltas.proofs.candidates.scan_beside.Given as goal

abbrev pub invariant-loop-candidate : goal.invariant-loop-candidate
invariant-loop-candidate g l = (l.passed ≤ l.candidate-index)
    × Walk (g.J.Judge.told l.judge) l.old l.candidates l.passed l.scan.ranges.items l.scan.margin (drop l.candidate-index l.candidates)
