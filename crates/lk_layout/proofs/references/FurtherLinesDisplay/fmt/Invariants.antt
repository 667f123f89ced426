use Rattle.std.proofs.Common.{take}
use Rattle.std.specs.Fmt.{HasWritten, IsPlainFormatter}
use Rattle.lk_layout.specs.Texts.{further_lines}
use Rattle.lk_layout.proofs.references.FurtherLinesDisplay.fmt.Given as goal

-- the lines of the faults so far are written
abbrev pub invariant-loop-fault : goal.invariant-loop-fault
invariant-loop-fault g l =
    IsPlainFormatter l.initial.f → HasWritten g.W.Write.write_str_gives l.initial.f (further_lines (take l.fault-index l.fault-items)) l.f
