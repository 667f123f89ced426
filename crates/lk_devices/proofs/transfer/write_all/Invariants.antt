use Rattle.std.proofs.Common.{◌≡◌, ◌-◌, ◌≤◌, length, take}
use Rattle.lk_devices.specs.Device.{Appends}
use Rattle.lk_devices.proofs.transfer.write_all.Given as goal

abbrev pub invariant-loop-at : goal.invariant-loop-at
invariant-loop-at g l =
    (l.at ≤ length l.text) × ((g.K.Sink.state l.sink).faults ≡ (g.K.Sink.state l.initial.sink).faults)
    × Appends (g.K.Sink.state l.initial.sink).taken (g.K.Sink.state l.sink).taken (take l.at l.text)

abbrev pub decreases-loop-at : goal.decreases-loop-at
decreases-loop-at g l = length l.text - l.at
