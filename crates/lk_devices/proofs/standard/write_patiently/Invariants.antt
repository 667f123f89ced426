use Rattle.std.specs.Io.KnownBytes.{Keeps}
use Rattle.lk_devices.proofs.standard.write_patiently.Given as goal

-- an interrupted call moved nothing
abbrev pub invariant-loop : goal.invariant-loop
invariant-loop g l = Keeps (g.W.Write.contents l.initial.writer) (g.W.Write.contents l.writer)
