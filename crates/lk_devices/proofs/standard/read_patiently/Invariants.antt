use Rattle.std.specs.Io.KnownBytes.{Keeps}
use Rattle.lk_devices.proofs.standard.read_patiently.Given as goal

-- an interrupted call moved nothing
abbrev pub invariant-loop : goal.invariant-loop
invariant-loop g l = Keeps (g.R.Read.remaining l.initial.reader) (g.R.Read.remaining l.reader)
