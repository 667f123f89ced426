use Rattle.std.proofs.Common.{arith}
use Rattle.std.proofs.lemmas.Str.{IsUtf8-append}
use Rattle.lk_line.proofs.line.Line.put.Goals as goal

pub invariant_of-self : goal.invariant_of-self
invariant_of-self c =
    (omega (arith, c.copy_in-self-inside.ensures.start, c.self.invariant.0), rw c.copy_in-self-inside.ensures.value (IsUtf8-append _ _ c.as_bytes.ensures.utf8 c.self.invariant.1))
