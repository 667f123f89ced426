-- Checks, one after the other.
use Rattle.std.proofs.Common.{◌≡◌, Option, Some, None, Ok, Err, refl, sym}
use Rattle.lk_link.specs.declared.fault.LinkFault.{LinkFault}
use Rattle.lk_link.specs.Files.{first_some}
use Rattle.lk_check.specs.FirstFault.{check_of}

-- a check that passes leaves the answer to the next
pub passes : (a b : Option LinkFault) (t : Unit {0}) → Ok t ≡ check_of a → check_of (first_some a b) ≡ check_of b
unfolding check_of first_some
passes None b t h = refl
passes (Some f) b t h = absurd (cc)

-- a check that fails is the answer
pub fails : (a b : Option LinkFault) (e : LinkFault) → Err e ≡ check_of a → check_of (first_some a b) ≡ Err e
unfolding check_of first_some
fails None b e h = absurd (cc)
fails (Some f) b e h = sym h
