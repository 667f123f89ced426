-- What is left where reading stopped one byte past the limit.
use Rattle.std.proofs.Common.{◌≡◌, ℕ, ◌+◌, List, ◌++◌, length, drop, Option, Some, None, append_assoc, arith, length-append}
use Rattle.std.proofs.Math.Seq.{drop-append_seam}
use Rattle.std.specs.Prelude.{IfSome}
use Rattle.std.specs.Io.KnownBytes.{Consumes}

-- a piece that brings the bytes read to one more than the limit leaves what lies behind that many
pub stops_past : (before now after : Option (List ℕ)) (bytes piece : List ℕ) (limit : ℕ) → Consumes before now bytes →
    Consumes now after piece → length bytes + length piece ≡ limit + 1 → IfSome before (λ held. after ≡ Some (drop (limit + 1) held))
stops_past None now after bytes piece limit first then_more count = tt
stops_past (Some held) None after bytes piece limit first then_more count = absurd first
stops_past (Some held) (Some more) None bytes piece limit first then_more count = absurd then_more
stops_past (Some held) (Some more) (Some rest) bytes piece limit first then_more count =
    let whole : held ≡ (bytes ++ piece) ++ rest = cc (append_assoc bytes piece rest) in
    let size : length (bytes ++ piece) ≡ limit + 1 = omega (arith, length-append bytes piece) in
    cc (drop-append_seam (bytes ++ piece) rest)
