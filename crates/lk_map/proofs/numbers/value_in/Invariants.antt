use Rattle.std.proofs.Common.{◌≡◌, ◌<◌, ◌^◌, take}
use Rattle.std.specs.Str.Parse.{digits_value}
use Rattle.lk_map.proofs.PlainDigits.{AreDigitsUpTo}
use Rattle.lk_map.proofs.numbers.value_in.Given as goal

abbrev pub invariant-loop-byte : goal.invariant-loop-byte
invariant-loop-byte l = AreDigitsUpTo l.base l.word l.byte-index × (digits_value l.base (take l.byte-index l.word) ≡ l.value) × (l.value < 2 ^ 64)
