use Rattle.std.proofs.Common.{◌≡◌, ◌<◌, ◌^◌, take}
use Rattle.std.specs.Str.Parse.{digits_value}
use Rattle.lk_map.proofs.PlainDigits.{AreDigitsUpTo}
use Rattle.lk_map.proofs.numbers.first_digits.Given as goal

abbrev pub invariant-loop-count : goal.invariant-loop-count
invariant-loop-count l = AreDigitsUpTo l.base l.text l.count × (digits_value l.base (take l.count l.text) ≡ l.value) × (l.value < l.base ^ l.count)
