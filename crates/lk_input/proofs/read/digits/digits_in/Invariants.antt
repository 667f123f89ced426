use Rattle.std.proofs.Common.{◌≡◌, ◌^◌, ◌<◌, take}
use Rattle.std.specs.Str.Parse.{AllDigits, digits_value}
use Rattle.lk_input.proofs.read.digits.digits_in.Given as goal

abbrev pub invariant-digits : goal.invariant-digits
invariant-digits l = (l.number ≡ digits_value 10 (take l.place l.text)) × AllDigits 10 (take l.place l.text) × (l.number < 2 ^ 63)
