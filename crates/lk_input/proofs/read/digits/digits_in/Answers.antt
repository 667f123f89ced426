use Rattle.std.proofs.Common.{◌≡◌, ◌+◌, ◌<◌, length, slice_index_or, arith}
use Rattle.std.specs.Char.{digit_value}
use Rattle.std.proofs.lemmas.Int.Digits.{digits_more, digits_value_more}
use Rattle.std.proofs.lemmas.Str.{digit_value_digit}
use Rattle.lk_input.proofs.read.digits.digits_in.Goals as goal

pub digits-preserved : goal.digits-preserved
digits-preserved c =
    let l = c.digits in
    let s = c.args.text.now in
    let b = slice_index_or s l.place 0 in
    let within : l.place < length s = grind arith in
    let value : digit_value b + 48 ≡ b = digit_value_digit b (grind arith) in
    let more = digits_value_more 10 s l.place within in (
      omega (arith, more, l.invariant.0, value),
      digits_more 10 s l.place within l.invariant.1 (omega (arith, value)),
      omega arith,
    )
