use Rattle.std.proofs.Common.{◌≡◌, ◌<◌, ◌-◌, ◌^◌, ◌∙◌, ap, drop, length, length-drop, slice_index, subst, take, take_all, arith}
use Rattle.lk_input.specs.Plain.{IsDigits}
use Rattle.lk_input.proofs.Digits.{negative-written, plain-written}
use Rattle.lk_input.proofs.read.digits.plain_signed.Goals as goal

pub returns-in_default-2 : goal.returns-in_default-2
returns-in_default-2 c =
    let n = c.in_ok-number-in-45.number in
    let s = c.args.text.now in
    let minus : slice_index s 0 ≡ 45 = grind arith in
    let b = c.as_bytes.result.now in
    let same : b ≡ s = grind arith in
    let all : take (length b - 1) (drop 1 b) ≡ drop 1 b = take_all (length b - 1) (drop 1 b) (omega (arith, length-drop 1 b)) in
    let is = subst (λ t. IsDigits t n × (n < 2 ^ 63)) (all ∙ ap (drop 1) same) c.in_ok-number-in-45.ensures in
    let some : 0 < n = grind arith in
    negative-written s n minus is.0 some is.1

pub returns-in_ok-digits_in-in_default : goal.returns-in_ok-digits_in-in_default
returns-in_ok-digits_in-in_default c =
    let n = c.in_ok-digits_in-in_default.field-0 in
    let s = c.args.text.now in
    let is : IsDigits s n × (n < 2 ^ 63) = grind arith in
    plain-written s n is.0 is.1
