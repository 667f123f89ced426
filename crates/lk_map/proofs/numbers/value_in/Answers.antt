use Rattle.std.proofs.Common.{◌≡◌, ◌+◌, ◌*◌, ◌≤◌, ◌^◌, get_or, subst, sym, ◌∙◌, ap, arith}
use Rattle.std.specs.Char.{digit_value}
use Rattle.lk_map.proofs.Digits.{fits_not, fits_so, stays_large, value_more}
use Rattle.lk_map.proofs.PlainDigits.{digits_more, digits_whole}
use Rattle.lk_map.proofs.numbers.value_in.Goals as goal

pub loop-byte-init : goal.loop-byte-init
loop-byte-init c = (λ i below. absurd (omega arith), omega arith, omega arith)

pub returns-then-digit-base : goal.returns-then-digit-base
returns-then-digit-base c = λ are. absurd (c.digit_of-digit.ensures.none c.args.base c.requires.high c.if-digit-base.true (are c.loop-byte.byte-index c.loop-byte-test.true))

pub returns-in_err-value : goal.returns-in_err-value
returns-in_err-value c =
    let counts : digit_value (get_or c.args.word.now c.loop-byte.byte-index 0) ≡ c.digit_of-digit.result = (c.digit_of-digit.ensures.value c.args.base c.requires.high c.if-digit-base.false).1 in
    let large : 2 ^ 64 ≤ c.loop-byte.value * c.args.base + c.digit_of-digit.result = fits_not (c.loop-byte.value * c.args.base + c.digit_of-digit.result) (sym (c.in_err-value.ensures {u = tt})) in
    rw c.from_residual.ensures
    (λ are. stays_large c.args.base c.args.word.now c.loop-byte.byte-index c.loop-byte.value c.requires.low c.loop-byte-test.true c.loop-byte.invariant.1
    (subst (λ d. 2 ^ 64 ≤ c.loop-byte.value * c.args.base + d) (sym counts) large))

pub loop-byte-preserved : goal.loop-byte-preserved
loop-byte-preserved c =
    let digit = c.digit_of-digit.ensures.value c.args.base c.requires.high c.if-digit-base.false in
    let next = fits_so (c.loop-byte.value * c.args.base + c.digit_of-digit.result) c.in_ok-value.value (sym (c.in_ok-value.ensures {u = tt})) in (
      digits_more c.args.base c.args.word.now c.loop-byte.byte-index c.loop-byte.invariant.0 digit.0,
      value_more c.args.base c.args.word.now c.loop-byte.byte-index c.loop-byte-test.true
          ∙ ap (λ v. v * c.args.base + digit_value (get_or c.args.word.now c.loop-byte.byte-index 0)) c.loop-byte.invariant.1
          ∙ ap (λ d. c.loop-byte.value * c.args.base + d) digit.1
          ∙ next.0,
      next.1,
    )

pub returns : goal.returns
returns c = digits_whole c.args.base c.args.word.now c.loop-byte.byte-index c.loop-byte.value c.loop-byte-test.false c.loop-byte.invariant.0 c.loop-byte.invariant.1 c.loop-byte.invariant.2
