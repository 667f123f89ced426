use Rattle.std.proofs.Common.{◌+◌, ◌*◌, get_or, ap, ◌∙◌, arith}
use Rattle.std.specs.Char.{digit_value}
use Rattle.lk_map.proofs.Ahead.{digits_taken, fits_next, grows}
use Rattle.lk_map.proofs.Digits.{value_more}
use Rattle.lk_map.proofs.PlainDigits.{digits_more}
use Rattle.lk_map.proofs.numbers.first_digits.Goals as goal

pub returns-then-digit-base-clause-digits : goal.returns-then-digit-base-clause-digits
returns-then-digit-base-clause-digits c = digits_taken c.args.base c.args.text.now c.loop-count.count c.loop-count.invariant.0

pub overflow_mul-value : goal.overflow_mul-value
overflow_mul-value c =
    let next = fits_next c.args.base c.loop-count.value c.digit_in-digit.result c.loop-count.count c.args.most c.loop-count.invariant.2 c.if-digit-base.false (omega arith) c.requires.fits in
    omega (arith, next)

pub overflow_add-value : goal.overflow_add-value
overflow_add-value c =
    let next = fits_next c.args.base c.loop-count.value c.digit_in-digit.result c.loop-count.count c.args.most c.loop-count.invariant.2 c.if-digit-base.false (omega arith) c.requires.fits in
    omega (arith, next)

pub loop-count-preserved : goal.loop-count-preserved
loop-count-preserved c =
    let digit = c.digit_in-digit.ensures.value c.if-digit-base.false in (
      digits_more c.args.base c.args.text.now c.loop-count.count c.loop-count.invariant.0 digit.0,
      value_more c.args.base c.args.text.now c.loop-count.count (omega arith)
          ∙ ap (λ v. v * c.args.base + digit_value (get_or c.args.text.now c.loop-count.count 0)) c.loop-count.invariant.1
          ∙ ap (λ d. c.loop-count.value * c.args.base + d) digit.1,
      grows c.args.base c.loop-count.value c.digit_in-digit.result c.loop-count.count c.loop-count.invariant.2 c.if-digit-base.false,
    )

pub returns-clause-digits : goal.returns-clause-digits
returns-clause-digits c =
    let end = c.loop-count-test.false in
    digits_taken c.args.base c.args.text.now c.min-end.result (λ i below. c.loop-count.invariant.0 i (omega (arith, below, end)))
