use Rattle.std.proofs.Common.{arith}
use Rattle.lk_map.specs.Numbers.{number_in}
use Rattle.lk_map.proofs.Ahead.{number_begins}
use Rattle.lk_map.proofs.Missed.{counts_plain, counts_some, counts_up_to, counts_within, none_if}
use Rattle.lk_map.proofs.numbers.number_ahead.Goals as goal
use Rattle.lk_map.proofs.numbers.number_ahead.Goals.{then-count-eq0-via-then-count-eq0, then-count-eq0-via-else-count-eq0+then-count-text, else-count-gt1-via-then-count-gt1+else-text-eq48, else-count-gt1-via-else-count-gt1}

pub returns-clause-found : goal.returns-clause-found
returns-clause-found c =
    number_begins c.args.base c.requires.low c.requires.high c.args.text.now c.first_digits-number.result.1 c.first_digits-number.result.0
    c.first_digits-number.ensures.digits c.first_digits-number.ensures.value (omega arith) (omega arith)
    (λ more zero. elim c.else-count-gt1.branch [
      | else-count-gt1-via-then-count-gt1+else-text-eq48 w ↦ w.if-text-eq48.false zero
      | else-count-gt1-via-else-count-gt1 w ↦ (let less = w.if-count-gt1.false in omega (arith, more, less))
    ])
    c.args.stop
    (omega arith)
    (omega arith)

pub returns-then-count-eq0-clause-none : goal.returns-then-count-eq0-clause-none
returns-then-count-eq0-clause-none c blank word rest parts short = none_if (number_in c.args.base word) (λ n says.
    let some = counts_some c.args.base c.requires.low c.requires.high c.args.most c.args.stop c.args.text.now c.first_digits-number.result.1 c.first_digits-number.ensures.within c.first_digits-number.ensures.digits
    c.first_digits-number.ensures.all blank word rest parts short n says in
    let within = counts_within c.args.base c.requires.low c.requires.high c.args.most c.args.stop c.args.text.now c.first_digits-number.result.1 c.first_digits-number.ensures.within c.first_digits-number.ensures.digits
    c.first_digits-number.ensures.all blank word rest parts short n says in
    elim c.then-count-eq0.branch [
      | then-count-eq0-via-then-count-eq0 w ↦ (let none = w.if-count-eq0.true in omega (arith, none, some))
      | then-count-eq0-via-else-count-eq0+then-count-text w ↦ (let end = w.if-count-text.true in omega (arith, end, within))
    ])

pub returns-then-text-eq48-clause-none : goal.returns-then-text-eq48-clause-none
returns-then-text-eq48-clause-none c blank word rest parts short = none_if (number_in c.args.base word) (λ n says.
    let plain = counts_plain c.args.base c.requires.low c.requires.high c.args.most c.args.stop c.args.text.now c.first_digits-number.result.1 c.first_digits-number.ensures.within c.first_digits-number.ensures.digits
    c.first_digits-number.ensures.all blank word rest parts short n says in
    plain c.if-count-gt1.true c.if-text-eq48.true)

pub returns-then-text-count-clause-none : goal.returns-then-text-count-clause-none
returns-then-text-count-clause-none c blank word rest parts short = none_if (number_in c.args.base word) (λ n says.
    let at = counts_up_to c.args.base c.requires.low c.requires.high c.args.most c.args.stop c.args.text.now c.first_digits-number.result.1 c.first_digits-number.ensures.within c.first_digits-number.ensures.digits
    c.first_digits-number.ensures.all blank word rest parts short n says in
    c.if-text-count.true at)
