use Rattle.std.proofs.Common.{arith}
use Rattle.lk_map.specs.Numbers.{address_in}
use Rattle.lk_map.proofs.Ahead.{address_found}
use Rattle.lk_map.proofs.Missed.{address_front, address_missed, none_if}
use Rattle.lk_map.proofs.numbers.address_ahead.Goals as goal
use Rattle.lk_map.proofs.numbers.address_ahead.Goals.{else-text-ge2-via-then-text-ge2+then-text-eq48+else-text-eq120, else-text-ge2-via-then-text-ge2+else-text-eq48, else-text-ge2-via-else-text-ge2}

pub returns-then-text-eq120-clause-found : goal.returns-then-text-eq120-clause-found
returns-then-text-eq120-clause-found c = address_found c.args.stop c.args.text.now c.number_ahead.result c.if-text-ge2.true c.if-text-eq48.true c.if-text-eq120.true c.number_ahead.ensures.found

pub returns-then-text-eq120-clause-none : goal.returns-then-text-eq120-clause-none
returns-then-text-eq120-clause-none c blank = address_missed c.args.stop c.args.text.now c.number_ahead.result (c.number_ahead.ensures.none blank)

pub returns-else-text-ge2-clause-none : goal.returns-else-text-ge2-clause-none
returns-else-text-ge2-clause-none c blank word rest parts = none_if (address_in word) (λ n says.
    let (long, zero_first, x_next) = address_front c.args.stop c.args.text.now word rest n parts says in
    elim c.else-text-ge2.branch [
      | else-text-ge2-via-then-text-ge2+then-text-eq48+else-text-eq120 w ↦ w.if-text-eq120.false x_next
      | else-text-ge2-via-then-text-ge2+else-text-eq48 w ↦ w.if-text-eq48.false zero_first
      | else-text-ge2-via-else-text-ge2 w ↦ (let less = w.if-text-ge2.false in omega (arith, long, less))
    ])
