use Rattle.std.proofs.Common.{◌<◌, length, arith}
use Rattle.std.proofs.lemmas.Bool.Decides.{nat_tests}
use Rattle.lk_map.proofs.PlainDigits.{no_word, no_zeros, number_told}
use Rattle.lk_map.proofs.numbers.read_number.Goals as goal
use Rattle.lk_map.proofs.numbers.read_number.Goals.{else-word-gt1-via-then-word-gt1+else-word-eq48, else-word-gt1-via-else-word-gt1}

pub returns-then-is_empty : goal.returns-then-is_empty
returns-then-is_empty c = no_word c.args.base c.requires.low c.requires.high c.args.word.now (grind (arith, nat_tests))

pub returns-then-word-eq48 : goal.returns-then-word-eq48
returns-then-word-eq48 c = no_zeros c.args.base c.requires.low c.requires.high c.args.word.now c.if-word-gt1.true c.if-word-eq48.true

pub returns : goal.returns
returns c =
    let some : 0 < length c.args.word.now = grind (arith, nat_tests) in
    number_told c.args.base c.requires.low c.requires.high c.args.word.now c.value_in.result some
    (λ more zero. elim c.else-word-gt1.branch [
      | else-word-gt1-via-then-word-gt1+else-word-eq48 w ↦ w.if-word-eq48.false zero
      | else-word-gt1-via-else-word-gt1 w ↦ (let less = w.if-word-gt1.false in omega (arith, more, less))
    ])
    c.value_in.ensures
