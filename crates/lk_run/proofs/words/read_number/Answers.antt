use Rattle.std.proofs.Common.{◌≡◌, sym, ◌∙◌, refl, true≢false, arith}
use Rattle.lk_run.specs.Steps.{IsPadded}
use Rattle.lk_run.proofs.Commands.{padded_is_none, numbers_are_read, others_are_none}
use Rattle.lk_run.proofs.words.read_number.Goals as goal

pub returns-then-is_padded-clause-number : goal.returns-then-is_padded-clause-number
returns-then-is_padded-clause-number c = sym (padded_is_none c.args.least c.args.most c.args.word.now (omega arith) (c.if-is_padded.ensures.0 refl))

pub returns-in-Ok-clause-number : goal.returns-in-Ok-clause-number
returns-in-Ok-clause-number c =
    let plain : ¬ (IsPadded c.args.word.now) = λ padded. true≢false (sym (c.if-is_padded.ensures.1 padded)) in
    sym (numbers_are_read c.args.least c.args.most c.args.word.now c.parse.result c.in-Ok.number plain c.parse.ensures.value.0 c.in-Ok.is
    c.if-least-number.true c.if-number-most.true (omega arith))

pub returns-in_default-clause-number : goal.returns-in_default-clause-number
returns-in_default-clause-number c =
    sym (others_are_none c.args.least c.args.most c.args.word.now c.parse.result c.parse.ensures.value.0 (omega arith) (λ n is some few.
    let same = sym c.in-Ok.is ∙ is in
    let one : c.in-Ok.number ≡ n = cc in
    omega (arith, c.if-number-most.false, one, few)))

pub returns-in_default-2-clause-number : goal.returns-in_default-2-clause-number
returns-in_default-2-clause-number c =
    sym (others_are_none c.args.least c.args.most c.args.word.now c.parse.result c.parse.ensures.value.0 (omega arith) (λ n is some few.
    let same = sym c.in-Ok.is ∙ is in
    let one : c.in-Ok.number ≡ n = cc in
    omega (arith, c.if-least-number.false, one, some)))

pub returns-in_default-3-clause-number : goal.returns-in_default-3-clause-number
returns-in_default-3-clause-number c =
    sym (others_are_none c.args.least c.args.most c.args.word.now c.parse.result c.parse.ensures.value.0 (omega arith) (λ n is some few.
    let same = sym c.in_default.is ∙ is in
    absurd (cc)))
