use Rattle.std.proofs.Common.{◌≡◌, ◌+◌, ◌-◌, ◌/◌, ◌%◌, ◌++◌, ◌∙◌, ℕ, drop, false, sym, ap, arith}
use Rattle.std.proofs.lemmas.List.{length-set}
use Rattle.std.specs.Fmt.{digit_glyph}
use Rattle.lk_line.specs.Hexadecimal.{hexadecimal}
use Rattle.lk_line.proofs.Digits.{digit_written, in_front, in_front_all, in_front_last, in_front_none, in_front_step}
use Rattle.lk_line.proofs.line.write_hexadecimal.Goals as goal

pub loop-left-init : goal.loop-left-init
loop-left-init c =
    let from : c.args.end - 64 + 64 ≡ c.args.end = omega (arith, c.requires.low) in
    (omega arith, from, c.told-room, in_front_all c.args.number _ ∙ ap (λ (n : ℕ). hexadecimal c.args.number ++ drop n c.args.room.now) from)

pub loop-left-preserved : goal.loop-left-preserved
loop-left-preserved c =
    let l = c.loop-left in
    let digit : ℕ = digit_glyph false (l.rest % 16) in
    let at : c.args.end - 64 + (l.left - 1) + 1 ≡ c.args.end - 64 + l.left = omega (arith, c.loop-left-test.true) in
    let written = digit_written l.room (c.args.end - 64 + (l.left - 1)) (c.args.end - 64 + l.left) _ digit at (omega (arith, c.requires.low, c.requires.high, l.invariant.0, l.invariant.2, c.loop-left-test.true)) c.hexadecimal_digit.ensures in (
      omega (arith, l.invariant.0),
      l.invariant.1,
      length-set l.room (c.args.end - 64 + (l.left - 1)) c.hexadecimal_digit.result ∙ l.invariant.2,
      ap (in_front (l.left - 1) (l.rest / 16)) written ∙ sym (in_front_step l.left l.rest (drop (c.args.end - 64 + l.left) l.room) c.loop-left-test.true c.if-rest-eq0.false) ∙ l.invariant.3,
    )

pub returns-then-rest-eq0 : goal.returns-then-rest-eq0
returns-then-rest-eq0 c =
    let l = c.loop-left in
    let digit : ℕ = digit_glyph false (l.rest % 16) in
    let at : c.args.end - 64 + (l.left - 1) + 1 ≡ c.args.end - 64 + l.left = omega (arith, c.loop-left-test.true) in
    let written = digit_written l.room (c.args.end - 64 + (l.left - 1)) (c.args.end - 64 + l.left) _ digit at (omega (arith, c.requires.low, c.requires.high, l.invariant.0, l.invariant.2, c.loop-left-test.true)) c.hexadecimal_digit.ensures in
    record {
      within = omega (arith, c.requires.low, l.invariant.0);
      value = written ∙ sym (in_front_last l.left l.rest (drop (c.args.end - 64 + l.left) l.room) c.loop-left-test.true c.if-rest-eq0.true) ∙ l.invariant.3;
    }

pub returns : goal.returns
returns c =
    let l = c.loop-left in
    let none : l.left ≡ 0 = omega (arith, c.loop-left-test.false) in
    let at : c.args.end - 64 ≡ c.args.end - 64 + l.left = omega (arith, none) in
    record {
      within = omega arith;
      value = ap (λ (n : ℕ). drop n l.room) at ∙ sym (in_front_none l.rest (drop (c.args.end - 64 + l.left) l.room))
          ∙ ap (λ (k : ℕ). in_front k l.rest (drop (c.args.end - 64 + l.left) l.room)) (sym none) ∙ l.invariant.3;
    }
