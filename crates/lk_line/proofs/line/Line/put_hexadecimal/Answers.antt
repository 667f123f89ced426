use Rattle.std.proofs.Common.{drop, length, ap, ◌∙◌, arith, length-append}
use Rattle.std.proofs.lemmas.Str.{IsUtf8-append}
use Rattle.lk_line.specs.Hexadecimal.{hexadecimal}
use Rattle.lk_line.proofs.Digits.{digits_are_text, short_digits}
use Rattle.lk_line.proofs.line.Line.put_hexadecimal.Goals as goal

pub invariant_of-self : goal.invariant_of-self
invariant_of-self c = (
  omega (arith, c.write_hexadecimal-self-inside.ensures.within, c.self.invariant.0),
  rw c.write_hexadecimal-self-inside.ensures.value (IsUtf8-append _ _ (digits_are_text c.args.number) c.self.invariant.1),
)

pub returns-clause-length : goal.returns-clause-length
returns-clause-length c =
    omega (arith, ap length c.write_hexadecimal-self-inside.ensures.value ∙ length-append (hexadecimal c.args.number) (drop c.self.inside.free c.self.inside.room), short_digits c.args.number c.ranges.number.fits, ap length c.self.view_is)
