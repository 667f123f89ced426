use Rattle.std.proofs.Common.{◌≡◌, ◌-◌, ℕ, drop, length, decimal, sym, ap, ◌∙◌, arith, length-append}
use Rattle.std.proofs.lemmas.List.{length-drop}
use Rattle.std.proofs.lemmas.Fmt.{IsAscii-decimal, length-decimal-le}
use Rattle.std.proofs.lemmas.Str.{IsUtf8-append, IsUtf8-from_ascii}
use Rattle.lk_line.proofs.line.Line.put_decimal.Goals as goal

pub write_digits-self-inside-requires : goal.write_digits-self-inside-requires
write_digits-self-inside-requires c =
    let short = length-decimal-le 20 c.args.number (omega arith) (omega (arith, c.ranges.number.fits)) c.ranges.number.fits in
    let long : length c.args.self.now ≡ 192 - c.self.inside.free
    = sym (ap length c.self.view_is) ∙ length-drop c.self.inside.free c.self.inside.room ∙ ap (λ (n : ℕ). n - c.self.inside.free) c.self.told in
    (omega (arith, short, long, c.requires, c.self.invariant.0), omega (arith, c.self.told, c.self.invariant.0))

pub invariant_of-self : goal.invariant_of-self
invariant_of-self c = (
  omega (arith, c.write_digits-self-inside.ensures.start, c.self.invariant.0),
  rw c.write_digits-self-inside.ensures.written (IsUtf8-append _ _ (IsUtf8-from_ascii _ (IsAscii-decimal c.args.number c.ranges.number.fits)) c.self.invariant.1),
)

pub returns-clause-length : goal.returns-clause-length
returns-clause-length c =
    let short = length-decimal-le 20 c.args.number (omega arith) (omega (arith, c.ranges.number.fits)) c.ranges.number.fits in
    omega (arith, ap length c.write_digits-self-inside.ensures.written ∙ length-append (decimal c.args.number) (drop c.self.inside.free c.self.inside.room), short, ap length c.self.view_is)
