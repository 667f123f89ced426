use Rattle.std.proofs.Common.{◌≡◌, arith}
use Rattle.lk_input.proofs.Digits.{number-written}
use Rattle.lk_input.proofs.read.digits.plain_number.Goals as goal

pub returns : goal.returns
returns c =
    let same : c.as_bytes.result.now ≡ c.args.text.now = grind arith in
    number-written c.args.text.now c.digits_in.result (rw (← same) c.digits_in.ensures)
