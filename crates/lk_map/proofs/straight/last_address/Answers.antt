use Rattle.std.proofs.Common.{[], ◌∷◌, Some, arith}
use Rattle.lk_map.specs.declared.forms.Field.TheVariants as is
use Rattle.lk_map.proofs.Ahead.{closes, fits_address}
use Rattle.lk_map.proofs.Missed.{no_address, says_not}
use Rattle.lk_map.proofs.straight.last_address.Goals as goal

pub returns-clause-found : goal.returns-clause-found
returns-clause-found c = closes is.Address c.args.text.now c.in_ok-number.rest.now (Some c.in_ok-number.number ∷ []) (fits_address 10 c.args.text.now c.in_ok-number.rest.now c.in_ok-number.number (c.in_ok-number.ensures.found))

pub returns-in_err-number-clause-none : goal.returns-in_err-number-clause-none
returns-in_err-number-clause-none c = rw c.from_residual.ensures (says_not is.Address c.args.text.now (no_address 10 c.args.text.now (c.in_err-number.ensures.none (omega arith))))
