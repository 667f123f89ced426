use Rattle.std.proofs.Common.{[], ◌∷◌, Some, arith}
use Rattle.lk_map.specs.declared.forms.Field.TheVariants as is
use Rattle.lk_map.proofs.Ahead.{fits_number, opens}
use Rattle.lk_map.proofs.Missed.{no_number, opens_not, opens_only}
use Rattle.lk_map.proofs.straight.number_then.Goals as goal

pub returns-clause-word : goal.returns-clause-word
returns-clause-word c = fits_number 32 c.args.text.now c.in_ok-number.rest.now c.in_ok-number.number (c.in_ok-number.ensures.found)

pub returns-clause-found : goal.returns-clause-found
returns-clause-found c = opens is.Number c.args.text.now c.in_ok-number.rest.now (Some c.in_ok-number.number ∷ []) (fits_number 32 c.args.text.now c.in_ok-number.rest.now c.in_ok-number.number (c.in_ok-number.ensures.found))

pub returns-in_err-number-clause-none : goal.returns-in_err-number-clause-none
returns-in_err-number-clause-none c = rw c.from_residual.ensures (opens_not is.Number c.args.text.now (no_number 32 c.args.text.now (c.in_err-number.ensures.none (omega arith))))

pub returns-clause-none : goal.returns-clause-none
returns-clause-none c = opens_only is.Number c.args.text.now c.in_ok-number.rest.now _ c.in_ok-number.ensures.found
