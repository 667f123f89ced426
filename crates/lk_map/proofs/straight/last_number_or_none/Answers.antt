use Rattle.std.proofs.Common.{[], ◌∷◌, Some, None, arith}
use Rattle.lk_map.specs.declared.forms.Field.TheVariants as is
use Rattle.lk_map.proofs.Ahead.{closes, dash_for_number, fits_number_or_none}
use Rattle.lk_map.proofs.Missed.{no_number_or_none, says_not}
use Rattle.lk_map.proofs.straight.last_number_or_none.Goals as goal

pub returns-in-Some-clause-found : goal.returns-in-Some-clause-found
returns-in-Some-clause-found c = closes is.NumberOrNone c.args.text.now c.in-Some.rest.now (None ∷ []) (dash_for_number 10 c.args.text.now c.in-Some.rest.now (c.in-Some.ensures.found))

pub returns-clause-found : goal.returns-clause-found
returns-clause-found c = closes is.NumberOrNone c.args.text.now c.in_ok-number.rest.now (Some c.in_ok-number.number ∷ []) (fits_number_or_none 10 c.args.text.now c.in_ok-number.rest.now c.in_ok-number.number (c.in_ok-number.ensures.found))

pub returns-in_err-number-clause-none : goal.returns-in_err-number-clause-none
returns-in_err-number-clause-none c = rw c.from_residual.ensures (says_not is.NumberOrNone c.args.text.now (no_number_or_none 10 c.args.text.now c.in_default.ensures.none (c.in_err-number.ensures.none (omega arith))))
