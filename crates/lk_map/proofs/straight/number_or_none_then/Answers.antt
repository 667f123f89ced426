use Rattle.std.proofs.Common.{[], ◌∷◌, Some, None, arith}
use Rattle.lk_map.specs.declared.forms.Field.TheVariants as is
use Rattle.lk_map.proofs.Ahead.{dash_for_number, fits_number_or_none, opens}
use Rattle.lk_map.proofs.Missed.{no_number_or_none, opens_not, opens_only}
use Rattle.lk_map.proofs.straight.number_or_none_then.Goals as goal

pub returns-in-Some-clause-word : goal.returns-in-Some-clause-word
returns-in-Some-clause-word c = dash_for_number 32 c.args.text.now c.in-Some.rest.now (c.in-Some.ensures.found)

pub returns-clause-word : goal.returns-clause-word
returns-clause-word c = fits_number_or_none 32 c.args.text.now c.in_ok-number.rest.now c.in_ok-number.number (c.in_ok-number.ensures.found)

pub returns-in-Some-clause-found : goal.returns-in-Some-clause-found
returns-in-Some-clause-found c = opens is.NumberOrNone c.args.text.now c.in-Some.rest.now (None ∷ []) (dash_for_number 32 c.args.text.now c.in-Some.rest.now (c.in-Some.ensures.found))

pub returns-clause-found : goal.returns-clause-found
returns-clause-found c = opens is.NumberOrNone c.args.text.now c.in_ok-number.rest.now (Some c.in_ok-number.number ∷ []) (fits_number_or_none 32 c.args.text.now c.in_ok-number.rest.now c.in_ok-number.number (c.in_ok-number.ensures.found))

pub returns-in_err-number-clause-none : goal.returns-in_err-number-clause-none
returns-in_err-number-clause-none c = rw c.from_residual.ensures (opens_not is.NumberOrNone c.args.text.now (no_number_or_none 32 c.args.text.now c.in_default.ensures.none (c.in_err-number.ensures.none (omega arith))))

pub returns-clause-none : goal.returns-clause-none
returns-clause-none c = opens_only is.NumberOrNone c.args.text.now c.in_ok-number.rest.now _ c.in_ok-number.ensures.found

pub returns-in-Some-clause-none : goal.returns-in-Some-clause-none
returns-in-Some-clause-none c = opens_only is.NumberOrNone c.args.text.now c.in-Some.rest.now _ c.in-Some.ensures.found
