use Rattle.std.proofs.Common.{[], ◌∷◌, Some}
use Rattle.lk_map.specs.Forms.{fields_of, row_of}
use Rattle.lk_map.proofs.straight.behind_thunk.Goals as goal

pub returns-clause-found : goal.returns-clause-found
unfolding fields_of row_of
returns-clause-found c = (
  Some c.in_ok-rest-2.field-0-0 ∷ Some c.in_ok-rest-3.field-0-0 ∷ c.in_ok-rest-4.field-0-0 ∷ [],
  c.in_ok-rest.ensures.found _ _ _ (c.in_ok-rest-2.ensures.found _ _ _ (c.in_ok-rest-3.ensures.found _ _ _ (c.in_ok-rest-4.ensures.found))),
)

pub returns-in_err-rest-clause-none : goal.returns-in_err-rest-clause-none
unfolding fields_of row_of
returns-in_err-rest-clause-none c = rw c.from_residual.ensures (c.in_err-rest.ensures.none _ _)

pub returns-in_err-rest-2-clause-none : goal.returns-in_err-rest-2-clause-none
unfolding fields_of row_of
returns-in_err-rest-2-clause-none c = rw c.from_residual-in_err-rest-2.ensures (c.in_ok-rest.ensures.none _ _ (c.in_err-rest-2.ensures.none _ _))

pub returns-in_err-rest-3-clause-none : goal.returns-in_err-rest-3-clause-none
unfolding fields_of row_of
returns-in_err-rest-3-clause-none c = rw c.from_residual-in_err-rest-3.ensures (c.in_ok-rest.ensures.none _ _ (c.in_ok-rest-2.ensures.none _ _ (c.in_err-rest-3.ensures.none _ _)))

pub returns-in_err-rest-4-clause-none : goal.returns-in_err-rest-4-clause-none
unfolding fields_of row_of
returns-in_err-rest-4-clause-none c = rw c.from_residual-in_err-rest-4.ensures (c.in_ok-rest.ensures.none _ _ (c.in_ok-rest-2.ensures.none _ _ (c.in_ok-rest-3.ensures.none _ _ (c.in_err-rest-4.ensures.none))))
