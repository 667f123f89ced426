use Rattle.lk_map.proofs.straight.line_alike.Goals as goal

pub returns-in_err-rest-in_default-clause-none : goal.returns-in_err-rest-in_default-clause-none
returns-in_err-rest-in_default-clause-none c =
    rw (c.from_residual-in_err-rest-in_default.ensures, c.in_ok-other.was {u = tt}) (c.in_err-rest-in_default.ensures.none c.in_default.not-Section c.in_default.not-Segment)
