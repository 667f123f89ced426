use Rattle.lk_map.proofs.straight.ranges_then.Goals as goal

pub returns-clause-found : goal.returns-clause-found
returns-clause-found c more others end says =
    c.in_ok-rest.ensures.found _ _ _ (c.in_ok-mem_offset.ensures.found _ _ _ (c.in_ok-mem_size.ensures.found _ _ _ (c.in_ok-rest-2.ensures.found _ _ _ (c.in_ok-file_offset.ensures.found _ _ _ (c.in_ok-file_size.ensures.found _ _ _ (c.in_ok-rest-3.ensures.found _ _ _ says))))))

pub returns-in_err-rest-clause-none : goal.returns-in_err-rest-clause-none
returns-in_err-rest-clause-none c = rw c.from_residual.ensures (λ next more. c.in_err-rest.ensures.none _ _)

pub returns-in_err-mem_offset-clause-none : goal.returns-in_err-mem_offset-clause-none
returns-in_err-mem_offset-clause-none c = rw c.from_residual-in_err-mem_offset.ensures (λ next more. c.in_ok-rest.ensures.none _ _ (c.in_err-mem_offset.ensures.none _ _))

pub returns-in_err-mem_size-clause-none : goal.returns-in_err-mem_size-clause-none
returns-in_err-mem_size-clause-none c = rw c.from_residual-in_err-mem_size.ensures (λ next more. c.in_ok-rest.ensures.none _ _ (c.in_ok-mem_offset.ensures.none _ _ (c.in_err-mem_size.ensures.none _ _)))

pub returns-in_err-rest-2-clause-none : goal.returns-in_err-rest-2-clause-none
returns-in_err-rest-2-clause-none c = rw c.from_residual-in_err-rest-2.ensures (λ next more. c.in_ok-rest.ensures.none _ _ (c.in_ok-mem_offset.ensures.none _ _ (c.in_ok-mem_size.ensures.none _ _ (c.in_err-rest-2.ensures.none _ _))))

pub returns-in_err-file_offset-clause-none : goal.returns-in_err-file_offset-clause-none
returns-in_err-file_offset-clause-none c = rw c.from_residual-in_err-file_offset.ensures (λ next more. c.in_ok-rest.ensures.none _ _ (c.in_ok-mem_offset.ensures.none _ _ (c.in_ok-mem_size.ensures.none _ _ (c.in_ok-rest-2.ensures.none _ _ (c.in_err-file_offset.ensures.none _ _)))))

pub returns-in_err-file_size-clause-none : goal.returns-in_err-file_size-clause-none
returns-in_err-file_size-clause-none c = rw c.from_residual-in_err-file_size.ensures (λ next more. c.in_ok-rest.ensures.none _ _ (c.in_ok-mem_offset.ensures.none _ _ (c.in_ok-mem_size.ensures.none _ _ (c.in_ok-rest-2.ensures.none _ _ (c.in_ok-file_offset.ensures.none _ _ (c.in_err-file_size.ensures.none _ _))))))

pub returns-in_err-rest-3-clause-none : goal.returns-in_err-rest-3-clause-none
returns-in_err-rest-3-clause-none c = rw c.from_residual-in_err-rest-3.ensures (λ next more. c.in_ok-rest.ensures.none _ _ (c.in_ok-mem_offset.ensures.none _ _ (c.in_ok-mem_size.ensures.none _ _ (c.in_ok-rest-2.ensures.none _ _ (c.in_ok-file_offset.ensures.none _ _ (c.in_ok-file_size.ensures.none _ _ (c.in_err-rest-3.ensures.none _ _)))))))

pub returns-clause-none : goal.returns-clause-none
returns-clause-none c next more none = c.in_ok-rest.ensures.none _ _ (c.in_ok-mem_offset.ensures.none _ _ (c.in_ok-mem_size.ensures.none _ _ (c.in_ok-rest-2.ensures.none _ _ (c.in_ok-file_offset.ensures.none _ _ (c.in_ok-file_size.ensures.none _ _ (c.in_ok-rest-3.ensures.none _ _ (none)))))))
