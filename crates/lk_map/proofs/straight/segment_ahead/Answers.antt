use Rattle.std.proofs.Common.{[], ◌∷◌, Some, refl}
use Rattle.lk_map.specs.Forms.{fields_of, follows, rank, row_of}
use Rattle.lk_map.specs.MapText.{section_told, segment_told}
use Rattle.lk_map.proofs.straight.segment_ahead.Goals as goal

pub returns-clause-found : goal.returns-clause-found
unfolding fields_of section_told segment_told rank row_of follows
returns-clause-found c = (
  Some c.in_ok-rest-2.field-0-0 ∷ Some c.in_ok-ranges.ranges.mem_offset ∷ Some c.in_ok-ranges.ranges.mem_size ∷ Some c.in_ok-ranges.ranges.file_offset ∷ Some c.in_ok-ranges.ranges.file_size ∷ Some c.in_ok-rest-3.field-0-0 ∷ [],
  c.in_ok-rest.ensures.found _ _ _ (c.in_ok-rest-2.ensures.found _ _ _ (c.in_ok-ranges.ensures.found _ _ _ (c.in_ok-rest-3.ensures.found))),
  refl,
  refl,
  refl,
)

pub returns-in_err-rest-clause-none : goal.returns-in_err-rest-clause-none
unfolding fields_of row_of
returns-in_err-rest-clause-none c = rw c.from_residual.ensures (c.in_err-rest.ensures.none _ _)

pub returns-in_err-rest-2-clause-none : goal.returns-in_err-rest-2-clause-none
unfolding fields_of row_of
returns-in_err-rest-2-clause-none c = rw c.from_residual-in_err-rest-2.ensures (c.in_ok-rest.ensures.none _ _ (c.in_err-rest-2.ensures.none _ _))

pub returns-in_err-ranges-clause-none : goal.returns-in_err-ranges-clause-none
unfolding fields_of row_of
returns-in_err-ranges-clause-none c = rw c.from_residual-in_err-ranges.ensures (c.in_ok-rest.ensures.none _ _ (c.in_ok-rest-2.ensures.none _ _ (c.in_err-ranges.ensures.none _ _)))

pub returns-in_err-rest-3-clause-none : goal.returns-in_err-rest-3-clause-none
unfolding fields_of row_of
returns-in_err-rest-3-clause-none c = rw c.from_residual-in_err-rest-3.ensures (c.in_ok-rest.ensures.none _ _ (c.in_ok-rest-2.ensures.none _ _ (c.in_ok-ranges.ensures.none _ _ (c.in_err-rest-3.ensures.none))))
