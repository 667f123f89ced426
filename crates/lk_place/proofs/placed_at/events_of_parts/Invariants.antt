use Rattle.lk_place.specs.Tables.{ArePlacedAt}
use Rattle.lk_place.proofs.placed_at.events_of_parts.Given as goal

-- the parts of the events so far
abbrev pub invariant-loop-number : goal.invariant-loop-number
invariant-loop-number l = ArePlacedAt l.plan l.number l.table.items
