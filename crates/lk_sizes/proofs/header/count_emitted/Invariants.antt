use Rattle.std.proofs.Common.{◌≡◌, ◌-◌, ◌^◌, min, sum_by, take}
use Rattle.lk_sizes.specs.Tables.{placed_count}
use Rattle.lk_sizes.proofs.header.count_emitted.Given as goal

-- those of the events so far
abbrev pub invariant-loop-event : goal.invariant-loop-event
invariant-loop-event l = l.count ≡ min (sum_by (placed_count l.emitted) (take l.event-index l.events)) (2 ^ 32 - 1)
