use Rattle.std.proofs.Common.{◌≡◌, map}
use Rattle.std.specs.List.{range_with_len, slice_get}
use Rattle.lk_thunk_plan.proofs.places.block_places.Given as goal

-- the places of the blocks so far
abbrev pub invariant-loop-number : goal.invariant-loop-number
invariant-loop-number l = l.places.items ≡ map (slice_get l.addresses) (range_with_len 0 l.number)
