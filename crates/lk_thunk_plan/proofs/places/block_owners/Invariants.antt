use Rattle.std.proofs.Common.{◌≡◌, map}
use Rattle.std.specs.Prelude.{option_map}
use Rattle.std.specs.List.{range_with_len, slice_get}
use Rattle.lk_thunk_plan.proofs.places.block_owners.Given as goal

-- the owners of the blocks so far
abbrev pub invariant-loop-number : goal.invariant-loop-number
invariant-loop-number l = l.owners.items ≡ map (λ k. option_map (λ q. q.0) (slice_get l.plan.owners k)) (range_with_len 0 l.number)
