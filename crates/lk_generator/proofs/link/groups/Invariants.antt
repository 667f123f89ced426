use Rattle.std.proofs.Common.{◌≡◌, ◌*◌, ◌∷◌, [], map, min}
use Rattle.std.specs.List.{range_with_len}
use Rattle.lk_generator.specs.Draws.{state_behind}
use Rattle.lk_generator.specs.Generated.{empty_prelude, object_group}
use Rattle.lk_generator.proofs.link.groups.Given as goal

-- the groups so far are there, and the draws of their objects are taken
abbrev pub invariant-loop-number : goal.invariant-loop-number
invariant-loop-number l = (l.groups.items ≡ (empty_prelude ∷ []) ∷ map (object_group l.seed l.size) (range_with_len 0 l.number))
    × (l.draws.state ≡ state_behind l.seed (6 * min (8 * l.number) l.size))
