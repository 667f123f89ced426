use Rattle.std.proofs.Common.{◌≡◌, ℕ, ◌+◌, ◌*◌, map}
use Rattle.std.specs.List.{range_with_len}
use Rattle.lk_generator.specs.Draws.{state_behind}
use Rattle.lk_generator.specs.Generated.{generated_object}
use Rattle.lk_generator.proofs.link.group.Given as goal

-- the objects so far are there, and their draws are taken
abbrev pub invariant-loop-place : goal.invariant-loop-place
invariant-loop-place l = (seed : ℕ) → l.initial.draws.state ≡ state_behind seed (6 * l.first)
    → (l.group.items ≡ map (generated_object seed l.size) (range_with_len l.first l.place)) × (l.draws.state ≡ state_behind seed (6 * (l.first + l.place)))
