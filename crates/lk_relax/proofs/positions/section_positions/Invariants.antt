use Rattle.std.proofs.Common.{◌≡◌, ℕ, map}
use Rattle.std.specs.List.{enumerate_from}
use Rattle.lk_link.specs.Inputs.{Input}
use Rattle.lk_link.specs.Walks.{input_of}
use Rattle.lk_relax.specs.PositionWords.{section_position_in}
use Rattle.lk_relax.proofs.positions.section_positions.Given as goal

-- the positions of the sections so far
abbrev pub invariant-loop-input : goal.invariant-loop-input
invariant-loop-input l =
    l.positions.items ≡ map (λ (q : ℕ × Input). section_position_in l.live.marks l.places q.0 q.1.section) (enumerate_from 0 (map input_of l.yielded))
