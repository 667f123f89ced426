-- Laws on generated links.
use Rattle.std.specs.Prelude.{ℕ, ◌≤◌}
use Rattle.lk_link.specs.WellFormed.{IsWellFormed}
use Rattle.lk_generator.specs.Generated.{generated_link}

-- each is well formed
abbrev pub GeneratedLinksAreWellFormed : Type 0
GeneratedLinksAreWellFormed = (seed size : ℕ) → 1 ≤ size → size ≤ 100000 → IsWellFormed (generated_link seed size)
