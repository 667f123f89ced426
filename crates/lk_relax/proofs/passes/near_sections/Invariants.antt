use Rattle.std.proofs.Common.{◌≡◌, ◌^◌, ℕ, min, take}
use Rattle.lk_relax.specs.PassWords.{near_ones}
use Rattle.lk_relax.proofs.passes.near_sections.Given as goal

-- those so far
abbrev pub invariant-loop-one : goal.invariant-loop-one
invariant-loop-one l = (total : ℕ) → min l.fall (2 ^ 64) ≡ min total (2 ^ 64) → l.near.items ≡ near_ones total (take l.one-index l.found)
