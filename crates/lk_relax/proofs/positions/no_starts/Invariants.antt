use Rattle.std.proofs.Common.{◌≡◌, ◌++◌, ℕ, drop, map}
use Rattle.lk_relax.proofs.positions.no_starts.Given as goal

-- the starts so far, followed by those that are left, are all
abbrev pub invariant-loop-size : goal.invariant-loop-size
invariant-loop-size l = l.starts.items ++ map (λ (n : ℕ). 0) (drop l._size-index l.sizes) ≡ map (λ (n : ℕ). 0) l.sizes
