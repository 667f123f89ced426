-- Rounding up, by what is missing to the next multiple.
use Rattle.std.proofs.Common.{◌≡◌, ℕ, ◌+◌, ◌-◌, ◌%◌, ◌<◌, arith, ap, ◌∙◌}
use Rattle.std.specs.Int.{next_multiple_of}
use Rattle.std.proofs.Math.Nat.{mod_self, mod-eq_of_lt}
use Rattle.lk_link.proofs.Powers.{alignment-pos, alignment-le}

-- a multiple stays
pub round-multiple : (n a : ℕ) → 0 < a → n % a ≡ 0 → next_multiple_of n a ≡ n
round-multiple n a h e =
    let whole : a - n % a ≡ a = omega arith in
    let none : (a - n % a) % a ≡ 0 = ap (λ (r : ℕ). r % a) whole ∙ mod_self a in
    ap (λ (r : ℕ). n + r) none ∙ omega arith

-- another number takes what is missing
pub round-other : (n a : ℕ) → 0 < a → 0 < n % a → next_multiple_of n a ≡ n + (a - n % a)
round-other n a h p =
    let below : a - n % a < a = omega arith in
    omega (arith, mod-eq_of_lt below)

pub ruleset rounding = (round-multiple, round-other, alignment-pos, alignment-le)
