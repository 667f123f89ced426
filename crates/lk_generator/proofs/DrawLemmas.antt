use Rattle.std.proofs.Common.{◌≡◌, ◌<◌, ℕ, ◌+◌, ◌*◌, ◌/◌, ◌%◌, ◌∙◌, ap, arith, min, refl, sym, add-one}
use Rattle.std.proofs.Math.Nat.{mod-add-mod}
use Rattle.lk_generator.specs.Draws.{next_state, pick, state_behind}

-- one draw on
pub next_behind : (seed n : ℕ) → state_behind seed (n + 1) ≡ next_state (state_behind seed n)
unfolding state_behind
next_behind seed n = rw (add-one n) refl

-- so as the code draws it, with a remainder taken twice
pub drawn_behind : (seed n x : ℕ) → x ≡ state_behind seed n
    → (x * 6364136223846793005 % 18446744073709551616 + 1442695040888963407) % 18446744073709551616 ≡ state_behind seed (n + 1)
drawn_behind seed n x at =
    mod-add-mod (x * 6364136223846793005) 18446744073709551616 1442695040888963407 ∙ ap next_state at ∙ sym (next_behind seed n)

-- sums with numerals are brought together
pub state_on : (seed n k x : ℕ) → x ≡ state_behind seed (n + k + 1) → x ≡ state_behind seed (n + (k + 1))
state_on seed n k x e = e ∙ ap (state_behind seed) (omega arith)

pub pick_on : (seed n k c x : ℕ) → x ≡ pick seed (n + k + 1) c → x ≡ pick seed (n + (k + 1)) c
pick_on seed n k c x e = e ∙ ap (λ m. pick seed m c) (omega arith)

-- behind one more group all of its objects are drawn
pub group_drawn : (seed size k x : ℕ) → x ≡ state_behind seed (6 * min (8 * k + 8) size) → x ≡ state_behind seed (6 * min (8 * (k + 1)) size)
group_drawn seed size k x e = e ∙ ap (λ m. state_behind seed (6 * min m size)) (omega arith)

-- before a group with objects all groups before it are full
pub groups_full : (seed size k x : ℕ) → 8 * k < size → x ≡ state_behind seed (6 * min (8 * k) size) → x ≡ state_behind seed (6 * (8 * k))
groups_full seed size k x few e = e ∙ ap (λ m. state_behind seed (6 * m)) (omega (arith, few))

-- a group that is counted has an object
pub group_starts : (size k : ℕ) → k < (size + 7) / 8 → 8 * k < size
group_starts size k there = omega (arith, there)
