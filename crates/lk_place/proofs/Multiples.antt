-- There is one least multiple at or above a number.
use Rattle.std.proofs.Common.{◌≡◌, ℕ, ◌-◌, ◌<◌, ◌≤◌, inl, inr, arith}
use Rattle.std.specs.Int.{◌∣◌}
use Rattle.std.proofs.Math.Nat.{dvd-sub}
use Rattle.std.proofs.lemmas.Bool.{cases_lt}
use Rattle.std.proofs.lemmas.Nat.Gcd.{le_of_dvd}
use Rattle.lk_link.specs.Alignments.{IsLeastMultiple}

-- no least multiple is above another
least-not-above : (a n m k : ℕ) → IsLeastMultiple a n m → IsLeastMultiple a n k → m < k → ⊥
least-not-above a n m k h g less =
    let apart : a ∣ (k - m) = dvd-sub a g.multiple h.multiple in
    let positive : 0 < k - m = omega arith in
    let far : a ≤ k - m = le_of_dvd positive apart in
    omega (arith, far, g.least, h.reaches)

-- there is one least multiple
pub least_one : (a n m k : ℕ) → IsLeastMultiple a n m → IsLeastMultiple a n k → m ≡ k
least_one a n m k h g =
    elim (cases_lt m k) [
      | inl less ↦ absurd (least-not-above a n m k h g less)
      | inr other ↦ elim (cases_lt k m) [
        | inl less ↦ absurd (least-not-above a n k m g h less)
        | inr both ↦ omega arith
      ]
    ]
