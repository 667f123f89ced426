-- Numbers of which none stands twice, told by how often each stands; so they stay when the list is put into another order.
use Rattle.std.proofs.Common.{◌≡◌, ℕ, ◌≤◌, ◌==◌, cond, List, [], ◌∷◌, sum_by, IsPermutation, refl, ap, sym, arith, inl, inr}
use Rattle.std.specs.List.{AllByRecursion}
use Rattle.std.proofs.lemmas.Bool.Decides.{eqb_tells}
use Rattle.std.proofs.lemmas.List.Sums.{sum_by-cons}
use Rattle.std.proofs.lemmas.List.Sorted.{sum_by-IsPermutation}
use Rattle.lk_ranks.proofs.Rising.{NoneTwice}

-- 1 at a number, 0 at any other
abbrev pub tally : ℕ → ℕ → ℕ
tally n m = cond (m == n) 1 0

tally_other : (n m : ℕ) → (m ≡ n → ⊥) → tally n m ≡ 0
tally_other n m other =
    elim (eqb_tells m n) [
      | inl hit ↦ absurd (other hit.1)
      | inr miss ↦ ap (λ b. cond b 1 0) miss.0
    ]

tally_same : (n m : ℕ) → m ≡ n → tally n m ≡ 1
tally_same n m same =
    elim (eqb_tells m n) [
      | inl hit ↦ ap (λ b. cond b 1 0) hit.0
      | inr miss ↦ absurd (miss.1 same)
    ]

none_counted : (n : ℕ) (ns : List ℕ) → AllByRecursion (λ m. m ≡ n → ⊥) ns → sum_by (tally n) ns ≡ 0
none_counted n [] h = refl
none_counted n (m ∷ ns) h = omega (arith, sum_by-cons (tally n) m ns, tally_other n m h.0, none_counted n ns h.1)

counted_none : (n : ℕ) (ns : List ℕ) → sum_by (tally n) ns ≡ 0 → AllByRecursion (λ m. m ≡ n → ⊥) ns
counted_none n [] h = tt
counted_none n (m ∷ ns) h = (
  λ same. absurd (omega (arith, h, sum_by-cons (tally n) m ns, tally_same n m same)),
  counted_none n ns (omega (arith, h, sum_by-cons (tally n) m ns)),
)

once_counted : (n : ℕ) (ns : List ℕ) → NoneTwice ns → sum_by (tally n) ns ≤ 1
once_counted n [] h = omega arith
once_counted n (m ∷ ns) h =
    elim (eqb_tells m n) [
      | inl hit ↦ omega (arith, sum_by-cons (tally n) m ns, tally_same n m hit.1, ap (λ (k : ℕ). sum_by (tally k) ns) (sym hit.1), none_counted m ns h.0)
      | inr miss ↦ omega (arith, sum_by-cons (tally n) m ns, tally_other n m miss.1, once_counted n ns h.1)
    ]

counted_once : (ns : List ℕ) → ((n : ℕ) → sum_by (tally n) ns ≤ 1) → NoneTwice ns
counted_once [] h = tt
counted_once (m ∷ ns) h = (
  counted_none m ns (omega (arith, h m, sum_by-cons (tally m) m ns, tally_same m m refl)),
  counted_once ns (λ n. omega (arith, h n, sum_by-cons (tally n) m ns)),
)

pub once_moved : (ns ms : List ℕ) → IsPermutation ns ms → NoneTwice ns → NoneTwice ms
once_moved ns ms moved once = counted_once ms (λ n. omega (arith, sum_by-IsPermutation (tally n) ns ms moved, once_counted n ns once))
