-- Two lists of ranges, put in order.
use Rattle.std.proofs.Common.{◌≡◌, ◌<◌, ◌≤◌, ◌+◌, ◌-◌, ◌^◌, ◌∙◌, ◌∷◌, ◌++◌, [], List, ℕ, Bool, true, false, ap, arith, cond, eqb, get_or, inl, inr, length, refl, sum_by, sym, zero, suc}
use Rattle.std.specs.List.Sorted.{IsNonDecreasingBy}
use Rattle.std.proofs.lemmas.Bool.{cases_lt, eq-eqb, eqb-true}
use Rattle.std.proofs.lemmas.List.Sums.{sum_by-cons}
use Rattle.std.proofs.lemmas.List.Sorted.{sum_by-IsPermutation}
use Rattle.lk_deltas.specs.Deletions.{RiseWithin}
use Rattle.lk_deltas.specs.Laws.{BothAreOne}
use Rattle.lk_deltas.proofs.Rising.{Rises, key_above, keys_sorted, rises_above}

-- starts of ranges rise
pub range_starts_rise : (low high : ℕ) (rs : List (ℕ × ℕ)) → RiseWithin low high rs → Rises (λ (r : ℕ × ℕ). r.0) low rs
range_starts_rise low high [] h = tt
range_starts_rise low high (r ∷ rs) h = (h.0, rises_above (λ (x : ℕ × ℕ). x.0) (r.0 + r.1) r.0 rs (omega arith) (range_starts_rise (r.0 + r.1) high rs h.2))

-- 1 where two ranges are one, else 0
is_range : ℕ × ℕ → ℕ × ℕ → ℕ
is_range x y = cond (eqb y.0 x.0) (cond (eqb y.1 x.1) 1 0) 0

self : (x : ℕ × ℕ) → is_range x x ≡ 1
unfolding is_range
self x = ap (λ b. cond b (cond (eqb x.1 x.1) 1 0) 0) (eq-eqb x.0 x.0 refl) ∙ ap (λ b. cond b 1 0) (eq-eqb x.1 x.1 refl)

-- one with the same start and length is the range
alike : (x y : ℕ × ℕ) → 0 < is_range x y → y ≡ x
unfolding is_range
alike x y some = by (eqb y.0 x.0) (eqb y.1 x.1) refl refl some
  where
    by : (b c : Bool) → eqb y.0 x.0 ≡ b → eqb y.1 x.1 ≡ c → 0 < cond b (cond c 1 0) 0 → y ≡ x
    by true true e f s = ap (λ (n : ℕ). (n, y.1)) (eqb-true y.0 x.0 e) ∙ ap (λ (n : ℕ). (x.0, n)) (eqb-true y.1 x.1 f)
    by true false e f s = absurd (omega (arith, s))
    by false c e f s = absurd (omega (arith, s))

-- a list that counts a range has it
has_range : (x : ℕ × ℕ) (rs : List (ℕ × ℕ)) → 0 < sum_by (is_range x) rs → (k : ℕ) × (k < length rs) × (get_or rs k x ≡ x)
has_range x [] some = absurd (omega (arith, some))
has_range x (r ∷ rs) some = elim (cases_lt 0 (is_range x r)) [
  | inl here ↦ (0, omega arith, alike x r here)
  | inr none ↦
      let rest = has_range x rs (omega (arith, some, sum_by-cons (is_range x) r rs, none)) in
      (suc rest.0, omega (arith, rest.1), rest.2)
]

-- both lists have the same ranges, each later often
abbrev pub SameRanges : List (ℕ × ℕ) → List (ℕ × ℕ) → Type 0
SameRanges xs ys = (f : ℕ × ℕ → ℕ) → sum_by f xs ≡ sum_by f ys

-- ranges that rise are the one order by starts of themselves
pub sorted_is : (low high : ℕ) (all rs : List (ℕ × ℕ)) → RiseWithin low high all → IsNonDecreasingBy (λ (r : ℕ × ℕ). r.0) rs → SameRanges all rs → rs ≡ all
sorted_is low high [] [] h order same = refl
sorted_is low high [] (y ∷ ys) h order same = absurd (omega (arith, same (λ _. 1), sum_by-cons (λ (_ : ℕ × ℕ). 1) y ys))
sorted_is low high (a ∷ later) [] h order same = absurd (omega (arith, same (λ _. 1), sum_by-cons (λ (_ : ℕ × ℕ). 1) a later))
sorted_is low high (a ∷ later) (y ∷ ys) h order same =
    let told = has_range a (y ∷ ys) (omega (arith, same (is_range a), sum_by-cons (is_range a) a later, self a)) in
    let least : y.0 ≤ a.0 = omega (arith, order 0 told.0 a (omega arith) told.1, ap (λ (r : ℕ × ℕ). r.0) told.2) in
    let back = has_range y (a ∷ later) (omega (arith, same (is_range y), sum_by-cons (is_range y) y ys, self y)) in
    let first : y ≡ a = at_front back.0 back.1 back.2 least in
    let tail : ys ≡ later = sorted_is (a.0 + a.1) high later ys h.2
    (λ i j d below within. order (suc i) (suc j) d (omega (arith, below)) (omega (arith, within)))
    (λ f. omega (arith, same f, sum_by-cons f a later, sum_by-cons f y ys, ap f first)) in
    ap (λ (r : ℕ × ℕ). r ∷ ys) first ∙ ap (λ (rs : List (ℕ × ℕ)). a ∷ rs) tail
  where
    at_front : (k : ℕ) → k < length (a ∷ later) → get_or (a ∷ later) k y ≡ y → y.0 ≤ a.0 → y ≡ a
    at_front zero within at less = sym at
    at_front (suc k) within at less =
        absurd (omega (
          arith,
          less,
          h.1,
          ap (λ (r : ℕ × ℕ). r.0) at,
          key_above (λ (r : ℕ × ℕ). r.0) later (a.0 + a.1) k y (range_starts_rise (a.0 + a.1) high later h.2) (omega (arith, within)),
        ))

pub both_are_one : BothAreOne
both_are_one old more all other h g =
    sorted_is 0 (2 ^ 64 - 1) all other h.rising (keys_sorted (λ (r : ℕ × ℕ). r.0) 0 other (range_starts_rise 0 (2 ^ 64 - 1) other g.rising))
    (λ f. sum_by-IsPermutation f (old ++ more) all h.moved ∙ sym (sum_by-IsPermutation f (old ++ more) other g.moved))
