-- Items with numbers, in the order of the numbers.
use Rattle.std.specs.List.{zip, filter}
use Rattle.std.specs.List.Sorted.{IsNonDecreasing, IsNonDecreasingBy, IsPartitionPoint, IsStableByKey, ties}
use Rattle.std.specs.Ordering.{is_lt, nat_cmp}
use Rattle.std.proofs.Common.{◌≡◌, ℕ, zero, suc, ◌-◌, ◌<◌, ◌≤◌, Bool, eqb, ltb, leb, cond, ⊎_elim, List, [], ◌∷◌, length, take, drop, get_or, map, refl, sym, ap, ◌∙◌, arith, true, false}
use Rattle.std.proofs.lemmas.Bool.{cases_lt, eq-eqb, ne_eqb, ltb-true, ltb-false, leb-true, leb-false}
use Rattle.std.proofs.lemmas.List.{nil_from_length, length-map, get_or-map}
use Rattle.std.proofs.lemmas.Bool.Decides.{nat_tests}
use Rattle.lk_link.specs.Numbered.{items_of, IsRangeOf}

-- one place on
later : (m : ℕ) (ns : List ℕ) (n low high : ℕ) → IsRangeOf (m ∷ ns) n (suc low) (suc high) → IsRangeOf ns n low high
later m ns n low high h = record {
  ordered = omega arith;
  within = omega arith;
  below = λ k lt. h.below (suc k) (omega arith);
  inside = λ k from lt. h.inside (suc k) (omega arith) (omega arith);
  above = λ k from lt. h.above (suc k) (omega arith) (omega arith);
}

-- one of the range less
rest : (m : ℕ) (ns : List ℕ) (n high : ℕ) → IsRangeOf (m ∷ ns) n zero (suc high) → IsRangeOf ns n zero high
rest m ns n high h = record {
  ordered = omega arith;
  within = omega arith;
  below = λ k lt. absurd (omega arith);
  inside = λ k from lt. h.inside (suc k) (omega arith) (omega arith);
  above = λ k from lt. h.above (suc k) (omega arith) (omega arith);
}

-- behind the range
behind : (m : ℕ) (ns : List ℕ) (n : ℕ) → IsRangeOf (m ∷ ns) n zero zero → IsRangeOf ns n zero zero
behind m ns n h = record {
  ordered = omega arith;
  within = omega arith;
  below = λ k lt. absurd (omega arith);
  inside = λ k from lt. absurd (omega arith);
  above = λ k from lt. h.above (suc k) (omega arith) (omega arith);
}

skip : {X : Type 0} (m n : ℕ) (x : X) (ps : List (ℕ × X)) → eqb m n ≡ false → items_of n ((m, x) ∷ ps) ≡ items_of n ps
skip m n x ps e = ap (λ b. map (λ p. p.1) (cond b ((m, x) ∷ filter (λ p. eqb p.0 n) ps) (filter (λ p. eqb p.0 n) ps))) e

keep : {X : Type 0} (m n : ℕ) (x : X) (ps : List (ℕ × X)) → eqb m n ≡ true → items_of n ((m, x) ∷ ps) ≡ x ∷ items_of n ps
keep m n x ps e = ap (λ b. map (λ p. p.1) (cond b ((m, x) ∷ filter (λ p. eqb p.0 n) ps) (filter (λ p. eqb p.0 n) ps))) e

-- the items of a number are those at its places
pub items_in_range : {X : Type 0} (ns : List ℕ) (xs : List X) (n low high : ℕ) → length ns ≡ length xs → IsRangeOf ns n low high → take (high - low) (drop low xs) ≡ items_of n (zip ns xs)
items_in_range [] [] n zero zero e h = refl
items_in_range [] [] n low (suc high) e h = absurd (let w = h.within in omega arith)
items_in_range [] [] n (suc low) zero e h = absurd (let o = h.ordered in omega arith)
items_in_range [] (x ∷ xs) n low high e h = absurd (omega arith)
items_in_range (m ∷ ns) [] n low high e h = absurd (omega arith)
items_in_range (m ∷ ns) (x ∷ xs) n zero zero e h =
    let lt = h.above 0 (omega arith) (omega arith) in
    items_in_range ns xs n zero zero (omega arith) (behind m ns n h) ∙ sym (skip m n x (zip ns xs) (ne_eqb m n (λ same. omega arith)))
items_in_range (m ∷ ns) (x ∷ xs) n zero (suc high) e h =
    let same = h.inside 0 (omega arith) (omega arith) in
    let size : suc high - zero ≡ suc (high - zero) = omega arith in
    ap (λ k. take k (x ∷ xs)) size ∙ ap (λ ys. x ∷ ys) (items_in_range ns xs n zero high (omega arith) (rest m ns n high h)) ∙ sym (keep m n x (zip ns xs) (eq-eqb m n same))
items_in_range (m ∷ ns) (x ∷ xs) n (suc low) zero e h = absurd (let o = h.ordered in omega arith)
items_in_range (m ∷ ns) (x ∷ xs) n (suc low) (suc high) e h =
    let lt = h.below 0 (omega arith) in
    let size : suc high - suc low ≡ high - low = omega arith in
    ap (λ k. take k (drop low xs)) size ∙ items_in_range ns xs n low high (omega arith) (later m ns n low high h) ∙ sym (skip m n x (zip ns xs) (ne_eqb m n (λ same. omega arith)))

-- two searches find the range
pub range_from : (xs : List ℕ) (n low high : ℕ) → low ≤ length xs → high ≤ length xs → IsPartitionPoint (λ y. ltb y n ≡ true) (λ y. ltb y n ≡ false) xs low → IsPartitionPoint (λ y. leb y n ≡ true) (λ y. leb y n ≡ false) xs high → IsRangeOf xs n low high
range_from xs n low high in_low in_high at_low at_high = record {
  ordered = ⊎_elim
      (λ past.
      let lesser = ltb-true (get_or xs high 0) n (at_low.0 high 0 (omega arith) past) in
      let greater = leb-false (get_or xs high 0) n (at_high.1 high 0 (omega arith) (omega arith)) in
      absurd (omega arith))
      (λ ordered. ordered)
      (cases_lt high low);
  within = in_high;
  below = λ k lt. ltb-true (get_or xs k 0) n (at_low.0 k 0 (omega arith) lt);
  inside = λ k from lt.
      let least = ltb-false (get_or xs k 0) n (at_low.1 k 0 from (omega arith)) in
      let most = leb-true (get_or xs k 0) n (at_high.0 k 0 (omega arith) lt) in
      omega arith;
  above = λ k from lt. leb-false (get_or xs k 0) n (at_high.1 k 0 from lt);
}

tie : (m n : ℕ) → ties (λ x y. is_lt (nat_cmp x y)) n m ≡ eqb m n
tie m n = grind (arith, nat_tests)

-- a stable sort by the numbers keeps the items of each number
pub items_stay : {X : Type 0} (xs ys : List (ℕ × X)) (n : ℕ) → length ys ≡ length xs → IsStableByKey (λ p. p.0) nat_cmp xs ys → items_of n ys ≡ items_of n xs
items_stay [] ys n e h = ap (items_of n) (nil_from_length ys e)
items_stay {X} (x ∷ xs) ys n e h =
    let same : ◌≡◌ {A = ℕ × X → Bool} (λ p. ties (λ a b. is_lt (nat_cmp a b)) n p.0) (λ p. eqb p.0 n) = λ i. λ p. tie p.0 n i in
    ap (λ test. map (λ p. p.1) (filter test ys)) (sym same) ∙ ap (λ ps. map (λ p. p.1) ps) (h (n, x.1)) ∙ ap (λ test. map (λ p. p.1) (filter test (x ∷ xs))) same

-- the numbers and the items of pairs, put together again
pub zip_parts : {X : Type 0} (ps : List (ℕ × X)) → zip (map (λ p. p.0) ps) (map (λ p. p.1) ps) ≡ ps
zip_parts [] = refl
zip_parts (p ∷ ps) = ap (λ qs. p ∷ qs) (zip_parts ps)

-- the numbers of pairs that rise by their numbers
pub numbers_rise : {X : Type 0} (ps : List (ℕ × X)) → IsNonDecreasingBy (λ p. p.0) ps → IsNonDecreasing (map (λ p. p.0) ps)
numbers_rise [] h i j d le lt = absurd (omega arith)
numbers_rise (p ∷ ps) h i j d le lt =
    let size = length-map (p ∷ ps) (λ (q : ℕ × _). q.0) in
    let here : j < length (p ∷ ps) = omega arith in
    let first = get_or-map (λ q. q.0) (p ∷ ps) i p d (omega arith) in
    let second = get_or-map (λ q. q.0) (p ∷ ps) j p d here in
    omega (arith, h i j p le here)
