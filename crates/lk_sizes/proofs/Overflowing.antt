-- The first part at which sums pass 2^64 - 1 together.
use Rattle.std.proofs.Common.{◌≡◌, ℕ, zero, suc, ◌+◌, ◌-◌, ◌^◌, ◌<◌, ◌≤◌, Bool, true, false, cond, min, List, [], ◌∷◌, length, take, ap, sym, ◌∙◌, subst, refl, arith, inl, inr, sum, ltb, Some, None}
use Rattle.std.specs.List.{slice_index}
use Rattle.std.proofs.lemmas.List.{take-take, ext_get_or}
use Rattle.std.proofs.lemmas.List.Sums.{sum_by-take-le, sum_by-cons, get_or-le-sum_by}
use Rattle.std.proofs.lemmas.Bool.{cases_lt}
use Rattle.std.proofs.lemmas.Bool.Decides.{nat_tests}
use Rattle.lk_link.specs.Files.{first_some}
use Rattle.lk_sizes.specs.PartOwners.{least_below, overflowing_part}

none_below : (p : ℕ → Bool) (n : ℕ) → ((k : ℕ) → k < n → p k ≡ false) → least_below p n ≡ None
unfolding first_some
none_below p zero h = refl
none_below p (suc n) h =
    rw (none_below p n (λ k l. h k (omega arith))) (ap (λ b. cond b (Some n) None) (h n (omega arith)))

-- the first number that passes, if those before it don't
some_below : (p : ℕ → Bool) (n i : ℕ) → i < n → ((k : ℕ) → k < i → p k ≡ false) → p i ≡ true → least_below p n ≡ Some i
unfolding first_some
some_below p zero i h none here = absurd (omega arith)
some_below p (suc n) i h none here =
    elim (cases_lt i n) [
      | inl l ↦ ap (λ o. first_some o (cond (p n) (Some n) None)) (some_below p n i l none here)
      | inr r ↦
          let e : i ≡ n = omega arith in
          let at : p n ≡ true = subst (λ (k : ℕ). p k ≡ true) e here in
          let before : (k : ℕ) → k < n → p k ≡ false = λ k l. none k (omega arith) in
          ap (λ o. first_some o (cond (p n) (Some n) None)) (none_below p n before) ∙ ap (λ b. cond b (Some n) None) at ∙ ap Some (sym e)
    ]

-- an earlier sum is no greater
earlier : (xs : List ℕ) (j k : ℕ) → j ≤ k → sum (take j xs) ≤ sum (take k xs)
earlier xs j k h =
    let e = take-take j k xs h in
    subst (λ (ys : List ℕ). sum ys ≤ sum (take k xs)) e (sum_by-take-le (λ x. x) (take k xs) j)

passes : (n : ℕ) → 2 ^ 64 - 1 < n → ltb (2 ^ 64 - 1) n ≡ true
passes n h = grind (arith, nat_tests)

fits : (n : ℕ) → n < 2 ^ 64 → ltb (2 ^ 64 - 1) n ≡ false
fits n h = grind (arith, nat_tests)

pub overflows_at : (xs : List ℕ) (i : ℕ) → i < length xs → sum (take i xs) < 2 ^ 64 → 2 ^ 64 - 1 < sum (take (i + 1) xs) → overflowing_part xs ≡ Some i
overflows_at xs i h low high =
    some_below (λ p. ltb (2 ^ 64 - 1) (sum (take (p + 1) xs))) (length xs) i h
    (λ k l. fits (sum (take (k + 1) xs)) (omega (arith, earlier xs (k + 1) i (omega arith))))
    (passes (sum (take (i + 1) xs)) high)

pub overflows_nowhere : (xs : List ℕ) → sum xs < 2 ^ 64 → overflowing_part xs ≡ None
overflows_nowhere xs h =
    none_below (λ p. ltb (2 ^ 64 - 1) (sum (take (p + 1) xs))) (length xs)
    (λ k l. fits (sum (take (k + 1) xs)) (omega (arith, sum_by-take-le (λ x. x) xs (k + 1))))

-- lists that agree below 2^64 have sums that do
agree_sums : (xs ys : List ℕ) → length xs ≡ length ys → ((p : ℕ) → p < length xs → min (slice_index xs p) (2 ^ 64) ≡ min (slice_index ys p) (2 ^ 64)) → (k : ℕ) → min (sum (take k xs)) (2 ^ 64) ≡ min (sum (take k ys)) (2 ^ 64)
agree_sums xs ys e h zero = refl
agree_sums [] [] e h (suc k) = refl
agree_sums [] (y ∷ ys) e h (suc k) = absurd (omega arith)
agree_sums (x ∷ xs) [] e h (suc k) = absurd (omega arith)
agree_sums (x ∷ xs) (y ∷ ys) e h (suc k) =
    let rest = agree_sums xs ys (omega arith) (λ p l. h (suc p) (omega arith)) k in
    omega (arith, sum_by-cons (λ (n : ℕ). n) x (take k xs), sum_by-cons (λ (n : ℕ). n) y (take k ys), h 0 (omega arith), rest)

same_least : (p q : ℕ → Bool) (n : ℕ) → ((k : ℕ) → p k ≡ q k) → least_below p n ≡ least_below q n
same_least p q zero h = refl
same_least p q (suc n) h =
    ap (λ o. first_some o (cond (p n) (Some n) None)) (same_least p q n h)
    ∙ ap (λ b. first_some (least_below q n) (cond b (Some n) None)) (h n)

passes_as : (m n : ℕ) → min m (2 ^ 64) ≡ min n (2 ^ 64) → ltb (2 ^ 64 - 1) m ≡ ltb (2 ^ 64 - 1) n
passes_as m n h =
    elim (cases_lt (2 ^ 64 - 1) m) [
      | inl l ↦ passes m l ∙ sym (passes n (omega arith))
      | inr r ↦ fits m (omega arith) ∙ sym (fits n (omega arith))
    ]

-- and pass 2^64 - 1 at the same part
pub agree_overflow : (xs ys : List ℕ) → length xs ≡ length ys → ((p : ℕ) → p < length xs → min (slice_index xs p) (2 ^ 64) ≡ min (slice_index ys p) (2 ^ 64)) → overflowing_part xs ≡ overflowing_part ys
agree_overflow xs ys e h =
    same_least (λ p. ltb (2 ^ 64 - 1) (sum (take (p + 1) xs))) (λ p. ltb (2 ^ 64 - 1) (sum (take (p + 1) ys))) (length xs)
    (λ k. passes_as (sum (take (k + 1) xs)) (sum (take (k + 1) ys)) (agree_sums xs ys e h (k + 1)))
    ∙ ap (least_below (λ p. ltb (2 ^ 64 - 1) (sum (take (p + 1) ys)))) e

-- where the sums stay below it, they are the same list
pub agree_fitting : (xs ys : List ℕ) → length xs ≡ length ys → ((p : ℕ) → p < length xs → min (slice_index xs p) (2 ^ 64) ≡ min (slice_index ys p) (2 ^ 64)) → sum xs < 2 ^ 64 → xs ≡ ys
agree_fitting xs ys e h low =
    ext_get_or 0 xs ys e (λ p l. omega (arith, h p l, get_or-le-sum_by (λ (n : ℕ). n) xs p 0 l))
