-- A list that rises and has exactly the numbers that pass a test is the list of them.
use Rattle.std.proofs.Common.{◌≡◌, ◌≢◌, ℕ, zero, suc, ◌+◌, ◌<◌, ◌≤◌, ◌==◌, ◌⊎◌, inl, inr, Bool, true, false, if◌then◌else◌, List, [], ◌∷◌, filter, get_or, length, refl, sym, ap, subst, ◌∙◌, arith}
use Rattle.std.specs.List.{count_by, range_with_len}
use Rattle.std.specs.List.Sorted.{IsNonDecreasingBy}
use Rattle.std.proofs.lemmas.Bool.{cases_Bool, eqb-true, eqb-false}
use Rattle.std.proofs.lemmas.List.Sums.{sum_by-cons}

-- 1 where two numbers are equal
abbrev pub one : ℕ → ℕ → ℕ
one x d = if x == d then 1 else 0

-- 1 where a test passes
abbrev pub bit : Bool → ℕ
bit b = if b then 1 else 0

-- how often a number stands in a list
pub own : ℕ → List ℕ → ℕ
own d [] = 0
own d (x ∷ xs) = one x d + own d xs

pub own_is : (d : ℕ) (xs : List ℕ) → count_by (λ x. x == d) xs ≡ own d xs
unfolding own
own_is d [] = refl
own_is d (x ∷ xs) = sum_by-cons (λ y. one y d) x xs ∙ ap (λ n. one x d + n) (own_is d xs)

-- numbers rise strictly, from a number on
pub From : ℕ → List ℕ → Type 0
From a [] = Unit {0}
From a (x ∷ xs) = (a ≤ x) × From (x + 1) xs

one_if : (x d : ℕ) → ((x ≡ d) × (one x d ≡ 1)) ⊎ ((x ≢ d) × (one x d ≡ 0))
one_if x d = by (x == d) refl
  where
    by : (b : Bool) → (x == d) ≡ b → ((x ≡ d) × (one x d ≡ 1)) ⊎ ((x ≢ d) × (one x d ≡ 0))
    by true e = inl (eqb-true x d e, ap bit e)
    by false e = inr (eqb-false x d e, ap bit e)

-- what isn't counted is no element
absent : (d : ℕ) (xs : List ℕ) (i : ℕ) → own d xs ≡ 0 → i < length xs → get_or xs i 0 ≢ d
unfolding own
absent d [] i none lt = λ _. absurd (omega arith)
absent d (x ∷ xs) zero none lt = λ is. elim (one_if x d) [ inl same ↦ absurd (omega (arith, same.1, none)) | inr differs ↦ differs.0 is ]
absent d (x ∷ xs) (suc i) none lt = absent d xs i (omega (arith, none)) (omega arith)

-- no number below
lower : (d a : ℕ) (xs : List ℕ) → From a xs → d < a → own d xs ≡ 0
unfolding own From
lower d a [] h lt = refl
lower d a (x ∷ xs) h lt =
    let rest = lower d (x + 1) xs h.1 (omega (arith, h.0)) in
    elim (one_if x d) [ inl same ↦ absurd (omega (arith, same.0, h.0)) | inr differs ↦ omega (arith, differs.1, rest) ]

-- what doesn't fall and has no number twice rises
pub rises : (a : ℕ) (xs : List ℕ) → IsNonDecreasingBy (λ s. s) xs → ((d : ℕ) → own d xs ≤ 1) → ((i : ℕ) → i < length xs → a ≤ get_or xs i 0) → From a xs
unfolding own From
rises a [] h once least = tt
rises a (x ∷ xs) h once least = (
  least 0 (omega arith),
  rises (x + 1) xs (λ i j d le lt. h (suc i) (suc j) d (omega arith) (omega arith)) (λ d. omega (arith, once d))
      (λ i lt.
      let here = once x in
      let above : x ≤ get_or xs i 0 = h 0 (suc i) 0 (omega arith) (omega arith) in
      let none : own x xs ≡ 0 = elim (one_if x x) [ inl same ↦ omega (arith, same.1, here) | inr differs ↦ absurd (differs.0 refl) ] in
      let other = absent x xs i none lt in
      omega (arith, above, other)),
)

-- another number stands as often without the first
without : {n x a : ℕ} (xs : List ℕ) (d : ℕ) → a < d → own d (x ∷ xs) ≡ n → x ≡ a → own d xs ≡ n
unfolding own
without {n} {x} {a} xs d lt h is = elim (one_if x d) [ inl same ↦ absurd (omega (arith, same.0, is, lt)) | inr differs ↦ omega (arith, differs.1, h) ]

taken : (test : ℕ → Bool) (a : ℕ) (xs : List ℕ) → test a ≡ true → filter test (a ∷ xs) ≡ a ∷ filter test xs
taken test a xs h = rw h refl

skipped : (test : ℕ → Bool) (a : ℕ) (xs : List ℕ) → test a ≡ false → filter test (a ∷ xs) ≡ filter test xs
skipped test a xs h = rw h refl

-- such a list has what passes the test, in order
pub is_filter : (test : ℕ → Bool) (n a : ℕ) (xs : List ℕ) → From a xs → ((d : ℕ) → a ≤ d → d < a + n → own d xs ≡ bit (test d)) → ((d : ℕ) → a + n ≤ d → own d xs ≡ 0)
    → xs ≡ filter test (range_with_len a n)
unfolding own From
is_filter test zero a [] h within past = refl
is_filter test zero a (x ∷ xs) h within past =
    let none = past x (omega (arith, h.0)) in
    elim (one_if x x) [ inl same ↦ absurd (omega (arith, same.1, none)) | inr differs ↦ absurd (differs.0 refl) ]
is_filter test (suc n) a [] h within past =
    elim (cases_Bool (test a)) [
      | inl same ↦ absurd (omega (arith, within a (omega arith) (omega arith), ap bit same))
      | inr differs ↦
          is_filter test n (a + 1) [] tt (λ d le lt. within d (omega arith) (omega arith)) (λ d le. refl)
          ∙ sym (skipped test a (range_with_len (a + 1) n) differs)
    ]
is_filter test (suc n) a (x ∷ xs) h within past =
    elim (one_if x a) [
      | inl same ↦
          let here : own a (x ∷ xs) ≡ bit (test a) = within a (omega arith) (omega arith) in
          elim (cases_Bool (test a)) [
            | inl passes ↦
                let rest : xs ≡ filter test (range_with_len (a + 1) n) = is_filter test n (a + 1) xs (subst (λ y. From (y + 1) xs) same.0 h.1)
                (λ d le lt. without xs d (omega arith) (within d (omega arith) (omega arith)) same.0) (λ d le. without xs d (omega arith) (past d (omega arith)) same.0)
                in
                ap (λ y. y ∷ xs) same.0 ∙ ap (λ ys. a ∷ ys) rest ∙ sym (taken test a (range_with_len (a + 1) n) passes)
            | inr differs ↦ absurd (omega (arith, here, same.1, ap bit differs))
          ]
      | inr other ↦
          let above : a + 1 ≤ x = omega (arith, h.0, other.0) in
          let none : own a (x ∷ xs) ≡ 0 = lower a (a + 1) (x ∷ xs) (above, h.1) (omega arith) in
          elim (cases_Bool (test a)) [
            | inl passes ↦ absurd (omega (arith, none, within a (omega arith) (omega arith), ap bit passes))
            | inr differs ↦
                is_filter test n (a + 1) (x ∷ xs) (above, h.1) (λ d le lt. within d (omega arith) (omega arith)) (λ d le. past d (omega arith))
                ∙ sym (skipped test a (range_with_len (a + 1) n) differs)
          ]
    ]

-- what rises from a number on is nowhere below it
not_below : (a : ℕ) (xs : List ℕ) (i : ℕ) → From a xs → i < length xs → a ≤ get_or xs i 0
unfolding From
not_below a [] i h lt = absurd (omega arith)
not_below a (x ∷ xs) zero h lt = h.0
not_below a (x ∷ xs) (suc i) h lt = let rest = not_below (x + 1) xs i h.1 (omega arith) in omega (arith, rest, h.0)

-- and rises by index
rises_at : (a : ℕ) (xs : List ℕ) (i j : ℕ) → From a xs → i < j → j < length xs → get_or xs i 0 < get_or xs j 0
unfolding From
rises_at a [] i j h lt within = absurd (omega arith)
rises_at a (x ∷ xs) i zero h lt within = absurd (omega arith)
rises_at a (x ∷ xs) zero (suc j) h lt within = let rest = not_below (x + 1) xs j h.1 (omega arith) in omega (arith, rest)
rises_at a (x ∷ xs) (suc i) (suc j) h lt within = rises_at (x + 1) xs i j h.1 (omega arith) (omega arith)

-- a list that rises from a number on does so from any below
lowered : (a b : ℕ) (xs : List ℕ) → b ≤ a → From a xs → From b xs
unfolding From
lowered a b [] le h = tt
lowered a b (x ∷ xs) le h = (omega (arith, le, h.0), h.1)

-- numbers in order that pass a test rise
passed_from : (test : ℕ → Bool) (n a : ℕ) → From a (filter test (range_with_len a n))
unfolding From
passed_from test zero a = tt
passed_from test (suc n) a = elim (cases_Bool (test a)) [
  | inl passes ↦ subst (From a) (sym (taken test a (range_with_len (a + 1) n) passes)) (omega arith, passed_from test n (a + 1))
  | inr fails ↦ subst (From a) (sym (skipped test a (range_with_len (a + 1) n) fails)) (lowered (a + 1) a (filter test (range_with_len (a + 1) n)) (omega arith) (passed_from test n (a + 1)))
]

pub passed_rise : (test : ℕ → Bool) (n a i j : ℕ) → i < j → j < length (filter test (range_with_len a n)) → get_or (filter test (range_with_len a n)) i 0 < get_or (filter test (range_with_len a n)) j 0
passed_rise test n a i j lt within = rises_at a (filter test (range_with_len a n)) i j (passed_from test n a) lt within
