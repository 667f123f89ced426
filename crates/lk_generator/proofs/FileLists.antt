-- The files of a generated link in a row, and their symbols.
use Rattle.std.proofs.Common.{◌≡◌, ◌<◌, ◌≤◌, ℕ, zero, suc, ◌+◌, ◌*◌, ◌-◌, ◌/◌, ◌∙◌, List, [], ◌∷◌, ◌++◌, Some, Bool, true, inl, inr, ap, sym, refl, arith, length, map, min, mul-suc}
use Rattle.std.specs.List.{flat_map, list_all, range_with_len, slice_get, sum_by}
use Rattle.std.proofs.lemmas.Bool.{cases_lt}
use Rattle.std.proofs.lemmas.List.{append-nil, map-append}
use Rattle.std.proofs.lemmas.List.Folds.{list_all-append}
use Rattle.std.proofs.lemmas.List.Sums.{sum_by-append, sum_by-cons}
use Rattle.lk_link.proofs.Elements.{append_left, append_right}
use Rattle.lk_link.specs.declared.file.InputFile.{InputFile}
use Rattle.lk_link.specs.Symbols.{all_files}
use Rattle.lk_generator.specs.Generated.{empty_prelude, generated_link, generated_object}

-- ---- numbers in a row

-- a stretch of numbers, cut
cut : (a x y : ℕ) → range_with_len a (x + y) ≡ range_with_len a x ++ range_with_len (a + x) y
cut a zero y = let start : a ≡ a + 0 = omega arith in let count : 0 + y ≡ y = omega arith in rw count (ap (λ b. range_with_len b y) start)
cut a (suc x) y =
    let count : suc x + y ≡ suc (x + y) = omega arith in
    let start : a + 1 + x ≡ a + suc x = omega arith in
    rw count (ap (λ l. a ∷ l) (cut (a + 1) x y ∙ ap (λ b. range_with_len (a + 1) x ++ range_with_len b y) start))

-- eight of them, or as many as are left, and those behind
eight : (a size : ℕ) → range_with_len (8 * a) (min 8 (size - 8 * a)) ++ range_with_len (8 * (a + 1)) (size - 8 * (a + 1)) ≡ range_with_len (8 * a) (size - 8 * a)
eight a size = elim (cases_lt (size - 8 * a) 8) [
  | inl less ↦
      let count : min 8 (size - 8 * a) ≡ size - 8 * a = omega (arith, less) in
      let none : size - 8 * (a + 1) ≡ 0 = omega (arith, less) in
      rw (count, none) (append-nil (range_with_len (8 * a) (size - 8 * a)))
  | inr more ↦
      let count : min 8 (size - 8 * a) ≡ 8 = omega (arith, more) in
      let start : 8 * (a + 1) ≡ 8 * a + 8 = omega arith in
      let whole : size - 8 * a ≡ 8 + (size - 8 * (a + 1)) = omega (arith, more) in
      ap (λ n. range_with_len (8 * a) n ++ range_with_len (8 * (a + 1)) (size - 8 * (a + 1))) count
      ∙ ap (λ b. range_with_len (8 * a) 8 ++ range_with_len b (size - 8 * (a + 1))) start
      ∙ sym (cut (8 * a) 8 (size - 8 * (a + 1))) ∙ ap (range_with_len (8 * a)) (sym whole)
]

-- groups of eight in a row
in_groups : {X : Type 0} (f : ℕ → X) (size a m : ℕ) → size ≤ 8 * (a + m)
    → flat_map (λ files. files) (map (λ k. map f (range_with_len (8 * k) (min 8 (size - 8 * k)))) (range_with_len a m)) ≡ map f (range_with_len (8 * a) (size - 8 * a))
in_groups f size a zero h = let none : size - 8 * a ≡ 0 = omega (arith, h) in sym (ap (λ n. map f (range_with_len (8 * a) n)) none)
in_groups f size a (suc m) h =
    ap (λ l. map f (range_with_len (8 * a) (min 8 (size - 8 * a))) ++ l) (in_groups f size (a + 1) m (omega (arith, h)))
    ∙ sym (map-append f (range_with_len (8 * a) (min 8 (size - 8 * a))) (range_with_len (8 * (a + 1)) (size - 8 * (a + 1))))
    ∙ ap (map f) (eight a size)

-- the files of the link: the prelude, and the objects
pub files_in_a_row : (seed size : ℕ) → all_files (generated_link seed size).groups ≡ empty_prelude ∷ map (generated_object seed size) (range_with_len 0 size)
files_in_a_row seed size =
    let from_none : 8 * 0 ≡ 0 = omega arith in
    let whole : size - 8 * 0 ≡ size = omega arith in
    ap (λ l. empty_prelude ∷ l) (in_groups (generated_object seed size) size 0 ((size + 7) / 8) (omega arith)
    ∙ ap (λ b. map (generated_object seed size) (range_with_len b (size - 8 * 0))) from_none ∙ ap (λ n. map (generated_object seed size) (range_with_len 0 n)) whole)

-- ---- lists of the same length in a row

pub nth : {Y : Type 0} (f : ℕ → List Y) (c a n i k : ℕ) (y : Y) → ((j : ℕ) → length (f j) ≡ c) → i < n → slice_get (f (a + i)) k ≡ Some y
    → slice_get (flat_map f (range_with_len a n)) (c * i + k) ≡ Some y
nth f c a zero i k y each there is = absurd (omega (arith, there))
nth f c a (suc n) zero k y each there is =
    let at : c * 0 + k ≡ k = omega arith in
    let first : a + 0 ≡ a = omega arith in
    rw at (append_left (f a) (flat_map f (range_with_len (a + 1) n)) k y (rw first at is))
nth f c a (suc n) (suc i) k y each there is =
    let at : c * suc i + k ≡ length (f a) + (c * i + k) = omega (arith, each a) in
    let next : a + suc i ≡ a + 1 + i = omega arith in
    append_right (f a) (flat_map f (range_with_len (a + 1) n)) (c * i + k) (c * suc i + k) y at
    (nth f c (a + 1) n i k y each (omega (arith, there)) (rw next at is))

-- ---- what is so of each

pub each_passes : {X : Type 0} (p : X → Bool) (f : ℕ → X) → ((i : ℕ) → p (f i) ≡ true) → (xs : List ℕ) → list_all p (map f xs) ≡ true
each_passes p f each [] = refl
each_passes p f each (x ∷ xs) = rw (each x) (each_passes p f each xs)

pub rows_pass : {X Y : Type 0} (p : Y → Bool) (f : X → List Y) → ((x : X) → list_all p (f x) ≡ true) → (xs : List X) → list_all p (flat_map f xs) ≡ true
rows_pass p f each [] = refl
rows_pass p f each (x ∷ xs) = list_all-append p (f x) (flat_map f xs) ∙ rw (each x) (rows_pass p f each xs)

-- ---- sums

pub sum_in_rows : {X : Type 0} (f : X → ℕ) (rows : List (List X)) → sum_by (λ row. sum_by f row) rows ≡ sum_by f (flat_map (λ row. row) rows)
sum_in_rows f [] = refl
sum_in_rows f (row ∷ rows) =
    sum_by-cons (λ r. sum_by f r) row rows ∙ ap (λ n. sum_by f row + n) (sum_in_rows f rows) ∙ sym (sum_by-append f row (flat_map (λ r. r) rows))

pub same_sum : {X : Type 0} (g : X → ℕ) (f : ℕ → X) (c a n : ℕ) → ((i : ℕ) → g (f i) ≡ c) → sum_by g (map f (range_with_len a n)) ≡ c * n
same_sum g f c a zero each = omega arith
same_sum g f c a (suc n) each = omega (arith, sum_by-cons g (f a) (map f (range_with_len (a + 1) n)), each a, same_sum g f c (a + 1) n each, mul-suc c n)

-- of all files of a link, where the prelude adds nothing and each object as much
pub all_summed : (seed size : ℕ) (g : InputFile → ℕ) (c : ℕ) → g empty_prelude ≡ 0 → ((i : ℕ) → g (generated_object seed size i) ≡ c)
    → sum_by g (all_files (generated_link seed size).groups) ≡ c * size
all_summed seed size g c none each =
    ap (sum_by g) (files_in_a_row seed size) ∙ sum_by-cons g empty_prelude (map (generated_object seed size) (range_with_len 0 size))
    ∙ omega (arith, none, same_sum g (generated_object seed size) c 0 size each)
