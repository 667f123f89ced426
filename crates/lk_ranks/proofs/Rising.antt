-- Numbers that rise, and numbers of which none stands twice.
use Rattle.std.proofs.Common.{◌≡◌, ℕ, zero, suc, ◌+◌, ◌<◌, ◌≤◌, List, [], ◌∷◌, ◌++◌, length, Some, refl, ap, subst, arith}
use Rattle.std.specs.List.{AllByRecursion, flat_map, slice_get}

-- ---- numbers that rise

-- each is above the one before it, the first at least low, the last below high
abbrev pub IsRising : ℕ → List ℕ → ℕ → Type 0
IsRising low [] high = low ≤ high
IsRising low (x ∷ xs) high = (low ≤ x) × IsRising (x + 1) xs high

pub rising_lower : (low lower : ℕ) (xs : List ℕ) (high : ℕ) → lower ≤ low → IsRising low xs high → IsRising lower xs high
rising_lower low lower [] high h i = omega (arith, i)
rising_lower low lower (x ∷ xs) high h i = (omega (arith, i.0), i.1)

pub rising_joined : (low middle high : ℕ) (xs ys : List ℕ) → IsRising low xs middle → IsRising middle ys high → IsRising low (xs ++ ys) high
rising_joined low middle high [] ys h i = rising_lower middle low ys high h i
rising_joined low middle high (x ∷ xs) ys h i = (h.0, rising_joined (x + 1) middle high xs ys h.1 i)

rising_ends : (low high : ℕ) (xs : List ℕ) → IsRising low xs high → low ≤ high
rising_ends low high [] h = h
rising_ends low high (x ∷ xs) h = omega (arith, h.0, rising_ends (x + 1) high xs h.1)

pub rising_below : (low high : ℕ) (xs : List ℕ) (k y : ℕ) → IsRising low xs high → slice_get xs k ≡ Some y → y < high
rising_below low high [] k y h there = absurd (cc)
rising_below low high (x ∷ xs) zero y h there = let same : x ≡ y = cc in omega (arith, same, rising_ends (x + 1) high xs h.1)
rising_below low high (x ∷ xs) (suc k) y h there = rising_below (x + 1) high xs k y h.1 there

pub rising_at : (low high : ℕ) (xs : List ℕ) (k y : ℕ) → IsRising low xs high → slice_get xs k ≡ Some y → low ≤ y
rising_at low high [] k y h there = absurd (cc)
rising_at low high (x ∷ xs) zero y h there = let same : x ≡ y = cc in omega (arith, h.0, same)
rising_at low high (x ∷ xs) (suc k) y h there = omega (arith, h.0, rising_at (x + 1) high xs k y h.1 there)

pub rising_order : (low high : ℕ) (xs : List ℕ) (j k x y : ℕ) → IsRising low xs high → j < k → slice_get xs j ≡ Some x → slice_get xs k ≡ Some y → x < y
rising_order low high [] j k x y h below at_j at_k = absurd (cc)
rising_order low high (z ∷ xs) zero zero x y h below at_j at_k = absurd (omega arith)
rising_order low high (z ∷ xs) zero (suc k) x y h below at_j at_k = let same : z ≡ x = cc in omega (arith, same, rising_at (z + 1) high xs k y h.1 at_k)
rising_order low high (z ∷ xs) (suc j) zero x y h below at_j at_k = absurd (omega arith)
rising_order low high (z ∷ xs) (suc j) (suc k) x y h below at_j at_k = rising_order (z + 1) high xs j k x y h.1 (omega arith) at_j at_k

-- what each of some brings rises, from a number by its place to the next one's
pub rise_flat : {X : Type 0} (keys : X → List ℕ) (before : ℕ → ℕ) (k : ℕ) (xs : List X)
    → ((j : ℕ) (x : X) → slice_get xs j ≡ Some x → IsRising (before (k + j)) (keys x) (before (k + j + 1)))
    → IsRising (before k) (flat_map keys xs) (before (k + length xs))
rise_flat keys before k [] each = let none : k + 0 ≡ k = omega arith in omega (arith, ap before none)
rise_flat keys before k (x ∷ xs) each =
    let none : k + 0 ≡ k = omega arith in
    let more : k + 1 + length xs ≡ k + length (x ∷ xs) = omega arith in
    let here : IsRising (before k) (keys x) (before (k + 1)) = subst (λ (n : ℕ). IsRising (before n) (keys x) (before (n + 1))) none (each 0 x refl) in
    let rest : IsRising (before (k + 1)) (flat_map keys xs) (before (k + 1 + length xs))
    = rise_flat keys before (k + 1) xs (λ j y there.
    let next : k + suc j ≡ k + 1 + j = omega arith in
    subst (λ (n : ℕ). IsRising (before n) (keys y) (before (n + 1))) next (each (suc j) y there)) in
    subst (λ (n : ℕ). IsRising (before k) (keys x ++ flat_map keys xs) (before n)) more
    (rising_joined (before k) (before (k + 1)) (before (k + 1 + length xs)) (keys x) (flat_map keys xs) here rest)

-- ---- no number twice

-- no number stands twice
abbrev pub NoneTwice : List ℕ → Type 0
NoneTwice [] = Unit {0}
NoneTwice (n ∷ ns) = AllByRecursion (λ m. m ≡ n → ⊥) ns × NoneTwice ns

all_above : (low high n : ℕ) (ns : List ℕ) → n < low → IsRising low ns high → AllByRecursion (λ m. m ≡ n → ⊥) ns
all_above low high n [] less h = tt
all_above low high n (m ∷ ns) less h = (λ same. absurd (omega (arith, less, h.0, same)), all_above (m + 1) high n ns (omega (arith, less, h.0)) h.1)

pub rising_once : (low high : ℕ) (ns : List ℕ) → IsRising low ns high → NoneTwice ns
rising_once low high [] h = tt
rising_once low high (n ∷ ns) h = (all_above (n + 1) high n ns (omega arith) h.1, rising_once (n + 1) high ns h.1)
