-- Lists that rise by a key.
use Rattle.std.proofs.Common.{◌<◌, ◌≤◌, ◌∷◌, [], List, ℕ, arith, get_or, length, zero, suc}
use Rattle.std.specs.List.Sorted.{IsNonDecreasingBy}

-- keys never fall, from a number on
abbrev pub Rises : {X : Type 0} → (X → ℕ) → ℕ → List X → Type 0
Rises key low [] = Unit {0}
Rises key low (x ∷ xs) = (low ≤ key x) × Rises key (key x) xs

pub rises_above : {X : Type 0} (key : X → ℕ) (low lower : ℕ) (xs : List X) → lower ≤ low → Rises key low xs → Rises key lower xs
rises_above key low lower [] less h = tt
rises_above key low lower (x ∷ xs) less h = (omega (arith, less, h.0), h.1)

pub key_above : {X : Type 0} (key : X → ℕ) (xs : List X) (low i : ℕ) (d : X) → Rises key low xs → i < length xs → low ≤ key (get_or xs i d)
key_above key [] low i d h within = absurd (omega (arith, within))
key_above key (x ∷ xs) low zero d h within = h.0
key_above key (x ∷ xs) low (suc i) d h within = omega (arith, key_above key xs (key x) i d h.1 (omega (arith, within)), h.0)

pub keys_sorted : {X : Type 0} (key : X → ℕ) (low : ℕ) (xs : List X) → Rises key low xs → IsNonDecreasingBy key xs
keys_sorted key low [] h i j d order within = absurd (omega (arith, within))
keys_sorted key low (x ∷ xs) h zero zero d order within = omega arith
keys_sorted key low (x ∷ xs) h zero (suc j) d order within = key_above key xs (key x) j d h.1 (omega (arith, within))
keys_sorted key low (x ∷ xs) h (suc i) zero d order within = absurd (omega (arith, order))
keys_sorted key low (x ∷ xs) h (suc i) (suc j) d order within = keys_sorted key (key x) xs h.1 i j d (omega (arith, order)) (omega (arith, within))
