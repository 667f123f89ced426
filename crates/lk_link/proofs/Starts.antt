-- Numbers that are multiples.
use Rattle.std.specs.Prelude.{◌≡◌, ℕ, ◌+◌, ◌-◌, ◌*◌, ◌/◌, ◌<◌, ◌%◌}
use Rattle.std.specs.Int.{next_multiple_of}
use Rattle.std.proofs.Common.{arith, sym, ap, ◌∙◌}
use Rattle.std.proofs.Math.Nat.{zero-mod, mod-mod, mod-lt, mod-add-mod, add-mod-mod, div-add-mod, mul-add-mod_self_left, add-mod_right}
use Rattle.std.proofs.lemmas.Nat.Gcd.{dvd_of_mod-eq-zero}
use Rattle.lk_link.specs.Alignments.{IsLeastMultiple, IsGreatestMultiple, IsLeastCongruent, next_congruent}
use Rattle.lk_link.specs.Target.{rounded_mod}

-- what is added to reach a remainder
pub steps_to : (a r n : ℕ) → 0 < a → (n + (r % a + a - n % a) % a) % a ≡ r % a
steps_to a r n h =
    let below : n % a < a = mod-lt n h in
    let fits : n % a + (r % a + a - n % a) ≡ r % a + a = omega arith in
    add-mod-mod n (r % a + a - n % a) a
    ∙ sym (mod-add-mod n a (r % a + a - n % a))
    ∙ ap (λ (k : ℕ). k % a) fits
    ∙ add-mod_right (r % a) a
    ∙ mod-mod r a

-- rounding up gives the least multiple
pub next_multiple_is_least : (a n : ℕ) → 0 < a → IsLeastMultiple a n (next_multiple_of n a)
next_multiple_is_least a n h =
    let below : (a - n % a) % a < a = mod-lt (a - n % a) h in
    record { multiple = dvd_of_mod-eq-zero a (rounded_mod n a h); reaches = omega arith; least = omega arith }

-- what is left without the remainder is the greatest multiple
pub rest_is_greatest : (a n : ℕ) → 0 < a → IsGreatestMultiple a n (n - n % a)
rest_is_greatest a n h =
    let below : n % a < a = mod-lt n h in
    let split : a * (n / a) + n % a ≡ n = div-add-mod n a in
    let whole : n - n % a ≡ a * (n / a) + 0 = omega arith in
    record {
      multiple = dvd_of_mod-eq-zero a (ap (λ (k : ℕ). k % a) whole ∙ mul-add-mod_self_left a (n / a) 0 ∙ zero-mod a);
      within = omega arith;
      greatest = omega arith;
    }

-- the computed number is the least congruent one
pub next_congruent_is_least : (a r n : ℕ) → 0 < a → IsLeastCongruent a r n (next_congruent a r n)
next_congruent_is_least a r n h =
    let below : (r % a + a - n % a) % a < a = mod-lt (r % a + a - n % a) h in
    record { congruent = steps_to a r n h; reaches = omega arith; least = omega arith }

-- what rounding gives
pub ruleset rounding = (next_multiple_is_least, rest_is_greatest, next_congruent_is_least)
