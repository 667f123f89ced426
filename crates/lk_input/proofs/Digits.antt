-- What digits alone write.
use Rattle.std.proofs.Common.{◌≡◌, ℕ, zero, suc, ◌^◌, ◌<◌, List, [], ◌∷◌, ◌++◌, length, drop, slice_index, true, false, Option, Some, None, IfSome, if◌then◌else◌, pos, negsuc, neg_ℤ, ◌-ℤ◌, nat_lt, to_z, of_z, w64, refl, sym, ap, ◌∙◌, arith, append-nil, lt-ltb, le-leb, ne_eqb}
use Rattle.std.specs.Str.Parse.{AllDigits, digits_value}
use native.Mathlib.Numerals.{unary_clauses}
use Rattle.std.proofs.lemmas.Int.{to_z-of_z, to_z_pos}
use Rattle.std.proofs.lemmas.Float.Parse.{scan_numeral-text_of}
use Rattle.std.proofs.lemmas.Str.Parse.{digit_from_value}
use Rattle.fast_float.specs.Text.{scan, Parts}
use Rattle.serde_json.specs.Data.{unsigned, negative}
use Rattle.serde_json.specs.Find.{as_i64, as_u64}
use Rattle.serde_json.specs.Read.{number_from, number_of}
use Rattle.lk_input.specs.Plain.{IsDigits, Writes}

-- a numeral of digits alone
abbrev whole_part : List ℕ → Parts
whole_part s = record { whole = s; point = false; fraction = []; exponent_negative = false; exponent = []; len = length s }

scanned : (s : List ℕ) → AllDigits 10 s → scan s ≡ whole_part s
scanned s digits =
    rw append-nil at (scan_numeral-text_of (whole_part s)
    (record { whole_digits = digits; fraction_digits = tt; exponent_digits = tt; no_point = λ _. refl; no_exponent = λ _. refl; len_is = ap length (sym (append-nil s)) }))

whole_value : (s : List ℕ) (n : ℕ) → digits_value 10 s ≡ n → digits_value 10 (s ++ []) ≡ n
whole_value s n is = ap (digits_value 10) (append-nil s) ∙ is

-- the number of digits without a sign
number-plain : (s : List ℕ) (n : ℕ) → IsDigits s n → n < 2 ^ 63 → number_of s ≡ Some (unsigned n)
unfolding number_of
number-plain [] n is small = absurd (omega arith)
number-plain (d ∷ ds) n is small =
    let range = digit_from_value d is.0.1.0 in
    let below : nat_lt n (2 ^ 64) ≡ true = lt-ltb n (2 ^ 64) (omega arith) in
    rw (ne_eqb d 45 (λ e. omega arith), scanned (d ∷ ds) is.0.1, whole_value (d ∷ ds) n is.1, below, lt-ltb 0 (length (d ∷ ds)) (omega arith)) refl

-- and of digits behind a minus
negative-from : (s : List ℕ) (n : ℕ) → IsDigits s n → 0 < n → n < 2 ^ 63 → number_from true (scan s) ≡ Some (negative (neg_ℤ (pos n)))
negative-from [] n is some small = absurd (omega arith)
negative-from (d ∷ ds) n is some small =
    rw (scanned (d ∷ ds) is.0.1, whole_value (d ∷ ds) n is.1, lt-ltb 0 n some, le-leb n (2 ^ 63) (omega arith), lt-ltb 0 (length (d ∷ ds)) (omega arith)) refl

number-negative : (s : List ℕ) (n : ℕ) → slice_index s 0 ≡ 45 → IsDigits (drop 1 s) n → 0 < n → n < 2 ^ 63 → number_of s ≡ Some (negative (neg_ℤ (pos n)))
unfolding number_of
number-negative s n minus is some small = rw minus (negative-from (drop 1 s) n is some small)

zero-sub_pos : (k : ℕ) → pos 0 -ℤ pos (suc k) ≡ negsuc k
zero-sub_pos k = simp unary_clauses (rw (lt-ltb 0 (suc k) (omega arith)) refl)

negated : (n : ℕ) → 0 < n → n < 2 ^ 63 → to_z w64 (of_z w64 (pos 0 -ℤ to_z w64 n)) ≡ neg_ℤ (pos n)
negated zero some small = absurd (omega arith)
negated (suc k) some small =
    let less : pos 0 -ℤ to_z w64 (suc k) ≡ negsuc k = ap (λ z. pos 0 -ℤ z) (to_z_pos w64 (suc k) small) ∙ zero-sub_pos k in
    ap (λ z. to_z w64 (of_z w64 z)) less ∙ to_z-of_z w64 (negsuc k) (omega arith)

pub number-written : (s : List ℕ) (o : Option ℕ) → IfSome o (λ n. IsDigits s n × (n < 2 ^ 63)) → IfSome o (Writes as_u64 s)
number-written s None is = tt
number-written s (Some n) is = (unsigned n, number-plain s n is.0 is.1, refl)

pub plain-written : (s : List ℕ) (n : ℕ) → IsDigits s n → n < 2 ^ 63 → Writes as_i64 s (to_z w64 n)
plain-written s n is small = (unsigned n, number-plain s n is small, ap (λ b. if b then Some (pos n) else None) (lt-ltb n (2 ^ 63) small) ∙ ap Some (sym (to_z_pos w64 n small)))

pub negative-written : (s : List ℕ) (n : ℕ) → slice_index s 0 ≡ 45 → IsDigits (drop 1 s) n → 0 < n → n < 2 ^ 63 → Writes as_i64 s (to_z w64 (of_z w64 (pos 0 -ℤ to_z w64 n)))
negative-written s n minus is some small = (negative (neg_ℤ (pos n)), number-negative s n minus is some small, ap Some (sym (negated n some small)))
