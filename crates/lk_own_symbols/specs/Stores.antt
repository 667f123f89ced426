-- Values that are kept by symbol in a list of options, each beside other things or alone. The lemma is for the types that keep them so.
use Rattle.std.specs.Prelude.{◌≡◌, ℕ, zero, suc, ◌==◌, Bool, true, false, if◌then◌else◌, List, [], ◌∷◌, Option, Some, None, option_map}
use Rattle.std.specs.List.{slice_index_or, slice_set}
use Rattle.std.proofs.Common.{◌∙◌, ap, arith, refl, sym}
use Rattle.std.proofs.lemmas.Bool.Decides.{nat_tests}
use Rattle.lk_own_symbols.specs.Redirects.{SetsAlone}

-- the value of what is kept for a symbol, if anything is
abbrev pub kept_value : {A : Type 0} → (A → ℕ) → List (Option A) → ℕ → Option ℕ
kept_value value kept s = option_map value (slice_index_or kept s None)

-- the same with another value there, if anything is kept
abbrev pub kept_with : {A : Type 0} → (A → ℕ → A) → List (Option A) → ℕ → ℕ → List (Option A)
kept_with changed kept s n = slice_set kept s (option_map (λ a. changed a n) (slice_index_or kept s None))

either : (b : Bool) (o : Option ℕ) → (if b then o else o) ≡ o
either true o = refl
either false o = refl

changed_value : {A : Type 0} (value : A → ℕ) (changed : A → ℕ → A) (o : Option A) (n : ℕ) → ((a : A) (m : ℕ) → value (changed a m) ≡ m)
    → option_map value (option_map (λ a. changed a n) o) ≡ option_map (λ _. n) (option_map value o)
changed_value value changed None n told = refl
changed_value value changed (Some a) n told = ap (λ (m : ℕ). Some m) (told a n)

same_behind : (t s : ℕ) → (suc t == suc s) ≡ (t == s)
same_behind t s = grind (arith, nat_tests)

none_first : (s : ℕ) → (zero == suc s) ≡ false
none_first s = grind (arith, nat_tests)

first_other : (t : ℕ) → (suc t == zero) ≡ false
first_other t = grind (arith, nat_tests)

-- it is that symbol's alone
pub kept_alone : {A : Type 0} (value : A → ℕ) (changed : A → ℕ → A) → ((a : A) (m : ℕ) → value (changed a m) ≡ m)
    → SetsAlone (record { value_of = kept_value value; with_value = kept_with changed })
kept_alone value changed told [] s n t = sym (either (t == s) None)
kept_alone value changed told (o ∷ os) zero n zero = changed_value value changed o n told
kept_alone value changed told (o ∷ os) zero n (suc t) =
    sym (ap (λ (b : Bool). if b then option_map (λ _. n) (kept_value value os t) else kept_value value os t) (first_other t))
kept_alone value changed told (o ∷ os) (suc s) n zero =
    sym (ap (λ (b : Bool). if b then option_map (λ _. n) (option_map value o) else option_map value o) (none_first s))
kept_alone value changed told (o ∷ os) (suc s) n (suc t) =
    kept_alone value changed told os s n t
    ∙ sym (ap (λ (b : Bool). if b then option_map (λ _. n) (kept_value value os t) else kept_value value os t) (same_behind t s))
