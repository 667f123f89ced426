-- Digits in lower case with no zero in front are what is written of their number.
use Rattle.std.proofs.Common.{◌≡◌, ◌≢◌, ℕ, suc, zero, ◌+◌, ◌*◌, ◌-◌, ◌/◌, ◌%◌, ◌^◌, ◌<◌, ◌≤◌, true, false, List, [], ◌∷◌, ◌++◌, Option, Some, None, length, get_or, take, refl, sym, ap, ◌∙◌, subst, arith, inl, inr}
use Rattle.std.specs.Prelude.{◌&&◌, ◌==◌, nat_lt, MatchOption, if◌then◌else◌}
use Rattle.std.specs.Fmt.{digit_glyph, digits, digits_onto}
use Rattle.std.specs.List.{All}
use Rattle.std.specs.Str.{bytes_eq}
use Rattle.std.specs.Str.Parse.{digits_value}
use Rattle.std.proofs.lemmas.Bool.{and_parts, cases_Bool, cases_lt}
use Rattle.std.proofs.lemmas.Bool.Decides.{nat_tests}
use Rattle.std.proofs.lemmas.List.{length-append, take_more, take_all}
use Rattle.std.proofs.lemmas.List.Elements.{All-cons, All-nil}
use Rattle.std.proofs.lemmas.Nat.{div-mul-add}
use Rattle.std.proofs.lemmas.Slice.Eq.{bytes_eq-Decides}
use Rattle.std.proofs.Math.Nat.{div-eq_of_lt, div-lt_iff_lt-mul, lt-div-mul-add, mod-eq_of_lt, mod-lt, mul-add-mod_self_right, mul-le-mul_left, one-mul, pow-le-pow_left, pow-suc, pow-zero, zero-div}
use Rattle.std.specs.Char.{digit_value}
use Rattle.lk_map.specs.Digits.{AreDigitsIn, IsDigitIn}
use Rattle.lk_map.specs.Numbers.{number_in}
use Rattle.lk_map.proofs.Digits.{front_last, front_more, one_more, value_more, written_push}

-- a digit's byte counts as it
glyph_value : (d : ℕ) → d < 16 → digit_value (digit_glyph false d) ≡ d
glyph_value d h = grind (arith, nat_tests)

-- the byte of no digit but 0 is `0`
glyph_zero : (d : ℕ) → 0 < d → digit_glyph false d ≢ 48
glyph_zero d h is = grind (arith, nat_tests)

-- ---- digit by digit

-- the first n bytes of a word are digits
abbrev pub AreDigitsUpTo : ℕ → List ℕ → ℕ → Type 0
AreDigitsUpTo base word n = (i : ℕ) → i < n → IsDigitIn base (get_or word i 0)

pub digits_more : (base : ℕ) (word : List ℕ) (n : ℕ) → AreDigitsUpTo base word n → IsDigitIn base (get_or word n 0) → AreDigitsUpTo base word (n + 1)
digits_more base word n before one i below =
    elim (cases_lt i n) [ inl less ↦ before i less | inr same ↦ let is : n ≡ i = omega arith in subst (λ k. IsDigitIn base (get_or word k 0)) is one ]

-- at the end of the word all are, and the value is the word's
pub digits_whole : (base : ℕ) (word : List ℕ) (n value : ℕ) → length word ≤ n → AreDigitsUpTo base word n → digits_value base (take n word) ≡ value → value < 2 ^ 64
    → AreDigitsIn base word × (digits_value base word ≡ value) × (value < 2 ^ 64)
digits_whole base word n value all before is small =
    (λ i below. before i (omega (arith, all, below)), ap (digits_value base) (sym (take_all n word all)) ∙ is, small)

module _ (base : ℕ) (low : 2 ≤ base) (high : base ≤ 16) where
  -- ---- what is written

  -- digits alone
  written_digits : (turns n : ℕ) (acc : List ℕ) → All (IsDigitIn base) acc → All (IsDigitIn base) (digits_onto turns base false n acc)
  written_digits zero n acc h = h
  written_digits (suc turns) n acc h =
      let glyph : ℕ = digit_glyph false (n % base) in
      let more : All (IsDigitIn base) (glyph ∷ acc) = All-cons (IsDigitIn base) glyph acc (n % base, mod-lt n (omega arith), refl) h in
      elim (n / base == 0) as (λ b. All (IsDigitIn base) (if b then glyph ∷ acc else digits_onto turns base false (n / base) (glyph ∷ acc))) [
        | true ↦ more
        | false ↦ written_digits turns (n / base) (glyph ∷ acc) more
      ]

  -- the first is no zero, but where the number is one
  Leads : ℕ → List ℕ → Type 0
  Leads n ds = (x : ℕ) × (xs : List ℕ) × (ds ≡ x ∷ xs) × (0 < n → x ≢ 48) × (n ≡ 0 → xs ≡ [])

  below_base : (n : ℕ) → n / base ≡ 0 → n < base
  below_base n none =
      let whole : n / base * base ≡ 0 * base = ap (λ m. m * base) none in
      omega (arith, lt-div-mul-add {a = n} {b = base} (omega arith), whole)

  leads_one : (turns n : ℕ) → n / base ≡ 0 → Leads n (digits_onto (suc turns) base false n [])
  unfolding Leads
  leads_one turns n none =
      let last : n % base ≡ n = mod-eq_of_lt (below_base n none) in (
        digit_glyph false (n % base),
        [],
        written_push base turns n ∙ ap (λ ds. ds ++ digit_glyph false (n % base) ∷ []) (front_last base turns n none),
        λ some is. glyph_zero n some (ap (digit_glyph false) (sym last) ∙ is),
        λ is. refl,
      )

  leads_more : (turns n : ℕ) → 0 < n / base → Leads (n / base) (digits_onto turns base false (n / base) []) → Leads n (digits_onto (suc turns) base false n [])
  unfolding Leads
  leads_more turns n some (x, xs, is, first, only) = (
    x,
    xs ++ digit_glyph false (n % base) ∷ [],
    written_push base turns n ∙ ap (λ ds. ds ++ digit_glyph false (n % base) ∷ []) (front_more base turns n some ∙ is),
    λ any. first some,
    λ none. let no : n / base ≡ 0 = ap (λ m. m / base) none ∙ zero-div base in absurd (omega (arith, some, no)),
  )

  fits_shorter : (turns n : ℕ) → n < base ^ suc (suc turns) → n / base < base ^ suc turns
  fits_shorter turns n fits = (div-lt_iff_lt-mul {k = base} {x = n} {y = base ^ suc turns} (omega arith)).1 (rw (sym (pow-suc base (suc turns))) fits)

  leads : (turns n : ℕ) → n < base ^ suc turns → Leads n (digits_onto (suc turns) base false n [])
  leads zero n fits =
      elim (cases_lt 0 (n / base)) [
        | inr none ↦ leads_one 0 n (omega arith)
        | inl some ↦ let (t, other) = one_more base n zero low fits some in absurd (omega (arith, other))
      ]
  leads (suc turns) n fits =
      elim (cases_lt 0 (n / base)) [
        | inr none ↦ leads_one (suc turns) n (omega arith)
        | inl some ↦ leads_more (suc turns) n some (leads turns (n / base) (fits_shorter turns n fits))
      ]

  fits_64 : (n : ℕ) → n < 2 ^ 64 → n < base ^ 64
  fits_64 n small = let h : 2 ^ 64 ≤ base ^ 64 = pow-le-pow_left low 64 in omega (arith, small, h)

  -- what is written of a number of 64 bits: digits, at least one, and no zero in front of others
  pub number_plain : (word : List ℕ) (n : ℕ) → word ≡ digits base false n → n < 2 ^ 64 → AreDigitsIn base word × (0 < length word) × (1 < length word → get_or word 0 0 ≢ 48)
  unfolding digits Leads
  number_plain word n is small =
      let fits : n < base ^ 64 = fits_64 n small in
      let all = written_digits 64 n [] (All-nil (IsDigitIn base)) in
      let (x, xs, ds, first, only) = leads 63 n fits in
      let shape : word ≡ x ∷ xs = is ∙ ds in
      let long : length word ≡ length (x ∷ xs) = ap length shape in (
        λ i below. subst (λ ds. IsDigitIn base (get_or ds i 0)) (sym is) (all i 0 (subst (λ ds. i < length ds) is below)),
        omega (arith, long),
        λ more zero_first.
            let head : x ≡ 48 = sym (ap (λ ys. get_or ys 0 0) shape) ∙ zero_first in
            elim (cases_lt 0 n) [
              | inl some ↦ first some head
              | inr none ↦ (let nothing : length xs ≡ 0 = ap length (only (omega arith)) in omega (arith, more, long, nothing))
            ],
      )

  -- a number below a power has no more digits than that
  one_digit : (turns n : ℕ) → n / base ≡ 0 → length (digits_onto (suc turns) base false n []) ≡ 1
  one_digit turns n none = ap length (written_push base turns n ∙ ap (λ ds. ds ++ digit_glyph false (n % base) ∷ []) (front_last base turns n none))

  short_onto : (k turns n : ℕ) → n < base ^ suc k → length (digits_onto turns base false n []) ≤ suc k
  short_onto k zero n small = omega arith
  short_onto zero (suc turns) n small =
      let below : n < base = rw (pow-suc, pow-zero, one-mul) at small in
      let one = one_digit turns n (div-eq_of_lt below) in
      omega (arith, one)
  short_onto (suc k) (suc turns) n small =
      elim (cases_lt 0 (n / base)) [
        | inr none ↦ (let one = one_digit turns n (omega arith) in omega (arith, one))
        | inl some ↦
            let front : length (digits_onto turns base false (n / base) []) ≤ suc k = short_onto k turns (n / base) (fits_shorter k n small) in
            let whole = ap length (written_push base turns n ∙ ap (λ ds. ds ++ digit_glyph false (n % base) ∷ []) (front_more base turns n some)) ∙ length-append (digits_onto turns base false (n / base) []) (digit_glyph false (n % base) ∷ []) in
            omega (arith, front, whole)
      ]

  pub digits_short : (k n : ℕ) → n < base ^ suc k → length (digits base false n) ≤ suc k
  unfolding digits
  digits_short k n small = short_onto k 64 n small

  -- ---- what is read

  module _ (word : List ℕ) (are : AreDigitsIn base word) where
    -- the value of the first digits
    abbrev value : ℕ → ℕ
    value n = digits_value base (take n word)

    -- a digit's place in its value
    counts : (i : ℕ) → i < length word → (d : ℕ) × (d < base) × (get_or word i 0 ≡ digit_glyph false d) × (value (i + 1) ≡ value i * base + d)
    counts i below =
        let (d, small, is) = are i below in
        (d, small, is, value_more base word i below ∙ ap (λ x. value i * base + x) (ap digit_value is ∙ glyph_value d (omega (arith, small, high))))

    -- where the first is no zero, no value is
    some_value : get_or word 0 0 ≢ 48 → (n : ℕ) → n < length word → 0 < value (n + 1)
    some_value first zero below =
        let (d, small, is, more) = counts 0 below in
        elim (cases_lt 0 d) [ inl some ↦ omega (arith, more, some) | inr none ↦ absurd (first (is ∙ ap (digit_glyph false) (let no : d ≡ 0 = omega arith in no))) ]
    some_value first (suc n) below =
        let (d, small, is, more) = counts (suc n) below in
        let before : 0 < value (n + 1) = some_value first n (omega arith) in
        let next : n + 1 ≡ suc n = omega arith in
        let same : value (n + 1) ≡ value (suc n) = ap value next in
        let grows : value (suc n) * 1 ≤ value (suc n) * base = mul-le-mul_left (value (suc n)) (omega arith) in
        omega (arith, before, same, grows, more)

    -- the first n + 1 digits are what is written of their value
    again : (n turns : ℕ) → n < length word → (0 < n → get_or word 0 0 ≢ 48) → value (n + 1) < base ^ suc turns → digits_onto (suc turns) base false (value (n + 1)) [] ≡ take (n + 1) word
    again zero turns below first fits =
        let (d, small, is, more) = counts 0 below in
        let same : value 1 ≡ d = omega (arith, more) in
        ap (λ v. digits_onto (suc turns) base false v []) same
        ∙ written_push base turns d
        ∙ ap (λ ds. ds ++ digit_glyph false (d % base) ∷ []) (front_last base turns d (div-eq_of_lt small))
        ∙ ap (λ x. x ∷ []) (ap (digit_glyph false) (mod-eq_of_lt small) ∙ sym is)
        ∙ sym (take_more word 0 0 below)
    again (suc n) turns below first fits =
        let (d, small, is, more) = counts (suc n) below in
        let same : n + 1 ≡ suc n = omega arith in
        let whole : ℕ = value (suc n + 1) in
        let some : 0 < value (suc n) = subst (λ m. 0 < value m) same (some_value (first (omega arith)) n (omega arith)) in
        let front_is : whole / base ≡ value (suc n) = ap (λ m. m / base) more ∙ div-mul-add (value (suc n)) base d small in
        let last_is : whole % base ≡ d = ap (λ m. m % base) more ∙ mul-add-mod_self_right (value (suc n)) base d ∙ mod-eq_of_lt small in
        let (t, turned) = one_more base whole turns low fits (subst (λ m. 0 < m) (sym front_is) some) in
        let shorter : value (n + 1) < base ^ suc t = subst (λ m. m < base ^ suc t) (front_is ∙ sym (ap value same)) (fits_shorter t whole (subst (λ k. whole < base ^ suc k) turned fits)) in
        written_push base turns whole
        ∙ ap (λ ds. ds ++ digit_glyph false (whole % base) ∷ []) (front_more base turns whole (subst (λ m. 0 < m) (sym front_is) some) ∙ ap (λ k. digits_onto k base false (whole / base) []) turned ∙ ap (λ m. digits_onto (suc t) base false m []) (front_is ∙ sym (ap value same)) ∙ again n t (omega arith) (λ any. first (omega arith)) shorter ∙ ap (λ m. take m word) same)
        ∙ ap (λ x. take (suc n) word ++ x ∷ []) (ap (digit_glyph false) last_is ∙ sym is)
        ∙ sym (take_more word (suc n) 0 below)

  -- a word of digits that is no more than one, or has no zero in front, is what is written
  plain_is_written : (word : List ℕ) → AreDigitsIn base word → 0 < length word → (1 < length word → get_or word 0 0 ≢ 48) → digits_value base word < 2 ^ 64 → digits base false (digits_value base word) ≡ word
  unfolding digits
  plain_is_written word are some first small =
      let n : ℕ = length word - 1 in
      let end : n + 1 ≡ length word = omega (arith, some) in
      let whole : take (n + 1) word ≡ word = ap (λ k. take k word) end ∙ take_all (length word) word (omega arith) in
      let value : digits_value base (take (n + 1) word) ≡ digits_value base word = ap (digits_value base) whole in
      ap (λ v. digits_onto 64 base false v []) (sym value)
      ∙ again word are n 63 (omega (arith, end)) (λ more. first (omega (arith, end, more))) (subst (λ v. v < base ^ 64) (sym value) (fits_64 (digits_value base word) small))
      ∙ whole

  -- ---- numbers

  yes : (word : List ℕ) → digits base false (digits_value base word) ≡ word → digits_value base word < 2 ^ 64 → number_in base word ≡ Some (digits_value base word)
  unfolding number_in
  yes word is small =
      let same : bytes_eq word (digits base false (digits_value base word)) ≡ true = (bytes_eq-Decides word (digits base false (digits_value base word))).1 (sym is) in
      let fits : nat_lt (digits_value base word) (2 ^ 64) ≡ true = grind (arith, nat_tests) in
      ap (λ b. if b && bytes_eq word (digits base false (digits_value base word)) then Some (digits_value base word) else None) fits
      ∙ ap (λ b. if b then Some (digits_value base word) else None) same

  no : (word : List ℕ) → (word ≡ digits base false (digits_value base word) → digits_value base word < 2 ^ 64 → ⊥) → number_in base word ≡ None
  unfolding number_in
  no word other =
      let v : ℕ = digits_value base word in
      elim (cases_Bool (nat_lt v (2 ^ 64) && bytes_eq word (digits base false v))) [
        | inl both ↦
            let (fits, same) = and_parts (nat_lt v (2 ^ 64)) (bytes_eq word (digits base false v)) both in
            absurd (other ((bytes_eq-Decides word (digits base false v)).0 same) (grind (arith, nat_tests)))
        | inr not_both ↦ ap (λ b. if b then Some v else None) not_both
      ]

  number_read : (word : List ℕ) → AreDigitsIn base word → 0 < length word → (1 < length word → get_or word 0 0 ≢ 48) → (n : ℕ) → digits_value base word ≡ n → n < 2 ^ 64 → Some n ≡ number_in base word
  number_read word are some first n is small =
      let below : digits_value base word < 2 ^ 64 = omega (arith, is, small) in
      ap (λ (m : ℕ). Some m) (sym is) ∙ sym (yes word (plain_is_written word are some first below) below)

  -- no other word is one: with a byte that is no digit, or too large
  no_digits : (word : List ℕ) → (AreDigitsIn base word → 2 ^ 64 ≤ digits_value base word) → None ≡ number_in base word
  unfolding digits
  no_digits word large =
      let v : ℕ = digits_value base word in
      sym (no word (λ is small.
      let all = written_digits 64 v [] (All-nil (IsDigitIn base)) in
      let are : AreDigitsIn base word = λ i below. subst (λ ds. IsDigitIn base (get_or ds i 0)) (sym is) (all i 0 (subst (λ ds. i < length ds) is below)) in
      let past = large are in
      omega (arith, past, small)))

  -- what was told of a word's digits, where it isn't empty and has no zero in front
  pub number_told : (word : List ℕ) (told : Option ℕ) → 0 < length word → (1 < length word → get_or word 0 0 ≢ 48)
      → MatchOption told (AreDigitsIn base word → 2 ^ 64 ≤ digits_value base word) (λ n. AreDigitsIn base word × (digits_value base word ≡ n) × (n < 2 ^ 64)) → told ≡ number_in base word
  number_told word None some first large = no_digits word large
  number_told word (Some n) some first (are, is, small) = number_read word are some first n is small

  -- empty
  pub no_word : (word : List ℕ) → length word ≡ 0 → None ≡ number_in base word
  unfolding digits Leads
  no_word word empty =
      let v : ℕ = digits_value base word in
      sym (no word (λ is small.
      let (x, xs, ds, first, only) = leads 63 v (fits_64 v small) in
      let long : length word ≡ length (x ∷ xs) = ap length (is ∙ ds) in
      omega (arith, empty, long)))

  -- with a zero in front of others
  pub no_zeros : (word : List ℕ) → 1 < length word → get_or word 0 0 ≡ 48 → None ≡ number_in base word
  unfolding digits Leads
  no_zeros word more zero_first =
      let v : ℕ = digits_value base word in
      sym (no word (λ is small.
      let (x, xs, ds, first, only) = leads 63 v (fits_64 v small) in
      let head : x ≡ 48 = sym (ap (λ ys. get_or ys 0 0) (is ∙ ds)) ∙ zero_first in
      elim (cases_lt 0 v) [
        | inl some ↦ first some head
        | inr none ↦
            let one : length word ≡ length (x ∷ xs) = ap length (is ∙ ds) in
            let nothing : length xs ≡ 0 = ap length (only (omega arith)) in
            omega (arith, more, one, nothing)
      ]))
