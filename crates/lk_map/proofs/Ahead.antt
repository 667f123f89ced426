-- The first words of a text, read where they stand.
use Rattle.std.proofs.Common.{◌≡◌, ◌≢◌, ℕ, suc, ◌+◌, ◌*◌, ◌-◌, ◌^◌, ◌<◌, ◌≤◌, true, false, List, [], ◌∷◌, ◌++◌, Option, Some, None, length, get_or, take, drop, refl, sym, ap, ◌∙◌, subst, arith, inl, inr}
use Rattle.std.specs.Prelude.{if◌then◌else◌, codes, option_map, IfSome}
use Rattle.std.specs.Borrow.{Bor}
use Rattle.std.specs.Fmt.{digit_glyph, digits}
use Rattle.std.specs.List.{All}
use Rattle.std.specs.Str.{bytes_eq}
use Rattle.std.specs.Str.Parse.{digits_value}
use Rattle.std.proofs.Math.Nat.{add-mul, mul-le-mul_right, one-mul, pow-le-pow_right, pow-suc}
use Rattle.std.proofs.lemmas.Bool.{cases_Bool}
use Rattle.std.proofs.lemmas.Bool.Decides.{nat_tests}
use Rattle.std.proofs.lemmas.Grind.{common_steps}
use Rattle.std.proofs.lemmas.List.{append-nil, append_assoc, drop_more, get_or-take, length-take-le, take-append-drop, take_rest}
use Rattle.std.proofs.lemmas.List.Elements.{All-append, All-cons, All-nil, All-weaker}
use Rattle.std.proofs.lemmas.List.Splits.{slice_split_at, slice_split_none}
use Rattle.std.proofs.lemmas.Slice.Eq.{bytes_eq-Decides}
use Rattle.lk_map.specs.declared.forms.Field.{Field}
use Rattle.lk_map.specs.declared.forms.Field.TheVariants as is
use Rattle.lk_map.specs.declared.forms.Word.{Word}
use Rattle.lk_map.specs.Ahead.{Begins, Opens, Says}
use Rattle.lk_map.specs.Cutting.{is_byte}
use Rattle.lk_map.specs.Digits.{AreDigitsIn, IsDigitIn}
use Rattle.lk_map.specs.Forms.{word_text}
use Rattle.lk_map.specs.Numbers.{address_in, number_in}
use Rattle.lk_map.specs.Reading.{behind, joined, value_of, value_or_none, values_of, words_of}
use Rattle.lk_map.proofs.PlainDigits.{AreDigitsUpTo, number_told}
use Rattle.lk_map.proofs.WrittenMaps.{word_above}

-- ---- where a word ends

-- a text is what stands before a place, the byte there and what stands behind it
parts_there : (stop : ℕ) (text : List ℕ) (n : ℕ) → n < length text → get_or text n 0 ≡ stop → text ≡ take n text ++ stop ∷ take (length text - (n + 1)) (drop (n + 1) text)
parts_there stop text n below is =
    sym (ap (λ ys. take n text ++ ys) (sym (drop_more text n 0 below)) ∙ take-append-drop n text)
    ∙ ap (λ b. take n text ++ b ∷ drop (n + 1) text) is
    ∙ ap (λ ys. take n text ++ stop ∷ ys) (sym (take_rest text (n + 1)))

not_this : (byte x : ℕ) → byte ≤ 32 → 32 < x → is_byte byte x ≡ false
not_this byte x low high = grind (arith, nat_tests)

pub free : (byte : ℕ) → byte ≤ 32 → (xs : List ℕ) → All (λ x. 32 < x) xs → All (λ x. is_byte byte x ≡ false) xs
free byte low xs high = All-weaker (λ x. 32 < x) (λ x. is_byte byte x ≡ false) (λ x h. not_this byte x low h) xs high

-- ---- digits

pub glyph_high : (d : ℕ) → d < 16 → 32 < digit_glyph false d
glyph_high d h = grind (arith, nat_tests)

-- no blank and no line feed is among digits
digits_above : (base : ℕ) (word : List ℕ) → base ≤ 16 → AreDigitsIn base word → All (λ x. 32 < x) word
digits_above base word high are i e below =
    let (d, small, is) = are i below in
    let same : get_or word i e ≡ get_or word i 0 = grind (arith, common_steps) in
    subst (λ x. 32 < x) (sym (same ∙ is)) (glyph_high d (omega (arith, small, high)))

pub digits_taken : (base : ℕ) (text : List ℕ) (n : ℕ) → AreDigitsUpTo base text n → AreDigitsIn base (take n text)
digits_taken base text n are i below =
    let within : i < n = grind (arith, common_steps) in
    let same : get_or (take n text) i 0 ≡ get_or text i 0 = grind (arith, common_steps) in
    subst (λ x. IsDigitIn base x) (sym same) (are i within)

-- one more digit stays below the next power
pub grows : (base value digit n : ℕ) → value < base ^ n → digit < base → value * base + digit < base ^ (n + 1)
grows base value digit n small low =
    let more : (value + 1) * base ≤ base ^ n * base = mul-le-mul_right base (omega arith) in
    let same : n + 1 ≡ suc n = omega arith in
    let next : base ^ (n + 1) ≡ base ^ n * base = ap (λ k. base ^ k) same ∙ pow-suc base n in
    let parts : (value + 1) * base ≡ value * base + base = add-mul value 1 base ∙ rw one-mul refl in
    omega (arith, more, next, parts, low)

-- and so in 64 bits
pub fits_next : (base value digit n most : ℕ) → value < base ^ n → digit < base → n < most → base ^ most ≤ 2 ^ 64 → value * base + digit < 2 ^ 64
fits_next base value digit n most small low below fits =
    let next = grows base value digit n small low in
    let up : base ^ (n + 1) ≤ base ^ most = pow-le-pow_right {n = base} (omega arith) (omega arith) in
    omega (arith, next, up, fits)

-- ---- a number

module _ (base : ℕ) (low : 2 ≤ base) (high : base ≤ 16) (text : List ℕ) (n number : ℕ) (are : AreDigitsIn base (take n text)) (is : digits_value base (take n text) ≡ number) (small : number < 2 ^ 64) (some : 0 < n) (first : 1 < n → get_or text 0 0 ≢ 48) where
  number_here : n ≤ length text → number_in base (take n text) ≡ Some number
  number_here within =
      let long : length (take n text) ≡ n = length-take-le n text within in
      let same : get_or (take n text) 0 0 ≡ get_or text 0 0 = get_or-take n text 0 0 some in
      sym (number_told base low high (take n text) (Some number) (omega (arith, long, some)) (λ more zero. first (omega (arith, long, more)) (sym same ∙ zero)) (are, is, small))

  pub number_begins : (stop : ℕ) → n < length text → get_or text n 0 ≡ stop → Begins stop text (take (length text - (n + 1)) (drop (n + 1) text)) (λ word. number_in base word ≡ Some number)
  number_begins stop below at = (take n text, parts_there stop text n below at, digits_above base (take n text) high are, number_here (omega (arith, below)))

-- ---- an address

two_first : (text : List ℕ) → 2 ≤ length text → get_or text 0 0 ≡ 48 → get_or text 1 0 ≡ 120 → text ≡ 48 ∷ 120 ∷ drop 2 text
two_first [] long one other = absurd (omega arith)
two_first (a ∷ []) long one other = absurd (omega arith)
two_first (a ∷ b ∷ rest) long one other = cc

address_begins : (stop : ℕ) (text left : List ℕ) (number : ℕ) → 2 ≤ length text → get_or text 0 0 ≡ 48 → get_or text 1 0 ≡ 120 →
    Begins stop (take (length text - 2) (drop 2 text)) left (λ word. number_in 16 word ≡ Some number) → Begins stop text left (λ word. address_in word ≡ Some number)
unfolding address_in
address_begins stop text left number long one other (word, parts, high, says) = (
  48 ∷ 120 ∷ word,
  two_first text long one other ∙ ap (λ ys. 48 ∷ 120 ∷ ys) (sym (take_rest text 2) ∙ parts),
  All-cons (λ x. 32 < x) 48 (120 ∷ word) (omega arith) (All-cons (λ x. 32 < x) 120 word (omega arith) high),
  says,
)

pub address_found : (stop : ℕ) (text : List ℕ) (found : Option (ℕ × Bor (List ℕ))) → 2 ≤ length text → get_or text 0 0 ≡ 48 → get_or text 1 0 ≡ 120 →
    IfSome found (λ f. Begins stop (take (length text - 2) (drop 2 text)) f.1.now (λ word. number_in 16 word ≡ Some f.0)) → IfSome found (λ f. Begins stop text f.1.now (λ word. address_in word ≡ Some f.0))
address_found stop text None long one other h = h
address_found stop text (Some f) long one other h = address_begins stop text f.1.now f.0 long one other h

-- ---- a dash

pub dash_begins : (stop : ℕ) (text : List ℕ) → 2 ≤ length text → get_or text 0 0 ≡ 45 → get_or text 1 0 ≡ stop → Begins stop text (take (length text - 2) (drop 2 text)) (λ word. word ≡ codes "-")
dash_begins stop [] some is at = absurd (omega arith)
dash_begins stop (a ∷ rest) some is at = (
  codes "-",
  parts_there stop (a ∷ rest) 1 (omega (arith, some)) at ∙ ap (λ b. b ∷ stop ∷ take (length (a ∷ rest) - 2) (drop 2 (a ∷ rest))) is,
  All-cons (λ x. 32 < x) 45 [] (omega arith) (All-nil (λ x. 32 < x)),
  refl,
)

-- ---- what a word says in a field

module _ (stop : ℕ) (text rest : List ℕ) where
  -- a text begins with a word that has these values in a field
  abbrev Fits : Field → List (Option ℕ) → Type 0
  Fits field values = Begins stop text rest (λ word. value_of field word ≡ Some values)

  dash_in : (read : List ℕ → Option ℕ) (word : List ℕ) → word ≡ codes "-" → value_or_none read word ≡ Some (None ∷ [])
  dash_in read word dash =
      let yes : bytes_eq word (codes "-") ≡ true = (bytes_eq-Decides word (codes "-")).1 dash in
      ap (λ b. if b then Some (None ∷ []) else option_map (λ n. Some n ∷ []) (read word)) yes

  pub dash_for_number : Begins stop text rest (λ word. word ≡ codes "-") → Fits is.NumberOrNone (None ∷ [])
  unfolding value_of
  dash_for_number (word, parts, high, dash) = (word, parts, high, dash_in (number_in 10) word dash)

  pub dash_for_address : Begins stop text rest (λ word. word ≡ codes "-") → Fits is.AddressOrNone (None ∷ [])
  unfolding value_of
  dash_for_address (word, parts, high, dash) = (word, parts, high, dash_in address_in word dash)

  module _ (number : ℕ) where
    put_in : (o : Option ℕ) → o ≡ Some number → option_map (λ n. Some n ∷ []) o ≡ Some (Some number ∷ [])
    put_in o is = ap (option_map (λ n. Some n ∷ [])) is

    put_in_or_none : (read : List ℕ → Option ℕ) → read (codes "-") ≡ None → (word : List ℕ) → read word ≡ Some number → value_or_none read word ≡ Some (Some number ∷ [])
    put_in_or_none read none word is =
        elim (cases_Bool (bytes_eq word (codes "-"))) [
          | inl dash ↦
              let same : word ≡ codes "-" = (bytes_eq-Decides word (codes "-")).0 dash in
              let both : None ≡ Some number = sym none ∙ ap read (sym same) ∙ is in
              cc
          | inr other ↦ ap (λ b. if b then Some (None ∷ []) else option_map (λ n. Some n ∷ []) (read word)) other ∙ put_in (read word) is
        ]

    pub fits_number : Begins stop text rest (λ word. number_in 10 word ≡ Some number) → Fits is.Number (Some number ∷ [])
    unfolding value_of
    fits_number (word, parts, high, says) = (word, parts, high, put_in (number_in 10 word) says)

    pub fits_number_or_none : Begins stop text rest (λ word. number_in 10 word ≡ Some number) → Fits is.NumberOrNone (Some number ∷ [])
    unfolding value_of number_in digits
    fits_number_or_none (word, parts, high, says) = (word, parts, high, put_in_or_none (number_in 10) refl word says)

    pub fits_address : Begins stop text rest (λ word. address_in word ≡ Some number) → Fits is.Address (Some number ∷ [])
    unfolding value_of
    fits_address (word, parts, high, says) = (word, parts, high, put_in (address_in word) says)

    pub fits_address_or_none : Begins stop text rest (λ word. address_in word ≡ Some number) → Fits is.AddressOrNone (Some number ∷ [])
    unfolding value_of address_in
    fits_address_or_none (word, parts, high, says) = (word, parts, high, put_in_or_none address_in refl word says)

-- ---- a line, field by field

-- a field in front of others
pub opens : (field : Field) (text rest : List ℕ) (values : List (Option ℕ)) → Begins 32 text rest (λ word. value_of field word ≡ Some values) → Opens (field ∷ []) text values rest
unfolding values_of joined
opens field text rest values (word, is, high, says) more others end (line, at, clear, told) = (
  word ++ 32 ∷ line,
  is ∙ ap (λ ys. word ++ 32 ∷ ys) at ∙ sym (append_assoc word (32 ∷ line) (10 ∷ end)),
  All-append (λ x. is_byte 10 x ≡ false) word (32 ∷ line) (free 10 (omega arith) word high) (All-cons (λ x. is_byte 10 x ≡ false) 32 line refl clear),
  ap (values_of (field ∷ more)) (slice_split_at (is_byte 32) word 32 line (free 32 (omega arith) word high) refl)
      ∙ ap (λ o. joined o (values_of more (words_of line))) says
      ∙ ap (behind values) told,
)

-- the last field
pub closes : (field : Field) (text rest : List ℕ) (values : List (Option ℕ)) → Begins 10 text rest (λ word. value_of field word ≡ Some values) → Says (field ∷ []) text values rest
unfolding values_of joined
closes field text rest values (word, is, high, says) = (
  word,
  is,
  free 10 (omega arith) word high,
  ap (values_of (field ∷ [])) (slice_split_none (is_byte 32) word (free 32 (omega arith) word high)) ∙ ap (λ o. joined o (Some [])) says ∙ ap Some (append-nil values),
)

-- ---- a word of a form

module _ (w : Word) (text word left : List ℕ) (same : word ≡ word_text w) (parts : text ≡ word ++ left) (some : 0 < length left) (blank : get_or left 0 0 ≡ 32) where
  pub word_begins : Begins 32 text (take (length left - 1) (drop 1 left)) (λ ys. value_of (is.Word w) ys ≡ Some [])
  unfolding value_of
  word_begins =
      let yes : bytes_eq word (word_text w) ≡ true = (bytes_eq-Decides word (word_text w)).1 same in (
        word,
        parts ∙ ap (λ ys. word ++ ys) (parts_there 32 left 0 some blank),
        subst (λ ys. All (λ x. 32 < x) ys) (sym same) (word_above w),
        ap (λ b. if b then Some [] else None) yes,
      )

  pub word_opens : Opens (is.Word w ∷ []) text [] (take (length left - 1) (drop 1 left))
  word_opens = opens (is.Word w) text (take (length left - 1) (drop 1 left)) [] word_begins
