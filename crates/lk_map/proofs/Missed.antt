-- What isn't found where it should stand isn't there.
use Rattle.std.proofs.Common.{◌≡◌, ◌≢◌, ℕ, ◌+◌, ◌-◌, ◌<◌, ◌≤◌, ◌⊎◌, false, List, [], ◌∷◌, ◌++◌, Option, Some, None, length, get_or, take, drop, refl, sym, ap, ◌∙◌, subst, arith, inl, inr}
use Rattle.std.specs.Prelude.{if◌then◌else◌, codes, option_map, IfNone}
use Rattle.std.specs.Fmt.{digits}
use Rattle.std.specs.List.{All}
use Rattle.std.specs.Str.{bytes_eq}
use Rattle.std.proofs.lemmas.Bool.{cases_Bool, cases_eq, cases_lt}
use Rattle.std.proofs.lemmas.Bool.Decides.{nat_tests}
use Rattle.std.proofs.lemmas.Grind.{common_steps}
use Rattle.std.proofs.lemmas.List.{append_assoc, append_cancel_left, get_or_append_left, get_or-append-add, length-append, take_rest}
use Rattle.std.proofs.lemmas.List.Elements.{All-cons, All-head, All-nil, All-tail}
use Rattle.std.proofs.lemmas.List.Splits.{length-slice_split, slice_split_at, slice_split_none}
use Rattle.lk_map.specs.declared.forms.Field.{Field}
use Rattle.lk_map.specs.declared.forms.Field.TheVariants as is
use Rattle.lk_map.specs.declared.forms.Word.{Word}
use Rattle.lk_map.specs.Ahead.{Begins, BeginsNot, OpensNot, OpensOnly, SaysNot}
use Rattle.lk_map.specs.Cutting.{is_byte}
use Rattle.lk_map.specs.Digits.{AreDigitsIn, IsDigitIn}
use Rattle.lk_map.specs.Forms.{word_text}
use Rattle.lk_map.specs.Numbers.{address_in, number_in}
use Rattle.lk_map.specs.Reading.{behind, joined, value_of, value_or_none, values_of, words_of}
use Rattle.lk_map.proofs.Ahead.{free, glyph_high}
use Rattle.lk_map.proofs.PlainDigits.{digits_short, number_plain}
use Rattle.lk_map.proofs.Spelled.{address_is, number_again, number_is, text_is}

pub none_if : {A : Type 0} (o : Option A) → ((x : A) → o ≡ Some x → ⊥) → o ≡ None
none_if None h = refl
none_if (Some x) h = absurd (h x refl)

-- ---- a number

low_is_none : (base x : ℕ) → base ≤ 16 → x ≤ 32 → IsDigitIn base x → ⊥
low_is_none base x high low (d, small, is) = let above = glyph_high d (omega (arith, small, high)) in omega (arith, above, is, low)

-- a number and the byte that ends it stand first, and so many digits are counted
module _ (base : ℕ) (low : 2 ≤ base) (high : base ≤ 16) (most stop : ℕ) (text : List ℕ) (count : ℕ) (within : count ≤ length text) (taken : AreDigitsIn base (take count text))
    (all : count < length text → count < most → ¬ IsDigitIn base (get_or text count 0)) (blank : stop ≤ 32)
    (word rest : List ℕ) (parts : text ≡ word ++ stop ∷ rest) (short : length word ≤ most) (n : ℕ) (says : number_in base word ≡ Some n) where
  long : length text ≡ length word + (length rest + 1)
  long = ap length parts ∙ length-append word (stop ∷ rest) ∙ (omega arith)

  in_word : (i : ℕ) → i < length word → get_or text i 0 ≡ get_or word i 0
  in_word i below = ap (λ ys. get_or ys i 0) parts ∙ get_or_append_left word (stop ∷ rest) 0 i below

  behind_word : get_or text (length word) 0 ≡ stop
  behind_word = ap (λ ys. get_or ys (length word) 0) parts ∙ ap (λ k. get_or (word ++ stop ∷ rest) k 0) (omega arith) ∙ get_or-append-add word (stop ∷ rest) 0 0

  -- all of its digits are
  counted : count ≡ length word
  counted =
      let (are, some, first) = number_plain base low high word n (number_is base word n says).0 (number_is base word n says).1 in
      elim (cases_lt count (length word)) [
        | inl less ↦ absurd (all (omega (arith, less, long)) (omega (arith, less, short)) (subst (IsDigitIn base) (sym (in_word count less)) (are count less)))
        | inr no_less ↦
            elim (cases_lt (length word) count) [
              | inl more ↦
                  let there : IsDigitIn base (get_or (take count text) (length word) 0) = taken (length word) (grind (arith, common_steps)) in
                  let same : get_or (take count text) (length word) 0 ≡ get_or text (length word) 0 = grind (arith, common_steps) in
                  absurd (low_is_none base stop high blank (subst (IsDigitIn base) (same ∙ behind_word) there))
              | inr no_more ↦ omega arith
            ]
      ]

  pub counts_some : 0 < count
  counts_some = let (are, some, first) = number_plain base low high word n (number_is base word n says).0 (number_is base word n says).1 in let same = counted in omega (arith, some, same)

  pub counts_within : count < length text
  counts_within = let same = counted in let whole = long in omega (arith, same, whole)

  pub counts_plain : 1 < count → get_or text 0 0 ≢ 48
  counts_plain more zero_first =
      let (are, some, first) = number_plain base low high word n (number_is base word n says).0 (number_is base word n says).1 in
      let same = counted in
      first (omega (arith, more, same)) (sym (in_word 0 some) ∙ zero_first)

  pub counts_up_to : get_or text count 0 ≡ stop
  counts_up_to = ap (λ k. get_or text k 0) counted ∙ behind_word

-- ---- an address

-- an address is `0x` and at most 16 digits
address_parts : (word : List ℕ) (n : ℕ) → address_in word ≡ Some n → (ds : List ℕ) × (word ≡ 48 ∷ 120 ∷ ds) × (length ds ≤ 16) × (number_in 16 ds ≡ Some n)
address_parts word n says =
    let (is, small) = address_is word n says in
    (digits 16 false n, is, digits_short 16 (omega arith) (omega arith) 15 n small, number_again 16 n (omega arith) (omega arith) small)

-- a text that begins with one begins with `0x`
pub address_front : (stop : ℕ) (text word rest : List ℕ) (n : ℕ) → text ≡ word ++ stop ∷ rest → address_in word ≡ Some n → (2 ≤ length text) × (get_or text 0 0 ≡ 48) × (get_or text 1 0 ≡ 120)
address_front stop text word rest n parts says =
    let (ds, is, short, number) = address_parts word n says in
    let shape : text ≡ 48 ∷ 120 ∷ (ds ++ stop ∷ rest) = parts ∙ ap (λ ys. ys ++ stop ∷ rest) is in
    let long : length text ≡ length (48 ∷ 120 ∷ (ds ++ stop ∷ rest)) = ap length shape in
    (omega (arith, long), ap (λ ys. get_or ys 0 0) shape, ap (λ ys. get_or ys 1 0) shape)

-- and with the number behind that
pub address_missed : {A : Type 0} (stop : ℕ) (text : List ℕ) (found : Option A) → IfNone found (BeginsNot 16 stop (take (length text - 2) (drop 2 text)) (number_in 16))
    → IfNone found ((word rest : List ℕ) → text ≡ word ++ stop ∷ rest → address_in word ≡ None)
address_missed stop text (Some x) h = h
address_missed stop text None h = λ word rest parts. none_if (address_in word) (λ n says.
    let (ds, is, short, number) = address_parts word n says in
    let behind : take (length text - 2) (drop 2 text) ≡ ds ++ stop ∷ rest = take_rest text 2 ∙ ap (drop 2) (parts ∙ ap (λ ys. ys ++ stop ∷ rest) is) in
    let both : None ≡ Some n = sym (h ds rest behind short) ∙ number in
    cc)

-- ---- what a word says in a field

module _ (stop : ℕ) (text : List ℕ) where
  -- no word stands first that says something in a field
  abbrev pub Absent : Field → Type 0
  Absent field = (word rest : List ℕ) → text ≡ word ++ stop ∷ rest → length word ≤ 19 → value_of field word ≡ None

  nothing_put : (o : Option ℕ) → o ≡ None → option_map (λ n. Some n ∷ []) o ≡ None
  nothing_put o is = ap (option_map (λ n. Some n ∷ [])) is

  neither : (read : List ℕ → Option ℕ) (word : List ℕ) → (word ≡ codes "-" → ⊥) → read word ≡ None → value_or_none read word ≡ None
  neither read word other none =
      elim (cases_Bool (bytes_eq word (codes "-"))) [
        | inl dash ↦ absurd (other (text_is word (codes "-") dash))
        | inr differs ↦ ap (λ b. if b then Some (None ∷ []) else option_map (λ n. Some n ∷ []) (read word)) differs ∙ nothing_put (read word) none
      ]

  pub no_number : BeginsNot 19 stop text (number_in 10) → Absent is.Number
  unfolding value_of
  no_number none word rest parts short = nothing_put (number_in 10 word) (none word rest parts short)

  pub no_address : ((word rest : List ℕ) → text ≡ word ++ stop ∷ rest → address_in word ≡ None) → Absent is.Address
  unfolding value_of
  no_address none word rest parts short = nothing_put (address_in word) (none word rest parts)

  module _ (no_dash : (rest : List ℕ) → text ≡ codes "-" ++ stop ∷ rest → ⊥) where
    other : (word rest : List ℕ) → text ≡ word ++ stop ∷ rest → word ≡ codes "-" → ⊥
    other word rest parts dash = no_dash rest (parts ∙ ap (λ ys. ys ++ stop ∷ rest) dash)

    pub no_number_or_none : BeginsNot 19 stop text (number_in 10) → Absent is.NumberOrNone
    unfolding value_of
    no_number_or_none none word rest parts short = neither (number_in 10) word (other word rest parts) (none word rest parts short)

    pub no_address_or_none : ((word rest : List ℕ) → text ≡ word ++ stop ∷ rest → address_in word ≡ None) → Absent is.AddressOrNone
    unfolding value_of
    no_address_or_none none word rest parts short = neither address_in word (other word rest parts) (none word rest parts)

pub no_word : (w : Word) (text : List ℕ) → ((rest : List ℕ) → text ≡ word_text w ++ 32 ∷ rest → ⊥) → Absent 32 text (is.Word w)
unfolding value_of
no_word w text missing word rest parts short =
    elim (cases_Bool (bytes_eq word (word_text w))) [
      | inl same ↦ absurd (missing rest (parts ∙ ap (λ ys. ys ++ 32 ∷ rest) (text_is word (word_text w) same)))
      | inr differs ↦ ap (λ b. if b then Some [] else None) differs
    ]

-- behind the word stands a blank
pub blank_behind : (word text left rest : List ℕ) → text ≡ word ++ left → text ≡ word ++ 32 ∷ rest → (0 < length left) × (get_or left 0 0 ≡ 32)
blank_behind word text left rest parts whole =
    let is : left ≡ 32 ∷ rest = append_cancel_left word left (32 ∷ rest) (sym parts ∙ whole) in
    let long : length left ≡ length (32 ∷ rest) = ap length is in
    (omega (arith, long), ap (λ ys. get_or ys 0 0) is)

-- ---- a line, field by field

joined_nothing : (o : Option (List (Option ℕ))) → joined o None ≡ None
unfolding joined
joined_nothing None = refl
joined_nothing (Some values) = refl

-- a line is one word, or has a first word and others
line_cases : (line : List ℕ) → All (λ x. is_byte 32 x ≡ false) line ⊎ ((word : List ℕ) × (left : List ℕ) × (line ≡ word ++ 32 ∷ left) × All (λ x. is_byte 32 x ≡ false) word)
line_cases [] = inl (All-nil (λ x. is_byte 32 x ≡ false))
line_cases (x ∷ line) =
    elim (cases_eq x 32) [
      | inl blank ↦ inr ([], line, ap (λ y. y ∷ line) blank, All-nil (λ x. is_byte 32 x ≡ false))
      | inr other ↦
          let here : is_byte 32 x ≡ false = grind (arith, nat_tests) in
          elim (line_cases line) [
            | inl all ↦ inl (All-cons (λ x. is_byte 32 x ≡ false) x line here all)
            | inr (word, left, is, all) ↦ inr (x ∷ word, left, ap (λ ys. x ∷ ys) is, All-cons (λ x. is_byte 32 x ≡ false) x word here all)
          ]
    ]

-- a text has one first word
same_first : (v w xs ys : List ℕ) → All (λ x. is_byte 32 x ≡ false) v → All (λ x. is_byte 32 x ≡ false) w → v ++ 32 ∷ xs ≡ w ++ 32 ∷ ys → xs ≡ ys
same_first [] [] xs ys one other same = cc
same_first [] (y ∷ w) xs ys one other same = let here : 32 ≡ y = cc in let apart = All-head (λ x. is_byte 32 x ≡ false) y w other in absurd (grind (arith, nat_tests))
same_first (x ∷ v) [] xs ys one other same = let here : x ≡ 32 = cc in let apart = All-head (λ x. is_byte 32 x ≡ false) x v one in absurd (grind (arith, nat_tests))
same_first (x ∷ v) (y ∷ w) xs ys one other same =
    let rest : v ++ 32 ∷ xs ≡ w ++ 32 ∷ ys = cc in
    same_first v w xs ys (All-tail (λ x. is_byte 32 x ≡ false) x v one) (All-tail (λ x. is_byte 32 x ≡ false) y w other) rest

module _ (field : Field) (text : List ℕ) where
  -- what stands behind the first word of a line of two fields or more decides
  behind_first : (next : Field) (more : List Field) →
      ((word left rest : List ℕ) → text ≡ word ++ 32 ∷ (left ++ 10 ∷ rest) → All (λ x. is_byte 32 x ≡ false) word → All (λ w. length w ≤ 19) (word ∷ words_of left) → joined (value_of field word) (values_of (next ∷ more) (words_of left)) ≡ None) →
      SaysNot (field ∷ next ∷ more) text
  unfolding values_of
  behind_first next more none line rest parts short =
      elim (line_cases line) [
        | inl one ↦ (let words : words_of line ≡ line ∷ [] = slice_split_none (is_byte 32) line one in ap (values_of (field ∷ next ∷ more)) words ∙ joined_nothing (value_of field line))
        | inr (word, left, is, free) ↦
            let words : words_of line ≡ word ∷ words_of left = ap words_of is ∙ slice_split_at (is_byte 32) word 32 left free refl in
            ap (values_of (field ∷ next ∷ more)) words
            ∙ none word left rest (parts ∙ ap (λ ys. ys ++ 10 ∷ rest) is ∙ append_assoc word (32 ∷ left) (10 ∷ rest)) free (subst (All (λ w. length w ≤ 19)) words short)
      ]

  pub opens_not : Absent 32 text field → OpensNot (field ∷ []) text
  unfolding joined
  opens_not absent next more = behind_first next more (λ word left rest parts free short.
      ap (λ o. joined o (values_of (next ∷ more) (words_of left))) (absent word (left ++ 10 ∷ rest) parts (All-head (λ w. length w ≤ 19) word (words_of left) short)))

  pub opens_only : (rest : List ℕ) (says : List ℕ → Type 0) → Begins 32 text rest says → OpensOnly (field ∷ []) text rest
  opens_only behind says (first, is, high, so) next more none = behind_first next more (λ word left rest parts clear short.
      let same : behind ≡ left ++ 10 ∷ rest = same_first first word behind (left ++ 10 ∷ rest) (free 32 (omega arith) first high) clear (sym is ∙ parts) in
      ap (joined (value_of field word)) (none left rest same (All-tail (λ w. length w ≤ 19) word (words_of left) short)) ∙ joined_nothing (value_of field word))

  -- the last field
  too_many : (words : List (List ℕ)) → 0 < length words → values_of [] words ≡ None
  unfolding values_of
  too_many [] some = absurd (omega arith)
  too_many (word ∷ words) some = refl

  pub says_not : Absent 10 text field → SaysNot (field ∷ []) text
  unfolding values_of joined
  says_not absent line rest parts short =
      elim (line_cases line) [
        | inl one ↦
            let words : words_of line ≡ line ∷ [] = slice_split_none (is_byte 32) line one in
            ap (values_of (field ∷ [])) words
            ∙ ap (λ o. joined o (Some [])) (absent line rest parts (All-head (λ w. length w ≤ 19) line [] (subst (All (λ w. length w ≤ 19)) words short)))
        | inr (word, left, is, free) ↦
            let words : words_of line ≡ word ∷ words_of left = ap words_of is ∙ slice_split_at (is_byte 32) word 32 left free refl in
            let many = length-slice_split (is_byte 32) left in
            ap (values_of (field ∷ [])) words ∙ ap (joined (value_of field word)) (too_many (words_of left) (omega (arith, many))) ∙ joined_nothing (value_of field word)
      ]
