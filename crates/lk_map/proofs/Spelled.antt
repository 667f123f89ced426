-- What is written of a line is read as that line, and of nothing else.
use Rattle.std.proofs.Common.{◌≡◌, ℕ, ◌^◌, ◌<◌, ◌≤◌, Bool, true, false, List, [], ◌∷◌, ◌++◌, Option, Some, None, take, drop, refl, inl, inr, ⊎_elim, ◌⊎◌, sym, ap, ◌∙◌, subst, arith}
use Rattle.std.specs.Prelude.{◌&&◌, nat_lt, if◌then◌else◌, option_map, codes}
use Rattle.std.specs.Fmt.{decimal, digits}
use Rattle.std.specs.Str.{bytes_eq}
use Rattle.std.specs.Str.Parse.{AllDigits, digits_value, IsNumeral}
use Rattle.std.proofs.lemmas.List.{take-append-drop}
use Rattle.std.proofs.lemmas.Bool.Decides.{nat_tests}
use Rattle.std.proofs.lemmas.Fmt.{digits_is_IsNumeral}
use Rattle.std.proofs.lemmas.Slice.Eq.{bytes_eq-Decides}
use Rattle.std.proofs.Math.Nat.{pow-le-pow_left}
use Rattle.lk_map.specs.declared.forms.Word.{Word}
use Rattle.lk_map.specs.declared.forms.Word.TheVariants as word
use Rattle.lk_map.specs.declared.forms.Field.{Field}
use Rattle.lk_map.specs.declared.forms.Field.TheVariants as is
use Rattle.lk_map.specs.declared.forms.Form.{Form}
use Rattle.lk_map.specs.declared.forms.Form.TheVariants as form
use Rattle.lk_map.specs.Forms.{fields_of, row_of, word_text}
use Rattle.lk_map.specs.Lines.{Line}
use Rattle.lk_map.specs.Numbers.{address_in, number_in}
use Rattle.lk_map.specs.Reading.{behind, forms, joined, line_among, line_or, value_of, values_of}
use Rattle.lk_map.specs.Written.{address_text, CanStand, StandAt, value_text, words_for}

-- ---- texts that are equal

pub same_text : (xs : List ℕ) → bytes_eq xs xs ≡ true
same_text xs = (bytes_eq-Decides xs xs).1 refl

pub text_is : (xs ys : List ℕ) → bytes_eq xs ys ≡ true → xs ≡ ys
text_is xs ys e = (bytes_eq-Decides xs ys).0 e

-- ---- numbers

below_le : {a b c : ℕ} → a < b → b ≤ c → a < c
below_le h k = omega arith

pub numeral : (base n : ℕ) → 2 ≤ base → base ≤ 16 → n < 2 ^ 64 → IsNumeral base (digits base false n) × (digits_value base (digits base false n) ≡ n)
numeral base n low high small = let h : 2 ^ 64 ≤ base ^ 64 = pow-le-pow_left low 64 in digits_is_IsNumeral base false low high n (below_le small h)

fits_then : (v n : ℕ) → nat_lt v (2 ^ 64) ≡ true → v ≡ n → n < 2 ^ 64
fits_then v n h e = grind (arith, nat_tests)

pub number_again : (base n : ℕ) → 2 ≤ base → base ≤ 16 → n < 2 ^ 64 → number_in base (digits base false n) ≡ Some n
unfolding number_in
number_again base n low high small =
    let (is, value) = numeral base n low high small in
    let fits : nat_lt n (2 ^ 64) ≡ true = grind (arith, nat_tests) in
    rw (value, fits, same_text (digits base false n)) refl

number_if : (b c : Bool) (v n : ℕ) → (if b && c then Some v else None) ≡ Some n → (b ≡ true) × (c ≡ true) × (v ≡ n)
number_if true true v n e = (refl, refl, cc)
number_if true false v n e = cc
number_if false c v n e = cc

pub number_is : (base : ℕ) (word : List ℕ) (n : ℕ) → number_in base word ≡ Some n → (word ≡ digits base false n) × (n < 2 ^ 64)
unfolding number_in
number_is base word n e =
    let (fits, same, value) = number_if (nat_lt (digits_value base word) (2 ^ 64)) (bytes_eq word (digits base false (digits_value base word))) (digits_value base word) n e in
    (text_is word (digits base false (digits_value base word)) same ∙ ap (λ v. digits base false v) value, fits_then (digits_value base word) n fits value)

address_again : (n : ℕ) → n < 2 ^ 64 → address_in (address_text n) ≡ Some n
unfolding address_in
address_again n small = number_again 16 n (omega arith) (omega arith) small

address_if : (b : Bool) (o : Option ℕ) (n : ℕ) → (if b then o else None) ≡ Some n → (b ≡ true) × (o ≡ Some n)
address_if true o n e = (refl, e)
address_if false o n e = cc

pub address_is : (word : List ℕ) (n : ℕ) → address_in word ≡ Some n → (word ≡ address_text n) × (n < 2 ^ 64)
unfolding address_in
address_is word n e =
    let (front, number) = address_if (bytes_eq (take 2 word) (codes "0x")) (number_in 16 (drop 2 word)) n e in
    let (rest, small) = number_is 16 (drop 2 word) n number in
    (sym (take-append-drop 2 word) ∙ ap (λ xs. xs ++ drop 2 word) (text_is (take 2 word) (codes "0x") front) ∙ ap (λ xs. codes "0x" ++ xs) rest, small)

not_a_digit : AllDigits 10 (codes "-") → ⊥
not_a_digit h = omega (arith, h.0)

dash_case : (n : ℕ) → AllDigits 10 (decimal n) → (b : Bool) → bytes_eq (decimal n) (codes "-") ≡ b → b ≡ false
dash_case n digits false e = refl
dash_case n digits true e = absurd (not_a_digit (subst (AllDigits 10) (text_is (decimal n) (codes "-") e) digits))

-- no number is written `-`
no_dash : (n : ℕ) → n < 2 ^ 64 → bytes_eq (decimal n) (codes "-") ≡ false
no_dash n small = dash_case n (numeral 10 n (omega arith) (omega arith) small).0.1 (bytes_eq (decimal n) (codes "-")) refl

-- ---- fields

-- a field's value as it is written is read as that value
read_again : (f : Field) (v : Option ℕ) → CanStand f v → value_of f (value_text f v) ≡ Some (v ∷ [])
unfolding CanStand value_of value_text
read_again (is.Word w) v h = absurd h
read_again is.Number (Some n) h = ap (option_map (λ n. Some n ∷ [])) (number_again 10 n (omega arith) (omega arith) h)
read_again is.Number None h = absurd h
read_again is.Address (Some n) h = ap (option_map (λ n. Some n ∷ [])) (address_again n h)
read_again is.Address None h = absurd h
read_again is.NumberOrNone (Some n) h =
    ap (λ b. if b then Some (None ∷ []) else option_map (λ n. Some n ∷ []) (number_in 10 (decimal n))) (no_dash n h)
    ∙ ap (option_map (λ n. Some n ∷ [])) (number_again 10 n (omega arith) (omega arith) h)
read_again is.NumberOrNone None h = refl
read_again is.AddressOrNone (Some n) h = ap (option_map (λ n. Some n ∷ [])) (address_again n h)
read_again is.AddressOrNone None h = refl

word_again : (w : Word) → value_of (is.Word w) (word_text w) ≡ Some []
unfolding value_of
word_again w = ap (λ b. if b then Some [] else None) (same_text (word_text w))

one_is : (o : Option ℕ) (xs : List (Option ℕ)) → option_map (λ n. Some n ∷ []) o ≡ Some xs → (n : ℕ) × (o ≡ Some n) × (xs ≡ Some n ∷ [])
one_is None xs e = cc
one_is (Some n) xs e = (n, refl, cc)

none_or_is : (b : Bool) (o : Option ℕ) (xs : List (Option ℕ)) → (if b then Some (None ∷ []) else option_map (λ n. Some n ∷ []) o) ≡ Some xs → ((b ≡ true) × (xs ≡ None ∷ [])) ⊎ ((n : ℕ) × (o ≡ Some n) × (xs ≡ Some n ∷ []))
none_or_is true o xs e = inl (refl, cc)
none_or_is false o xs e = inr (one_is o xs e)

word_if : (b : Bool) (xs : List (Option ℕ)) → (if b then Some [] else None) ≡ Some xs → (b ≡ true) × (xs ≡ [])
word_if true xs e = (refl, cc)
word_if false xs e = cc

word_is : (t : Word) (w : List ℕ) (xs : List (Option ℕ)) → value_of (is.Word t) w ≡ Some xs → (xs ≡ []) × (w ≡ word_text t)
unfolding value_of
word_is t w xs e = let (same, none) = word_if (bytes_eq w (word_text t)) xs e in (none, text_is w (word_text t) same)

-- what a field's word is, where it has one value
Reads : Field → List ℕ → List (Option ℕ) → Type 0
Reads f w xs = (v : Option ℕ) × (xs ≡ v ∷ []) × CanStand f v × (w ≡ value_text f v)

read_number : (w : List ℕ) (xs : List (Option ℕ)) → value_of is.Number w ≡ Some xs → Reads is.Number w xs
unfolding CanStand value_of value_text Reads
read_number w xs e =
    let (n, is, same) = one_is (number_in 10 w) xs e in
    let (text, small) = number_is 10 w n is in
    (Some n, same, small, text)

read_address : (w : List ℕ) (xs : List (Option ℕ)) → value_of is.Address w ≡ Some xs → Reads is.Address w xs
unfolding CanStand value_of value_text Reads
read_address w xs e =
    let (n, is, same) = one_is (address_in w) xs e in
    let (text, small) = address_is w n is in
    (Some n, same, small, text)

read_number_or_none : (w : List ℕ) (xs : List (Option ℕ)) → value_of is.NumberOrNone w ≡ Some xs → Reads is.NumberOrNone w xs
unfolding CanStand value_of value_text Reads
read_number_or_none w xs e =
    ⊎_elim
    (λ (h : (bytes_eq w (codes "-") ≡ true) × (xs ≡ None ∷ [])). (None, h.1, tt, text_is w (codes "-") h.0))
    (λ (h : (n : ℕ) × (number_in 10 w ≡ Some n) × (xs ≡ Some n ∷ [])).
    let (text, small) = number_is 10 w h.0 h.1 in
    (Some h.0, h.2, small, text))
    (none_or_is (bytes_eq w (codes "-")) (number_in 10 w) xs e)

read_address_or_none : (w : List ℕ) (xs : List (Option ℕ)) → value_of is.AddressOrNone w ≡ Some xs → Reads is.AddressOrNone w xs
unfolding CanStand value_of value_text Reads
read_address_or_none w xs e =
    ⊎_elim
    (λ (h : (bytes_eq w (codes "-") ≡ true) × (xs ≡ None ∷ [])). (None, h.1, tt, text_is w (codes "-") h.0))
    (λ (h : (n : ℕ) × (address_in w ≡ Some n) × (xs ≡ Some n ∷ [])).
    let (text, small) = address_is w h.0 h.1 in
    (Some h.0, h.2, small, text))
    (none_or_is (bytes_eq w (codes "-")) (address_in w) xs e)

-- ---- fields of a line

again_step : (f : Field) (fs : List Field) (word : List ℕ) (words : List (List ℕ)) (xs vs : List (Option ℕ)) → value_of f word ≡ Some xs → values_of fs words ≡ Some vs → values_of (f ∷ fs) (word ∷ words) ≡ Some (xs ++ vs)
unfolding values_of joined
again_step f fs word words xs vs p q = ap (λ o. joined o (values_of fs words)) p ∙ ap (behind xs) q

-- values as they are written are read as these values
pub values_again : (fs : List Field) (vs : List (Option ℕ)) → StandAt fs vs → values_of fs (words_for fs vs) ≡ Some vs
unfolding values_of words_for StandAt
values_again [] [] h = refl
values_again [] (v ∷ vs) h = absurd h
values_again (is.Word w ∷ fs) vs h = again_step (is.Word w) fs (word_text w) (words_for fs vs) [] vs (word_again w) (values_again fs vs h)
values_again (is.Number ∷ fs) [] h = absurd h
values_again (is.Number ∷ fs) (v ∷ vs) h = again_step is.Number fs (value_text is.Number v) (words_for fs vs) (v ∷ []) vs (read_again is.Number v h.0) (values_again fs vs h.1)
values_again (is.Address ∷ fs) [] h = absurd h
values_again (is.Address ∷ fs) (v ∷ vs) h = again_step is.Address fs (value_text is.Address v) (words_for fs vs) (v ∷ []) vs (read_again is.Address v h.0) (values_again fs vs h.1)
values_again (is.NumberOrNone ∷ fs) [] h = absurd h
values_again (is.NumberOrNone ∷ fs) (v ∷ vs) h = again_step is.NumberOrNone fs (value_text is.NumberOrNone v) (words_for fs vs) (v ∷ []) vs (read_again is.NumberOrNone v h.0) (values_again fs vs h.1)
values_again (is.AddressOrNone ∷ fs) [] h = absurd h
values_again (is.AddressOrNone ∷ fs) (v ∷ vs) h = again_step is.AddressOrNone fs (value_text is.AddressOrNone v) (words_for fs vs) (v ∷ []) vs (read_again is.AddressOrNone v h.0) (values_again fs vs h.1)

joined_is : (o more : Option (List (Option ℕ))) (vs : List (Option ℕ)) → joined o more ≡ Some vs → (xs : List (Option ℕ)) × (ys : List (Option ℕ)) × (o ≡ Some xs) × (more ≡ Some ys) × (vs ≡ xs ++ ys)
unfolding joined
joined_is None more vs e = cc
joined_is (Some xs) None vs e = cc
joined_is (Some xs) (Some ys) vs e = (xs, ys, refl, refl, cc)

-- that words are what is written of values, which can stand in the fields
Are : List Field → List (List ℕ) → List (Option ℕ) → Type 0
Are fs words vs = (words ≡ words_for fs vs) × StandAt fs vs

are_word : (t : Word) (fs : List Field) (word : List ℕ) (words : List (List ℕ)) (xs ys : List (Option ℕ)) → value_of (is.Word t) word ≡ Some xs → Are fs words ys → Are (is.Word t ∷ fs) (word ∷ words) (xs ++ ys)
unfolding Are words_for StandAt
are_word t fs word words xs ys e (same, stand) =
    let (none, text) = word_is t word xs e in
    let vs_are : xs ++ ys ≡ ys = ap (λ zs. zs ++ ys) none in
    (subst (λ vs. word ∷ words ≡ word_text t ∷ words_for fs vs) (sym vs_are) (ap (λ w. w ∷ words) text ∙ ap (λ ws. word_text t ∷ ws) same), subst (StandAt fs) (sym vs_are) stand)

-- the same of a field with a value, of which these two are all that matters
are_value : (f : Field) (fs : List Field) (word : List ℕ) (words : List (List ℕ)) (xs ys : List (Option ℕ)) →
    ((v : Option ℕ) (vs : List (Option ℕ)) → words_for (f ∷ fs) (v ∷ vs) ≡ value_text f v ∷ words_for fs vs) → ((v : Option ℕ) (vs : List (Option ℕ)) → CanStand f v → StandAt fs vs → StandAt (f ∷ fs) (v ∷ vs)) →
    Reads f word xs → Are fs words ys → Are (f ∷ fs) (word ∷ words) (xs ++ ys)
unfolding Are Reads
are_value f fs word words xs ys written stands (v, one, can, text) (same, stand) =
    let vs_are : xs ++ ys ≡ v ∷ ys = ap (λ zs. zs ++ ys) one in
    (subst (λ vs. word ∷ words ≡ words_for (f ∷ fs) vs) (sym vs_are) (ap (λ w. w ∷ words) text ∙ ap (λ ws. value_text f v ∷ ws) same ∙ sym (written v ys)), subst (StandAt (f ∷ fs)) (sym vs_are) (stands v ys can stand))

are_step : (f : Field) (fs : List Field) (word : List ℕ) (words : List (List ℕ)) (xs ys : List (Option ℕ)) → value_of f word ≡ Some xs → Are fs words ys → Are (f ∷ fs) (word ∷ words) (xs ++ ys)
unfolding words_for StandAt
are_step (is.Word t) fs word words xs ys e rest = are_word t fs word words xs ys e rest
are_step is.Number fs word words xs ys e rest = are_value is.Number fs word words xs ys (λ v vs. refl) (λ v vs c s. (c, s)) (read_number word xs e) rest
are_step is.Address fs word words xs ys e rest = are_value is.Address fs word words xs ys (λ v vs. refl) (λ v vs c s. (c, s)) (read_address word xs e) rest
are_step is.NumberOrNone fs word words xs ys e rest = are_value is.NumberOrNone fs word words xs ys (λ v vs. refl) (λ v vs c s. (c, s)) (read_number_or_none word xs e) rest
are_step is.AddressOrNone fs word words xs ys e rest = are_value is.AddressOrNone fs word words xs ys (λ v vs. refl) (λ v vs c s. (c, s)) (read_address_or_none word xs e) rest

-- words that are read as values are what is written of them
values_are_so : (fs : List Field) (words : List (List ℕ)) (vs : List (Option ℕ)) → values_of fs words ≡ Some vs → Are fs words vs
unfolding values_of Are words_for StandAt
values_are_so [] [] [] e = (refl, tt)
values_are_so [] [] (v ∷ vs) e = cc
values_are_so [] (w ∷ ws) vs e = cc
values_are_so (f ∷ fs) [] vs e = cc
values_are_so (f ∷ fs) (w ∷ ws) vs e =
    let (xs, ys, first, rest, same) = joined_is (value_of f w) (values_of fs ws) vs e in
    subst (Are (f ∷ fs) (w ∷ ws)) (sym same) (are_step f fs w ws xs ys first (values_are_so fs ws ys rest))

pub values_are : (fs : List Field) (words : List (List ℕ)) (vs : List (Option ℕ)) → values_of fs words ≡ Some vs → (words ≡ words_for fs vs) × StandAt fs vs
unfolding Are
values_are fs words vs e = values_are_so fs words vs e

-- ---- forms

-- what is written of a line's values is read in the line's form: no earlier form fits its words
pub form_again : (f : Form) (vs : List (Option ℕ)) → StandAt (fields_of f) vs → line_among forms (words_for (fields_of f) vs) ≡ Some (record { form = f; values = vs })
unfolding line_among line_or values_of joined value_of fields_of row_of words_for word_text address_in
form_again form.Layout vs h = ap (λ o. line_or form.Layout o (line_among (drop 1 forms) (words_for (fields_of form.Layout) vs))) (values_again (fields_of form.Layout) vs h)
form_again form.Section vs h = ap (λ o. line_or form.Section o (line_among (drop 2 forms) (words_for (fields_of form.Section) vs))) (values_again (fields_of form.Section) vs h)
form_again form.Part vs h = ap (λ o. line_or form.Part o (line_among (drop 3 forms) (words_for (fields_of form.Part) vs))) (values_again (fields_of form.Part) vs h)
form_again form.Segment vs h = ap (λ o. line_or form.Segment o (line_among (drop 4 forms) (words_for (fields_of form.Segment) vs))) (values_again (fields_of form.Segment) vs h)
form_again form.Live vs h = ap (λ o. line_or form.Live o (line_among (drop 5 forms) (words_for (fields_of form.Live) vs))) (values_again (fields_of form.Live) vs h)
form_again form.Single vs h = ap (λ o. line_or form.Single o (line_among (drop 6 forms) (words_for (fields_of form.Single) vs))) (values_again (fields_of form.Single) vs h)
form_again form.Merged vs h = ap (λ o. line_or form.Merged o (line_among (drop 7 forms) (words_for (fields_of form.Merged) vs))) (values_again (fields_of form.Merged) vs h)
form_again form.Piece vs h = ap (λ o. line_or form.Piece o (line_among (drop 8 forms) (words_for (fields_of form.Piece) vs))) (values_again (fields_of form.Piece) vs h)
form_again form.Block vs h = ap (λ o. line_or form.Block o (line_among (drop 9 forms) (words_for (fields_of form.Block) vs))) (values_again (fields_of form.Block) vs h)
form_again form.Thunk vs h = ap (λ o. line_or form.Thunk o (line_among (drop 10 forms) (words_for (fields_of form.Thunk) vs))) (values_again (fields_of form.Thunk) vs h)
form_again form.Symbol vs h = ap (λ o. line_or form.Symbol o (line_among (drop 11 forms) (words_for (fields_of form.Symbol) vs))) (values_again (fields_of form.Symbol) vs h)
form_again form.Entry vs h = ap (λ o. line_or form.Entry o (line_among (drop 12 forms) (words_for (fields_of form.Entry) vs))) (values_again (fields_of form.Entry) vs h)
form_again form.NotLoaded vs h = ap (λ o. line_or form.NotLoaded o (line_among (drop 13 forms) (words_for (fields_of form.NotLoaded) vs))) (values_again (fields_of form.NotLoaded) vs h)
form_again form.NotAnAddress vs h = ap (λ o. line_or form.NotAnAddress o (line_among (drop 14 forms) (words_for (fields_of form.NotAnAddress) vs))) (values_again (fields_of form.NotAnAddress) vs h)
form_again form.End vs h = ap (λ o. line_or form.End o (line_among (drop 15 forms) (words_for (fields_of form.End) vs))) (values_again (fields_of form.End) vs h)

-- a form's line has a first word
pub first_word : (f : Form) (vs : List (Option ℕ)) → (word : List ℕ) × (words : List (List ℕ)) × (words_for (fields_of f) vs ≡ word ∷ words)
unfolding fields_of row_of words_for
first_word form.Layout vs = (word_text word.Layout, words_for (drop 1 (fields_of form.Layout)) vs, refl)
first_word form.Section vs = (word_text word.Section, words_for (drop 1 (fields_of form.Section)) vs, refl)
first_word form.Part vs = (word_text word.Part, words_for (drop 1 (fields_of form.Part)) vs, refl)
first_word form.Segment vs = (word_text word.Segment, words_for (drop 1 (fields_of form.Segment)) vs, refl)
first_word form.Live vs = (word_text word.Live, words_for (drop 1 (fields_of form.Live)) vs, refl)
first_word form.Single vs = (word_text word.Single, words_for (drop 1 (fields_of form.Single)) vs, refl)
first_word form.Merged vs = (word_text word.Merged, words_for (drop 1 (fields_of form.Merged)) vs, refl)
first_word form.Piece vs = (word_text word.Piece, words_for (drop 1 (fields_of form.Piece)) vs, refl)
first_word form.Block vs = (word_text word.Block, words_for (drop 1 (fields_of form.Block)) vs, refl)
first_word form.Thunk vs = (word_text word.Thunk, words_for (drop 1 (fields_of form.Thunk)) vs, refl)
first_word form.Symbol vs = (word_text word.Symbol, words_for (drop 1 (fields_of form.Symbol)) vs, refl)
first_word form.Entry vs = (word_text word.Entry, words_for (drop 1 (fields_of form.Entry)) vs, refl)
first_word form.NotLoaded vs = (word_text word.Entry, words_for (drop 1 (fields_of form.NotLoaded)) vs, refl)
first_word form.NotAnAddress vs = (word_text word.Entry, words_for (drop 1 (fields_of form.NotAnAddress)) vs, refl)
first_word form.End vs = (word_text word.End, words_for (drop 1 (fields_of form.End)) vs, refl)

some_is : (x y : Line) → Some x ≡ Some y → x ≡ y
some_is x y e = cc

or_is : (f : Form) (o : Option (List (Option ℕ))) (words : List (List ℕ)) (l : Line) (other : Option Line) → values_of (fields_of f) words ≡ o → line_or f o other ≡ Some l → (other ≡ Some l → values_of (fields_of l.form) words ≡ Some l.values) → values_of (fields_of l.form) words ≡ Some l.values
unfolding line_or
or_is f None words l other is e rest = rest e
or_is f (Some vs) words l other is e rest =
    let same : record { form = f; values = vs } ≡ l = some_is (record { form = f; values = vs }) l e in
    subst (λ l. values_of (fields_of l.form) words ≡ Some l.values) same is

among_is : (all : List Form) (words : List (List ℕ)) (l : Line) → line_among all words ≡ Some l → values_of (fields_of l.form) words ≡ Some l.values
unfolding line_among
among_is [] words l e = cc
among_is (f ∷ more) words l e = or_is f (values_of (fields_of f) words) words l (line_among more words) refl e (among_is more words l)

-- what is read of words as a line is what is written of it
pub line_is_of : (words : List (List ℕ)) (l : Line) → line_among forms words ≡ Some l → (words ≡ words_for (fields_of l.form) l.values) × StandAt (fields_of l.form) l.values
line_is_of words l e = values_are (fields_of l.form) words l.values (among_is forms words l e)

-- words that fit a form are a line of that form: no earlier one fits them
pub form_first : (f : Form) (fields : List Field) (words : List (List ℕ)) (vs : List (Option ℕ)) → fields ≡ fields_of f → Some vs ≡ values_of fields words → Some (record { form = f; values = vs }) ≡ line_among forms words
form_first f fields words vs is fits =
    let (same, stand) = values_are (fields_of f) words vs (ap (λ fs. values_of fs words) (sym is) ∙ sym fits) in
    sym (ap (line_among forms) same ∙ form_again f vs stand)
