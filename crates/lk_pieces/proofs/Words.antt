-- A word that is no bad token stays the same with a comma behind it.
use Rattle.std.proofs.Common.{◌≡◌, ℕ, suc, ◌+◌, ◌-◌, ◌≤◌, Bool, true, false, cond, ◌&&◌, ◌||◌, ◌==◌, List, [], ◌∷◌, ◌++◌, length, take, drop, Option, Some, None, option_map, option_and_then, is_some, refl, ap, ◌∙◌, arith, length-append}
use Rattle.std.proofs.lemmas.Bool.{and_parts}
use Rattle.std.proofs.lemmas.List.{take-append-le, drop-append-le, length-take}
use Rattle.std.proofs.lemmas.Slice.Eq.{bytes_eq-Decides}
use Rattle.std.specs.List.{prefix_len, starts_with}
use Rattle.std.specs.Cmp.Lexicographic.{pointwise}
use Rattle.std.specs.Prelude.{nat_eq}
use Rattle.std.specs.Char.{is_ascii_digit}
use Rattle.json.specs.Token.{Token}
use Rattle.json.specs.Ascii as ascii
use Rattle.json.specs.Word.{ends_word, after_digits, after_minus, after_sign, after_whole, after_fraction, after_exponent, after_number, number_before, literal, word}
use Rattle.lk_pieces.specs.Joining.{place_behind}

-- it is no bad token
abbrev pub is_good : Token → Bool
is_good t = is_some (place_behind t)

-- ---- digits

digits_at : (d : Bool) (n m : ℕ) → n ≡ m → cond d (1 + n) 0 ≡ cond d (1 + m) 0
digits_at d n m e = ap (λ k. cond d (1 + k) 0) e

digits-same : (t b : List ℕ) → prefix_len is_ascii_digit (t ++ 44 ∷ b) ≡ prefix_len is_ascii_digit t
digits-same [] b = refl
digits-same (x ∷ t) b = digits_at (is_ascii_digit x) _ _ (digits-same t b)

digit_within : (d : Bool) (n m : ℕ) → n ≤ m → cond d (1 + n) 0 ≤ suc m
digit_within true n m h = omega arith
digit_within false n m h = omega arith

digits_within : (t : List ℕ) → prefix_len is_ascii_digit t ≤ length t
digits_within [] = omega arith
digits_within (x ∷ t) = digit_within (is_ascii_digit x) (prefix_len is_ascii_digit t) (length t) (digits_within t)

-- what is left, with these bytes behind it
abbrev with_more : List ℕ → Option (List ℕ) → Option (List ℕ)
with_more s o = option_map (λ r. r ++ s) o

chosen : (s : List ℕ) (b : Bool) (x y x2 y2 : Option (List ℕ)) → x2 ≡ with_more s x → y2 ≡ with_more s y → cond b x2 y2 ≡ with_more s (cond b x y)
chosen s true x y x2 y2 e f = e
chosen s false x y x2 y2 e f = f

-- ---- each part of a number

after_digits-more : (t b : List ℕ) → after_digits (t ++ 44 ∷ b) ≡ with_more (44 ∷ b) (after_digits t)
after_digits-more t b =
    let n = prefix_len is_ascii_digit t in
    ap (λ k. cond (k == 0) None (Some (drop k (t ++ 44 ∷ b)))) (digits-same t b)
    ∙ chosen (44 ∷ b) (n == 0) None (Some (drop n t)) None (Some (drop n (t ++ 44 ∷ b))) refl (ap Some (drop-append-le n t (44 ∷ b) (digits_within t)))

moved : (s : List ℕ) (b : Bool) (x y : List ℕ) → cond b (x ++ s) (y ++ s) ≡ cond b x y ++ s
moved s true x y = refl
moved s false x y = refl

after_minus-more : (t b : List ℕ) → after_minus (t ++ 44 ∷ b) ≡ after_minus t ++ 44 ∷ b
after_minus-more [] b = refl
after_minus-more (x ∷ t) b = moved (44 ∷ b) (x == 45) t (x ∷ t)

after_sign-more : (t b : List ℕ) → after_sign (t ++ 44 ∷ b) ≡ after_sign t ++ 44 ∷ b
after_sign-more [] b = refl
after_sign-more (x ∷ t) b = moved (44 ∷ b) ((x == 45) || (x == 43)) t (x ∷ t)

after_whole-more : (t b : List ℕ) → after_whole (t ++ 44 ∷ b) ≡ with_more (44 ∷ b) (after_whole t)
after_whole-more [] b = refl
after_whole-more (x ∷ t) b = chosen (44 ∷ b) (x == 48) (Some t) (after_digits (x ∷ t)) (Some (t ++ 44 ∷ b)) _ refl (after_digits-more (x ∷ t) b)

after_fraction-more : (t b : List ℕ) → after_fraction (t ++ 44 ∷ b) ≡ with_more (44 ∷ b) (after_fraction t)
after_fraction-more [] b = refl
after_fraction-more (x ∷ t) b = chosen (44 ∷ b) (x == 46) (after_digits t) (Some (x ∷ t)) _ (Some (x ∷ t ++ 44 ∷ b)) (after_digits-more t b) refl

after_exponent-more : (t b : List ℕ) → after_exponent (t ++ 44 ∷ b) ≡ with_more (44 ∷ b) (after_exponent t)
after_exponent-more [] b = refl
after_exponent-more (x ∷ t) b =
    chosen (44 ∷ b) ((x == 101) || (x == 69)) (after_digits (after_sign t)) (Some (x ∷ t)) _ (Some (x ∷ t ++ 44 ∷ b)) (ap after_digits (after_sign-more t b) ∙ after_digits-more (after_sign t) b) refl

through : (s : List ℕ) (f : List ℕ → Option (List ℕ)) → ((t : List ℕ) → f (t ++ s) ≡ with_more s (f t)) → (o : Option (List ℕ))
    → option_and_then f (with_more s o) ≡ with_more s (option_and_then f o)
through s f more None = refl
through s f more (Some t) = more t

after_number-more : (t b : List ℕ) → after_number (t ++ 44 ∷ b) ≡ with_more (44 ∷ b) (after_number t)
unfolding after_number
after_number-more t b =
    let s = 44 ∷ b in
    let whole = ap after_whole (after_minus-more t b) ∙ after_whole-more (after_minus t) b in
    let fraction = ap (option_and_then after_fraction) whole ∙ through s after_fraction (λ u. after_fraction-more u b) (after_whole (after_minus t)) in
    ap (option_and_then after_exponent) fraction ∙ through s after_exponent (λ u. after_exponent-more u b) (option_and_then after_fraction (after_whole (after_minus t)))

-- ---- a word

ends_word-same : (t b : List ℕ) → ends_word (t ++ 44 ∷ b) ≡ ends_word t
ends_word-same [] b = refl
ends_word-same (x ∷ t) b = refl

number-same : (t b : List ℕ) (o : Option (List ℕ)) → number_before (t ++ 44 ∷ b) (with_more (44 ∷ b) o) ≡ number_before t o
number-same t b None = refl
number-same t b (Some r) =
    let n = length t - length r in
    let taken : length (t ++ 44 ∷ b) - length (r ++ 44 ∷ b) ≡ n = omega (arith, length-append t (44 ∷ b), length-append r (44 ∷ b)) in
    let same = ap (λ k. take k (t ++ 44 ∷ b)) taken ∙ take-append-le n t (44 ∷ b) (omega arith) in
    ap (λ e. cond e (Token.number (take (length (t ++ 44 ∷ b) - length (r ++ 44 ∷ b)) (t ++ 44 ∷ b))) Token.bad) (ends_word-same r b)
    ∙ ap (λ u. cond (ends_word r) (Token.number u) Token.bad) same

good_condition : (c : Bool) (k : Token) → is_good (cond c k Token.bad) ≡ true → c ≡ true
good_condition true k h = refl
good_condition false k h = h

long_enough : (name t : List ℕ) → name ≡ take (length name) t → length name ≤ length t
long_enough name t e = omega (arith, ap length e, length-take (length name) t)

literal-same : (name : List ℕ) (k : Token) (t b : List ℕ) → is_good (literal name k t) ≡ true → literal name k (t ++ 44 ∷ b) ≡ literal name k t
literal-same name k t b good =
    let n = length name in
    let both = and_parts _ _ (good_condition _ k good) in
    let le = long_enough name t ((bytes_eq-Decides name (take n t)).0 both.0) in
    (λ i. cond (pointwise nat_eq name (take-append-le n t (44 ∷ b) le i) && ends_word (drop-append-le n t (44 ∷ b) le i)) k Token.bad)
    ∙ ap (λ e. cond (starts_with nat_eq t name && e) k Token.bad) (ends_word-same (drop n t) b)

either-same : (b : Bool) (x y x2 y2 : Token) → (is_good x ≡ true → x2 ≡ x) → (is_good y ≡ true → y2 ≡ y) → is_good (cond b x y) ≡ true → cond b x2 y2 ≡ cond b x y
either-same true x y x2 y2 f g good = f good
either-same false x y x2 y2 f g good = g good

pub word-same : (x : ℕ) (t b : List ℕ) → is_good (word (x ∷ t)) ≡ true → word (x ∷ t ++ 44 ∷ b) ≡ word (x ∷ t)
unfolding word
word-same x t b good =
    let u = x ∷ t in
    either-same (x == 116) _ _ _ _ (literal-same ascii.true_text (Token.boolean true) u b)
    (either-same (x == 102) _ _ _ _ (literal-same ascii.false_text (Token.boolean false) u b)
    (either-same (x == 110) _ _ _ _ (literal-same ascii.null_text Token.null u b)
    (λ h. ap (number_before (u ++ 44 ∷ b)) (after_number-more u b) ∙ number-same u b (after_number u)))) good
