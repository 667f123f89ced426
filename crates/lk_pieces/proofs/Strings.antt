-- A string that closes is the same with more behind it, and the text behind it is lexed as any other.
use Rattle.std.proofs.Common.{◌≡◌, ℕ, ◌<◌, Bool, true, false, cond, ◌&&◌, ◌==◌, nat_lt, List, [], ◌∷◌, ◌++◌, length, Option, Some, None, option_and_then, is_some, refl, sym, ap, ◌∙◌, arith}
use Rattle.std.proofs.lemmas.Bool.{false≢true, eqb-true, and_parts}
use Rattle.std.specs.Char.{is_digit, encode_utf8}
use Rattle.json.specs.Text.{code_unit, short_escape, is_high_surrogate, is_low_surrogate, surrogate_pair, Within, plain, after_backslash, after_u, after_high, prepend, content}
use Rattle.json.specs.Word.{is_operator, is_space}
use Rattle.json.specs.Lex.{Lexeme, Class, quote, backslash, operator, space, other, Mode, between, in_string, in_escape, lex_byte, lex}

-- how the lexer passes over a string
abbrev pub mode : Within → Mode
mode plain = in_string
mode after_backslash = in_escape
mode after_u = in_string
mode (after_high h) = in_string

-- the string closes before the end of the text
pub record Ends (w : Within) (xs : List ℕ) : Type 0 where
  pub rest : List ℕ
  pub shorter : length rest < length xs
  pub same : (ys : List ℕ) → content w (xs ++ ys) ≡ content w xs
  pub passed : (ys : List ℕ) → lex (mode w) (xs ++ ys) ≡ lex between (rest ++ ys)

-- nothing is no string
no_string : {P : Type 0} (o : Option (List ℕ)) → o ≡ None → is_some o ≡ true → P
no_string None e h = absurd (false≢true h)
no_string (Some s) e h = absurd cc

kept : (s : List ℕ) (o : Option (List ℕ)) → is_some (prepend s o) ≡ true → is_some o ≡ true
kept s None h = h
kept s (Some t) h = refl

-- ---- one byte

abbrev class_by : Bool → Bool → Bool → Bool → Class
class_by q b o s = cond q quote (cond b backslash (cond o operator (cond s space other)))

passes : (o s : Bool) (x : ℕ) (zs : List ℕ) (k : Mode → List Lexeme) → lex_byte in_string (class_by false false o s) x zs k ≡ k in_string
passes true s x zs k = refl
passes false true x zs k = refl
passes false false x zs k = refl

lex_plain : (x : ℕ) (zs : List ℕ) → (x == 34) ≡ false → (x == 92) ≡ false → lex in_string (x ∷ zs) ≡ lex in_string zs
unfolding lex
lex_plain x zs q b =
    (λ i. lex_byte in_string (class_by (q i) (b i) (is_operator x) (is_space x)) x zs (λ n. lex n zs)) ∙ passes (is_operator x) (is_space x) x zs (λ n. lex n zs)

lex_quote : (x : ℕ) (zs : List ℕ) → (x == 34) ≡ true → lex in_string (x ∷ zs) ≡ lex between zs
unfolding lex
lex_quote x zs q = λ i. lex_byte in_string (class_by (q i) (x == 92) (is_operator x) (is_space x)) x zs (λ n. lex n zs)

lex_backslash : (x : ℕ) (zs : List ℕ) → (x == 92) ≡ true → lex in_string (x ∷ zs) ≡ lex in_escape zs
unfolding lex
lex_backslash x zs b = ap (λ y. lex in_string (y ∷ zs)) (eqb-true x 92 b)

lex_escape : (x : ℕ) (zs : List ℕ) → lex in_escape (x ∷ zs) ≡ lex in_string zs
unfolding lex
lex_escape x zs = refl

-- ---- hexadecimal digits

abbrev is_found : Option ℕ → Bool
is_found None = false
is_found (Some u) = true

all_hex : (b : Bool) (u : ℕ) → is_found (cond b (Some u) None) ≡ true → b ≡ true
all_hex true u h = refl
all_hex false u h = h

not_this : (c x : ℕ) (t : Bool) → (t ≡ true → x ≡ c) → is_digit c 16 ≡ false → is_digit x 16 ≡ true → t ≡ false
not_this c x false e never h = refl
not_this c x true e never h = absurd (false≢true (sym never ∙ ap (λ y. is_digit y 16) (sym (e refl)) ∙ h))

lex_hex : (x : ℕ) (zs : List ℕ) → is_digit x 16 ≡ true → lex in_string (x ∷ zs) ≡ lex in_string zs
lex_hex x zs h = lex_plain x zs (not_this 34 x (x == 34) (eqb-true x 34) refl h) (not_this 92 x (x == 92) (eqb-true x 92) refl h)

lex_unit : (a b c d : ℕ) (zs : List ℕ) → is_found (code_unit a b c d) ≡ true → lex in_string (a ∷ b ∷ c ∷ d ∷ zs) ≡ lex in_string zs
unfolding code_unit
lex_unit a b c d zs h =
    let p = and_parts (is_digit a 16 && is_digit b 16 && is_digit c 16) (is_digit d 16) (all_hex _ _ h) in
    let q = and_parts (is_digit a 16 && is_digit b 16) (is_digit c 16) p.0 in
    let r = and_parts (is_digit a 16) (is_digit b 16) q.0 in
    lex_hex a (b ∷ c ∷ d ∷ zs) r.0 ∙ lex_hex b (c ∷ d ∷ zs) r.1 ∙ lex_hex c (d ∷ zs) q.1 ∙ lex_hex d zs p.1

-- ---- what stands next

plain_is : (x : ℕ) (zs : List ℕ) (q b l : Bool) → (x == 34) ≡ q → (x == 92) ≡ b → nat_lt x 32 ≡ l
    → content plain (x ∷ zs) ≡ cond q (Some []) (cond b (content after_backslash zs) (cond l None (prepend (x ∷ []) (content plain zs))))
unfolding content
plain_is x zs q b l e f g = λ i. cond (e i) (Some []) (cond (f i) (content after_backslash zs) (cond (g i) None (prepend (x ∷ []) (content plain zs))))

plain_ends : (x : ℕ) (xs : List ℕ) → (is_some (content after_backslash xs) ≡ true → Ends after_backslash xs) → (is_some (content plain xs) ≡ true → Ends plain xs)
    → (q b l : Bool) → (x == 34) ≡ q → (x == 92) ≡ b → nat_lt x 32 ≡ l → is_some (content plain (x ∷ xs)) ≡ true → Ends plain (x ∷ xs)
plain_ends x xs escaped more true b l e f g h = record {
  rest = xs;
  shorter = omega arith;
  same = λ ys. plain_is x (xs ++ ys) true b l e f g ∙ sym (plain_is x xs true b l e f g);
  passed = λ ys. lex_quote x (xs ++ ys) e;
}
plain_ends x xs escaped more false true l e f g h =
    let is = plain_is x xs false true l e f g in
    let end = escaped (ap is_some (sym is) ∙ h) in
    record {
      rest = end.rest;
      shorter = omega (arith, end.shorter);
      same = λ ys. plain_is x (xs ++ ys) false true l e f g ∙ end.same ys ∙ sym is;
      passed = λ ys. lex_backslash x (xs ++ ys) f ∙ end.passed ys;
    }
plain_ends x xs escaped more false false true e f g h = no_string (content plain (x ∷ xs)) (plain_is x xs false false true e f g) h
plain_ends x xs escaped more false false false e f g h =
    let is = plain_is x xs false false false e f g in
    let end = more (kept (x ∷ []) (content plain xs) (ap is_some (sym is) ∙ h)) in
    record {
      rest = end.rest;
      shorter = omega (arith, end.shorter);
      same = λ ys. plain_is x (xs ++ ys) false false false e f g ∙ ap (prepend (x ∷ [])) (end.same ys) ∙ sym is;
      passed = λ ys. lex_plain x (xs ++ ys) e f ∙ end.passed ys;
    }

escape_is : (x : ℕ) (zs : List ℕ) (u : Bool) (o : Option ℕ) → (x == 117) ≡ u → short_escape x ≡ o
    → content after_backslash (x ∷ zs) ≡ cond u (content after_u zs) (option_and_then (λ c. prepend (c ∷ []) (content plain zs)) o)
unfolding content
escape_is x zs u o e f = λ i. cond (e i) (content after_u zs) (option_and_then (λ c. prepend (c ∷ []) (content plain zs)) (f i))

escape_ends : (x : ℕ) (xs : List ℕ) → (is_some (content after_u xs) ≡ true → Ends after_u xs) → (is_some (content plain xs) ≡ true → Ends plain xs)
    → (u : Bool) (o : Option ℕ) → (x == 117) ≡ u → short_escape x ≡ o → is_some (content after_backslash (x ∷ xs)) ≡ true → Ends after_backslash (x ∷ xs)
escape_ends x xs unit more true o e f h =
    let is = escape_is x xs true o e f in
    let end = unit (ap is_some (sym is) ∙ h) in
    record {
      rest = end.rest;
      shorter = omega (arith, end.shorter);
      same = λ ys. escape_is x (xs ++ ys) true o e f ∙ end.same ys ∙ sym is;
      passed = λ ys. lex_escape x (xs ++ ys) ∙ end.passed ys;
    }
escape_ends x xs unit more false None e f h = no_string (content after_backslash (x ∷ xs)) (escape_is x xs false None e f) h
escape_ends x xs unit more false (Some c) e f h =
    let is = escape_is x xs false (Some c) e f in
    let end = more (kept (c ∷ []) (content plain xs) (ap is_some (sym is) ∙ h)) in
    record {
      rest = end.rest;
      shorter = omega (arith, end.shorter);
      same = λ ys. escape_is x (xs ++ ys) false (Some c) e f ∙ ap (prepend (c ∷ [])) (end.same ys) ∙ sym is;
      passed = λ ys. lex_escape x (xs ++ ys) ∙ end.passed ys;
    }

unit_is : (a b c d : ℕ) (zs : List ℕ) (u : ℕ) (high low : Bool) → code_unit a b c d ≡ Some u → is_high_surrogate u ≡ high → is_low_surrogate u ≡ low
    → content after_u (a ∷ b ∷ c ∷ d ∷ zs) ≡ cond high (content (after_high u) zs) (cond low None (prepend (encode_utf8 u) (content plain zs)))
unfolding content
unit_is a b c d zs u high low e f g =
    ap (option_and_then (λ v. cond (is_high_surrogate v) (content (after_high v) zs) (cond (is_low_surrogate v) None (prepend (encode_utf8 v) (content plain zs))))) e
    ∙ (λ i. cond (f i) (content (after_high u) zs) (cond (g i) None (prepend (encode_utf8 u) (content plain zs))))

no_unit : (a b c d : ℕ) (zs : List ℕ) → code_unit a b c d ≡ None → content after_u (a ∷ b ∷ c ∷ d ∷ zs) ≡ None
unfolding content
no_unit a b c d zs e = ap (option_and_then (λ v. cond (is_high_surrogate v) (content (after_high v) zs) (cond (is_low_surrogate v) None (prepend (encode_utf8 v) (content plain zs))))) e

unit_ends : (a b c d : ℕ) (xs : List ℕ) → ((u : ℕ) → is_some (content (after_high u) xs) ≡ true → Ends (after_high u) xs) → (is_some (content plain xs) ≡ true → Ends plain xs)
    → (u : ℕ) (high low : Bool) → code_unit a b c d ≡ Some u → is_high_surrogate u ≡ high → is_low_surrogate u ≡ low
    → is_some (content after_u (a ∷ b ∷ c ∷ d ∷ xs)) ≡ true → Ends after_u (a ∷ b ∷ c ∷ d ∷ xs)
unit_ends a b c d xs pair more u true low e f g h =
    let is = unit_is a b c d xs u true low e f g in
    let end = pair u (ap is_some (sym is) ∙ h) in
    record {
      rest = end.rest;
      shorter = omega (arith, end.shorter);
      same = λ ys. unit_is a b c d (xs ++ ys) u true low e f g ∙ end.same ys ∙ sym is;
      passed = λ ys. lex_unit a b c d (xs ++ ys) (ap is_found e) ∙ end.passed ys;
    }
unit_ends a b c d xs pair more u false true e f g h = no_string (content after_u (a ∷ b ∷ c ∷ d ∷ xs)) (unit_is a b c d xs u false true e f g) h
unit_ends a b c d xs pair more u false false e f g h =
    let is = unit_is a b c d xs u false false e f g in
    let end = more (kept (encode_utf8 u) (content plain xs) (ap is_some (sym is) ∙ h)) in
    record {
      rest = end.rest;
      shorter = omega (arith, end.shorter);
      same = λ ys. unit_is a b c d (xs ++ ys) u false false e f g ∙ ap (prepend (encode_utf8 u)) (end.same ys) ∙ sym is;
      passed = λ ys. lex_unit a b c d (xs ++ ys) (ap is_found e) ∙ end.passed ys;
    }

unit_cases : (a b c d : ℕ) (xs : List ℕ) → ((u : ℕ) → is_some (content (after_high u) xs) ≡ true → Ends (after_high u) xs) → (is_some (content plain xs) ≡ true → Ends plain xs)
    → (o : Option ℕ) → code_unit a b c d ≡ o → is_some (content after_u (a ∷ b ∷ c ∷ d ∷ xs)) ≡ true → Ends after_u (a ∷ b ∷ c ∷ d ∷ xs)
unit_cases a b c d xs pair more None e h = no_string (content after_u (a ∷ b ∷ c ∷ d ∷ xs)) (no_unit a b c d xs e) h
unit_cases a b c d xs pair more (Some u) e h = unit_ends a b c d xs pair more u (is_high_surrogate u) (is_low_surrogate u) e refl refl h

-- ---- the second half of a pair

abbrev low_half : ℕ → List ℕ → ℕ → Option (List ℕ)
low_half high zs l = cond (is_low_surrogate l) (prepend (encode_utf8 (surrogate_pair high l)) (content plain zs)) None

high_is : (high s u a b c d : ℕ) (zs : List ℕ) (t : Bool) (o : Option ℕ) → ((s == 92) && (u == 117)) ≡ t → code_unit a b c d ≡ o
    → content (after_high high) (s ∷ u ∷ a ∷ b ∷ c ∷ d ∷ zs) ≡ cond t (option_and_then (low_half high zs) o) None
unfolding content
high_is high s u a b c d zs t o e f = λ i. cond (e i) (option_and_then (low_half high zs) (f i)) None

low_is : (high l : ℕ) (zs : List ℕ) (low : Bool) → is_low_surrogate l ≡ low → low_half high zs l ≡ cond low (prepend (encode_utf8 (surrogate_pair high l)) (content plain zs)) None
low_is high l zs low e = λ i. cond (e i) (prepend (encode_utf8 (surrogate_pair high l)) (content plain zs)) None

high_ends : (high s u a b c d : ℕ) (xs : List ℕ) → (is_some (content plain xs) ≡ true → Ends plain xs)
    → (t : Bool) (o : Option ℕ) → ((s == 92) && (u == 117)) ≡ t → code_unit a b c d ≡ o
    → is_some (content (after_high high) (s ∷ u ∷ a ∷ b ∷ c ∷ d ∷ xs)) ≡ true → Ends (after_high high) (s ∷ u ∷ a ∷ b ∷ c ∷ d ∷ xs)
high_ends high s u a b c d xs more false o e f h = no_string (content (after_high high) (s ∷ u ∷ a ∷ b ∷ c ∷ d ∷ xs)) (high_is high s u a b c d xs false o e f) h
high_ends high s u a b c d xs more true None e f h = no_string (content (after_high high) (s ∷ u ∷ a ∷ b ∷ c ∷ d ∷ xs)) (high_is high s u a b c d xs true None e f) h
high_ends high s u a b c d xs more true (Some l) e f h = last (is_low_surrogate l) refl
  where
    last : (y : Bool) → is_low_surrogate l ≡ y → Ends (after_high high) (s ∷ u ∷ a ∷ b ∷ c ∷ d ∷ xs)
    last false k = no_string (content (after_high high) (s ∷ u ∷ a ∷ b ∷ c ∷ d ∷ xs)) (high_is high s u a b c d xs true (Some l) e f ∙ low_is high l xs false k) h
    last true k =
        let is = high_is high s u a b c d xs true (Some l) e f ∙ low_is high l xs true k in
        let end = more (kept (encode_utf8 (surrogate_pair high l)) (content plain xs) (ap is_some (sym is) ∙ h)) in
        record {
          rest = end.rest;
          shorter = omega (arith, end.shorter);
          same = λ ys. high_is high s u a b c d (xs ++ ys) true (Some l) e f ∙ low_is high l (xs ++ ys) true k ∙ ap (prepend (encode_utf8 (surrogate_pair high l))) (end.same ys) ∙ sym is;
          passed = λ ys. lex_backslash s (u ∷ a ∷ b ∷ c ∷ d ∷ xs ++ ys) (and_parts _ _ e).0 ∙ lex_escape u (a ∷ b ∷ c ∷ d ∷ xs ++ ys)
              ∙ lex_unit a b c d (xs ++ ys) (ap is_found f) ∙ end.passed ys;
        }

-- ---- a string

empty : {P : Type 0} (w : Within) → is_some (content w []) ≡ true → P
unfolding content
empty plain h = absurd (false≢true h)
empty after_backslash h = absurd (false≢true h)
empty after_u h = absurd (false≢true h)
empty (after_high high) h = absurd (false≢true h)

pub ends : (w : Within) (xs : List ℕ) → is_some (content w xs) ≡ true → Ends w xs
unfolding content
ends plain [] h = empty plain h
ends plain (x ∷ xs) h = plain_ends x xs (ends after_backslash xs) (ends plain xs) (x == 34) (x == 92) (nat_lt x 32) refl refl refl h
ends after_backslash [] h = empty after_backslash h
ends after_backslash (x ∷ xs) h = escape_ends x xs (ends after_u xs) (ends plain xs) (x == 117) (short_escape x) refl refl h
ends after_u [] h = empty after_u h
ends after_u (a ∷ []) h = absurd (false≢true h)
ends after_u (a ∷ b ∷ []) h = absurd (false≢true h)
ends after_u (a ∷ b ∷ c ∷ []) h = absurd (false≢true h)
ends after_u (a ∷ b ∷ c ∷ d ∷ xs) h = unit_cases a b c d xs (λ u. ends (after_high u) xs) (ends plain xs) (code_unit a b c d) refl h
ends (after_high high) [] h = empty (after_high high) h
ends (after_high high) (s ∷ []) h = absurd (false≢true h)
ends (after_high high) (s ∷ u ∷ []) h = absurd (false≢true h)
ends (after_high high) (s ∷ u ∷ a ∷ []) h = absurd (false≢true h)
ends (after_high high) (s ∷ u ∷ a ∷ b ∷ []) h = absurd (false≢true h)
ends (after_high high) (s ∷ u ∷ a ∷ b ∷ c ∷ []) h = absurd (false≢true h)
ends (after_high high) (s ∷ u ∷ a ∷ b ∷ c ∷ d ∷ xs) h = high_ends high s u a b c d xs (ends plain xs) ((s == 92) && (u == 117)) (code_unit a b c d) refl refl h
