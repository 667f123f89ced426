-- The lexemes of a text with a comma behind it.
use Rattle.std.proofs.Common.{◌≡◌, ℕ, zero, suc, ◌≤◌, true, List, [], ◌∷◌, ◌++◌, length, Option, Some, None, is_some, refl, sym, ap, ◌∙◌, append-nil, arith}
use Rattle.std.specs.Prelude.{⊤}
use Rattle.std.proofs.lemmas.Bool.{false≢true}
use Rattle.json.specs.Token.{Token}
use Rattle.json.specs.Text.{content, plain}
use Rattle.json.specs.Lex.{Lexeme, token, comma, colon, Class, quote, backslash, operator, space, other, class, operator_lexeme, string_token, Mode, between, in_word, in_string, lex_byte, lex}
use Rattle.lk_pieces.proofs.Words.{is_good, word-same}
use Rattle.lk_pieces.proofs.Strings.{ends}

-- none of these is a bad token
abbrev pub AreGood : List Lexeme → Type 0
AreGood [] = ⊤
AreGood (token t ∷ ls) = (is_good t ≡ true) × AreGood ls
AreGood (comma ∷ ls) = AreGood ls
AreGood (colon ∷ ls) = AreGood ls

-- in this mode the lexemes of `a` with a comma and `b` behind it are those of `a`, a comma and those of `b`
abbrev pub Lexes : Mode → List ℕ → List ℕ → Type 0
Lexes m a b = AreGood (lex m a) → lex m (a ++ 44 ∷ b) ≡ lex m a ++ comma ∷ lex between b

others_good : (l : Lexeme) (ls : List Lexeme) → AreGood (l ∷ ls) → AreGood ls
others_good (token t) ls h = h.1
others_good comma ls h = h
others_good colon ls h = h

first_good : (t : Token) (ls : List Lexeme) → AreGood (token t ∷ ls) → is_good t ≡ true
first_good t ls h = h.0

string_good : (o : Option (List ℕ)) → is_good (string_token o) ≡ true → is_some o ≡ true
string_good None h = h
string_good (Some s) h = refl

-- the string that a quote begins
string_lexes : (n : ℕ) (xs b : List ℕ) → length xs ≤ n → ((ys : List ℕ) → length ys ≤ n → Lexes between ys b) → is_good (string_token (content plain xs)) ≡ true → AreGood (lex in_string xs)
    → token (string_token (content plain (xs ++ 44 ∷ b))) ∷ lex in_string (xs ++ 44 ∷ b) ≡ token (string_token (content plain xs)) ∷ lex in_string xs ++ comma ∷ lex between b
string_lexes n xs b le more good others =
    let end = ends plain xs (string_good (content plain xs) good) in
    let alone : lex in_string xs ≡ lex between end.rest = ap (lex in_string) (sym (append-nil xs)) ∙ end.passed [] ∙ ap (lex between) (append-nil end.rest) in
    let next = more end.rest (omega (arith, end.shorter)) (subst_good alone others) in
    let behind = end.passed (44 ∷ b) ∙ next ∙ ap (λ ls. ls ++ comma ∷ lex between b) (sym alone) in
    (λ i. token (string_token (end.same (44 ∷ b) i)) ∷ behind i)
  where
    subst_good : {k ls : List Lexeme} → k ≡ ls → AreGood k → AreGood ls
    subst_good e h = rw e at h

abbrev next_lexes : Mode → Class → ℕ → List ℕ → List ℕ → Type 0
next_lexes m c x xs b =
    AreGood (lex_byte m c x xs (λ n. lex n xs)) → lex_byte m c x (xs ++ 44 ∷ b) (λ n. lex n (xs ++ 44 ∷ b)) ≡ lex_byte m c x xs (λ n. lex n xs) ++ comma ∷ lex between b

between_lexes : (n : ℕ) (c : Class) (x : ℕ) (xs b : List ℕ) → length xs ≤ n → ((ys : List ℕ) → length ys ≤ n → Lexes between ys b) → Lexes in_word xs b → next_lexes between c x xs b
between_lexes n quote x xs b le more words h = string_lexes n xs b le more h.0 h.1
between_lexes n backslash x xs b le more words h = absurd (false≢true h.0)
between_lexes n operator x xs b le more words h = ap (λ ls. operator_lexeme x ∷ ls) (more xs le (others_good (operator_lexeme x) (lex between xs) h))
between_lexes n space x xs b le more words h = more xs le h
between_lexes n other x xs b le more words h = λ i. token (word-same x xs b h.0 i) ∷ words h.1 i

word_lexes : (c : Class) (x : ℕ) (xs b : List ℕ) → Lexes between xs b → Lexes in_word xs b → next_lexes in_word c x xs b
word_lexes quote x xs b more words h = words h
word_lexes backslash x xs b more words h = words h
word_lexes operator x xs b more words h = ap (λ ls. operator_lexeme x ∷ ls) (more (others_good (operator_lexeme x) (lex between xs) h))
word_lexes space x xs b more words h = more h
word_lexes other x xs b more words h = words h

lexes-nil : (b : List ℕ) → Lexes between [] b × Lexes in_word [] b
unfolding lex
lexes-nil b = (λ h. refl, λ h. refl)

lexes_to : (n : ℕ) (a b : List ℕ) → length a ≤ n → Lexes between a b × Lexes in_word a b
unfolding lex
lexes_to n [] b le = lexes-nil b
lexes_to zero (x ∷ xs) b le = absurd (omega arith)
lexes_to (suc n) (x ∷ xs) b le =
    let shorter : length xs ≤ n = omega arith in (
      between_lexes n (class x) x xs b shorter (λ ys l. (lexes_to n ys b l).0) (lexes_to n xs b shorter).1,
      word_lexes (class x) x xs b (lexes_to n xs b shorter).0 (lexes_to n xs b shorter).1,
    )

pub lexes : (a b : List ℕ) → AreGood (lex between a) → lex between (a ++ 44 ∷ b) ≡ lex between a ++ comma ∷ lex between b
lexes a b = (lexes_to (length a) a b (omega arith)).0
