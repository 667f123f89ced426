-- The tokens of a text with a comma and another text behind it.
use Rattle.std.proofs.Common.{◌≡◌, ℕ, Bool, true, false, List, [], ◌∷◌, ◌++◌, Some, option_and_then, refl, sym, ap, ◌∙◌}
use Rattle.json.specs.Token.{Token}
use Rattle.json.specs.Lex.{Lexeme, token, comma, colon, Place, fresh, after_value, after_comma, after_key, begins_colon, may_begin, may_close, if_allowed, place_token, between, lex, punctuate}
use Rattle.lk_pieces.specs.Joining.{place_behind, left_at, Begins, PiecesJoin}
use Rattle.lk_pieces.proofs.Lexing.{AreGood, lexes}

-- where a text stands, as its tokens show it: what a comma or a colon changes isn't seen
abbrev shown : Place → Place
shown fresh = fresh
shown after_value = after_value
shown after_comma = after_value
shown after_key = fresh

-- none of these tokens is bad, and behind them the text stands here
abbrev Leaves : Place → List Token → Place → Type 0
Leaves p ts q = left_at (shown p) ts ≡ Some q

bad_leaves : {P : Type 0} (p q : Place) → Leaves p (Token.bad ∷ []) q → P
unfolding left_at
bad_leaves p q h = absurd cc

-- the tokens behind one that leads to this place
leaves_next : (p next q : Place) (t : Token) (ts : List Token) → place_behind t ≡ Some (shown next) → Leaves p (t ∷ ts) q → Leaves next ts q
unfolding left_at
leaves_next p next q t ts e h = ap (option_and_then (λ x. left_at x ts)) (sym e) ∙ h

-- ---- one lexeme after the other, with others behind

module _ (ls ms : List Lexeme) where
  -- with the others behind, what these lexemes give and then what the others give
  abbrev Continues : Type 0
  Continues = (p q : Place) → Leaves p (punctuate p ls) q → punctuate p (ls ++ ms) ≡ punctuate p ls ++ punctuate q ms

  allowed_join : Continues → (b : Bool) (t : Token) (p next q : Place) → place_behind t ≡ Some (shown next) → Leaves p (if_allowed b t (λ n. punctuate n ls) next) q
      → if_allowed b t (λ n. punctuate n (ls ++ ms)) next ≡ if_allowed b t (λ n. punctuate n ls) next ++ punctuate q ms
  allowed_join more true t p next q e h = ap (λ ts. t ∷ ts) (more next q (leaves_next p next q t (punctuate next ls) e h))
  allowed_join more false t p next q e h = bad_leaves p q h

  string_join : Continues → (c : Bool) (s : List ℕ) (p q : Place) → Leaves p (place_token p (Token.string s) c (λ n. punctuate n ls)) q
      → place_token p (Token.string s) c (λ n. punctuate n (ls ++ ms)) ≡ place_token p (Token.string s) c (λ n. punctuate n ls) ++ punctuate q ms
  string_join more true s p q h = allowed_join more (may_begin p) (Token.key s) p after_key q refl h
  string_join more false s p q h = allowed_join more (may_begin p) (Token.string s) p after_value q refl h

  token_join : Continues → (t : Token) (c : Bool) (p q : Place) → Leaves p (place_token p t c (λ n. punctuate n ls)) q
      → place_token p t c (λ n. punctuate n (ls ++ ms)) ≡ place_token p t c (λ n. punctuate n ls) ++ punctuate q ms
  token_join more Token.begin_object c p q h = allowed_join more (may_begin p) Token.begin_object p fresh q refl h
  token_join more Token.end_object c p q h = allowed_join more (may_close p) Token.end_object p after_value q refl h
  token_join more Token.begin_array c p q h = allowed_join more (may_begin p) Token.begin_array p fresh q refl h
  token_join more Token.end_array c p q h = allowed_join more (may_close p) Token.end_array p after_value q refl h
  token_join more (Token.key s) c p q h = bad_leaves p q h
  token_join more (Token.string s) c p q h = string_join more c s p q h
  token_join more (Token.number s) c p q h = allowed_join more (may_begin p) (Token.number s) p after_value q refl h
  token_join more (Token.boolean b) c p q h = allowed_join more (may_begin p) (Token.boolean b) p after_value q refl h
  token_join more Token.null c p q h = allowed_join more (may_begin p) Token.null p after_value q refl h
  token_join more Token.bad c p q h = bad_leaves p q h

some_is : (p q : Place) → Some p ≡ Some q → p ≡ q
some_is p q e = cc

nothing_join : (ms : List Lexeme) (p q : Place) → Leaves p (punctuate p []) q → punctuate p ([] ++ ms) ≡ punctuate p [] ++ punctuate q ms
unfolding left_at punctuate
nothing_join ms fresh q h = ap (λ x. punctuate x ms) (some_is fresh q h)
nothing_join ms after_value q h = ap (λ x. punctuate x ms) (some_is after_value q h)
nothing_join ms after_comma q h = bad_leaves after_comma q h
nothing_join ms after_key q h = bad_leaves after_key q h

comma_join : (ls ms : List Lexeme) → Continues ls ms → Continues (comma ∷ ls) ms
unfolding punctuate
comma_join ls ms more fresh q h = bad_leaves fresh q h
comma_join ls ms more after_value q h = more after_comma q h
comma_join ls ms more after_comma q h = bad_leaves after_comma q h
comma_join ls ms more after_key q h = bad_leaves after_key q h

colon_join : (ls ms : List Lexeme) → Continues ls ms → Continues (colon ∷ ls) ms
unfolding punctuate
colon_join ls ms more fresh q h = bad_leaves fresh q h
colon_join ls ms more after_value q h = bad_leaves after_value q h
colon_join ls ms more after_comma q h = bad_leaves after_comma q h
colon_join ls ms more after_key q h = more fresh q h

same_colon : (ls ms : List Lexeme) → begins_colon ms ≡ false → begins_colon (ls ++ ms) ≡ begins_colon ls
same_colon [] ms e = e
same_colon (token t ∷ ls) ms e = refl
same_colon (comma ∷ ls) ms e = refl
same_colon (colon ∷ ls) ms e = refl

first_join : (t : Token) (ls ms : List Lexeme) → begins_colon ms ≡ false → Continues ls ms → Continues (token t ∷ ls) ms
unfolding punctuate
first_join t ls ms e more p q h =
    ap (λ c. place_token p t c (λ n. punctuate n (ls ++ ms))) (same_colon ls ms e) ∙ token_join ls ms more t (begins_colon ls) p q h

punctuate-join : (ls ms : List Lexeme) → begins_colon ms ≡ false → Continues ls ms
punctuate-join [] ms e = nothing_join ms
punctuate-join (token t ∷ ls) ms e = first_join t ls ms e (punctuate-join ls ms e)
punctuate-join (comma ∷ ls) ms e = comma_join ls ms (punctuate-join ls ms e)
punctuate-join (colon ∷ ls) ms e = colon_join ls ms (punctuate-join ls ms e)

-- ---- where no token is bad, no lexeme is

module _ (ls : List Lexeme) (more : (p q : Place) → Leaves p (punctuate p ls) q → AreGood ls) where
  allowed_good : (b : Bool) (t : Token) (p next q : Place) → place_behind t ≡ Some (shown next) → Leaves p (if_allowed b t (λ n. punctuate n ls) next) q → AreGood ls
  allowed_good true t p next q e h = more next q (leaves_next p next q t (punctuate next ls) e h)
  allowed_good false t p next q e h = bad_leaves p q h

  string_good : (c : Bool) (s : List ℕ) (p q : Place) → Leaves p (place_token p (Token.string s) c (λ n. punctuate n ls)) q → AreGood (token (Token.string s) ∷ ls)
  string_good true s p q h = (refl, allowed_good (may_begin p) (Token.key s) p after_key q refl h)
  string_good false s p q h = (refl, allowed_good (may_begin p) (Token.string s) p after_value q refl h)

  token_good : (t : Token) (c : Bool) (p q : Place) → Leaves p (place_token p t c (λ n. punctuate n ls)) q → AreGood (token t ∷ ls)
  token_good Token.begin_object c p q h = (refl, allowed_good (may_begin p) Token.begin_object p fresh q refl h)
  token_good Token.end_object c p q h = (refl, allowed_good (may_close p) Token.end_object p after_value q refl h)
  token_good Token.begin_array c p q h = (refl, allowed_good (may_begin p) Token.begin_array p fresh q refl h)
  token_good Token.end_array c p q h = (refl, allowed_good (may_close p) Token.end_array p after_value q refl h)
  token_good (Token.key s) c p q h = bad_leaves p q h
  token_good (Token.string s) c p q h = string_good c s p q h
  token_good (Token.number s) c p q h = (refl, allowed_good (may_begin p) (Token.number s) p after_value q refl h)
  token_good (Token.boolean b) c p q h = (refl, allowed_good (may_begin p) (Token.boolean b) p after_value q refl h)
  token_good Token.null c p q h = (refl, allowed_good (may_begin p) Token.null p after_value q refl h)
  token_good Token.bad c p q h = bad_leaves p q h

  comma_good : (p q : Place) → Leaves p (punctuate p (comma ∷ ls)) q → AreGood (comma ∷ ls)
  unfolding punctuate
  comma_good fresh q h = bad_leaves fresh q h
  comma_good after_value q h = more after_comma q h
  comma_good after_comma q h = bad_leaves after_comma q h
  comma_good after_key q h = bad_leaves after_key q h

  colon_good : (p q : Place) → Leaves p (punctuate p (colon ∷ ls)) q → AreGood (colon ∷ ls)
  unfolding punctuate
  colon_good fresh q h = bad_leaves fresh q h
  colon_good after_value q h = bad_leaves after_value q h
  colon_good after_comma q h = bad_leaves after_comma q h
  colon_good after_key q h = more fresh q h

all_good : (ls : List Lexeme) (p q : Place) → Leaves p (punctuate p ls) q → AreGood ls
unfolding punctuate
all_good [] p q h = tt
all_good (token t ∷ ls) p q h = token_good ls (all_good ls) t (begins_colon ls) p q h
all_good (comma ∷ ls) p q h = comma_good ls (all_good ls) p q h
all_good (colon ∷ ls) p q h = colon_good ls (all_good ls) p q h

-- ---- where a value begins, it stands behind a comma as at the beginning

begins_fresh : (t : Token) (c : Bool) (k : Place → List Token) → Begins (place_token fresh t c k) → place_token after_comma t c k ≡ place_token fresh t c k
begins_fresh Token.begin_object c k h = refl
begins_fresh Token.end_object c k h = absurd h
begins_fresh Token.begin_array c k h = refl
begins_fresh Token.end_array c k h = absurd h
begins_fresh (Token.key s) c k h = absurd h
begins_fresh (Token.string s) true k h = refl
begins_fresh (Token.string s) false k h = refl
begins_fresh (Token.number s) c k h = refl
begins_fresh (Token.boolean b) c k h = refl
begins_fresh Token.null c k h = refl
begins_fresh Token.bad c k h = absurd h

behind_comma : (ms : List Lexeme) → Begins (punctuate fresh ms) → punctuate after_comma ms ≡ punctuate fresh ms
unfolding punctuate
behind_comma [] h = absurd h
behind_comma (token t ∷ ms) h = begins_fresh t (begins_colon ms) (λ n. punctuate n ms) h
behind_comma (comma ∷ ms) h = absurd h
behind_comma (colon ∷ ms) h = absurd h

comma_first : (ms : List Lexeme) → punctuate after_value (comma ∷ ms) ≡ punctuate after_comma ms
unfolding punctuate
comma_first ms = refl

pub joins : (a b : List ℕ) → PiecesJoin a b
joins a b ends begins =
    let ls = lex between a in
    let ms = lex between b in
    ap (punctuate fresh) (lexes a b (all_good ls fresh after_value ends))
    ∙ punctuate-join ls (comma ∷ ms) refl fresh after_value ends
    ∙ ap (λ ts. punctuate fresh ls ++ ts) (comma_first ms ∙ behind_comma ms begins)
