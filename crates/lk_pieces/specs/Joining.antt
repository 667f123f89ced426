-- The tokens of two texts that are put together with a comma between them.
use Rattle.std.specs.Prelude.{◌≡◌, ℕ, List, [], ◌∷◌, ◌++◌, Option, Some, None, ⊤, option_and_then}
use Rattle.json.specs.Token.{Token}
use Rattle.json.specs.Lex.{Place, fresh, after_value, tokens}

-- where a text stands behind a token, if that is no bad one
abbrev pub place_behind : Token → Option Place
place_behind Token.begin_object = Some fresh
place_behind Token.end_object = Some after_value
place_behind Token.begin_array = Some fresh
place_behind Token.end_array = Some after_value
place_behind (Token.key s) = Some fresh
place_behind (Token.string s) = Some after_value
place_behind (Token.number s) = Some after_value
place_behind (Token.boolean b) = Some after_value
place_behind Token.null = Some after_value
place_behind Token.bad = None

-- where a text stands behind these tokens, if it stood here before them and none of them is bad
unfoldable pub left_at : Place → List Token → Option Place
left_at p [] = Some p
left_at p (t ∷ ts) = option_and_then (λ q. left_at q ts) (place_behind t)

-- a value or a key comes first
abbrev pub Begins : List Token → Type 0
Begins [] = ⊥
Begins (Token.begin_object ∷ ts) = ⊤
Begins (Token.end_object ∷ ts) = ⊥
Begins (Token.begin_array ∷ ts) = ⊤
Begins (Token.end_array ∷ ts) = ⊥
Begins (Token.key s ∷ ts) = ⊤
Begins (Token.string s ∷ ts) = ⊤
Begins (Token.number s ∷ ts) = ⊤
Begins (Token.boolean b ∷ ts) = ⊤
Begins (Token.null ∷ ts) = ⊤
Begins (Token.bad ∷ ts) = ⊥

-- where the first text ends behind a value and the second begins with one, a comma between them makes one text of both
abbrev pub PiecesJoin : List ℕ → List ℕ → Type 0
PiecesJoin a b = left_at fresh (tokens a) ≡ Some after_value → Begins (tokens b) → tokens (a ++ 44 ∷ b) ≡ tokens a ++ tokens b
