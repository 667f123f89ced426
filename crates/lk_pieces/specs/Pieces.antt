-- A text in pieces, with a comma between one and the next.
use Rattle.std.specs.Prelude.{◌≡◌, ℕ, Bool, true, List, [], ◌∷◌, ◌++◌, map, Option, Some, Result, ⊤}
use Rattle.std.specs.Borrow.{Bor}
use Rattle.std.specs.Str.{IsUtf8}
use Rattle.json.specs.Token.{Token}
use Rattle.json.specs.Lex.{fresh, after_value, tokens}
use Rattle.serde_json.specs.Data.{Data}
use Rattle.lk_pieces.specs.declared.pieces.Part.{Part}
use Rattle.lk_pieces.specs.Joining.{left_at, Begins}
use Rattle.lk_pieces.specs.Lists.{AreLists, GoesOn}

-- the text of these pieces and the last
abbrev pub joined : List (List ℕ) → List ℕ → List ℕ
joined [] last = last
joined (p ∷ ps) last = p ++ 44 ∷ joined ps last

-- the bytes of pieces that are lent
abbrev pub bytes_of : List (Bor (List ℕ)) → List (List ℕ)
bytes_of ps = map (λ p. p.now) ps

-- the tokens of pieces, of one after the other
abbrev pub tokens_of : List (List ℕ) → List Token
tokens_of [] = []
tokens_of (p ∷ ps) = tokens p ++ tokens_of ps

-- each is UTF-8, begins with a value and ends behind one
unfoldable pub ArePieces : List (List ℕ) → Type 0
ArePieces [] = ⊤
ArePieces (p ∷ ps) = (IsUtf8 p × Begins (tokens p) × (left_at fresh (tokens p) ≡ Some after_value)) × ArePieces ps

-- pieces are these lists
abbrev pub AreHeld : {A E : Type 0} → (Data → Result A E) → ℕ → List (List ℕ) → Part A → Type 0
AreHeld f depth ps part = ArePieces ps × AreLists f depth part.within (tokens_of ps) part.closed.items part.unclosed []

-- with these pieces behind them, what was read becomes this
abbrev pub Continue : {A E : Type 0} → (Data → Result A E) → ℕ → List (List ℕ) → Part A → Part A → Type 0
Continue f depth ps old new = ArePieces ps × GoesOn f depth (tokens_of ps) old.closed.items old.unclosed new.closed.items new.unclosed []

-- with what was read of tokens from within a list, up to some behind, these lists and the open one become those
abbrev pub JoinsRows : {A E : Type 0} → (Data → Result A E) → List (List A) → List A → List (List A) → Option (List A) → Part A → Type 0
JoinsRows f xss row yss unclosed both =
    (depth : ℕ) (within : Bool) (us ts r : List Token) → AreLists f depth within us xss (Some row) [] → AreLists f depth true ts yss unclosed r → AreLists f depth within (us ++ ts) both.closed.items both.unclosed r

-- one part and what was read of tokens behind it are this one
abbrev pub Joins : {A E : Type 0} → (Data → Result A E) → Part A → Part A → Part A → Type 0
Joins f part more both =
    (depth : ℕ) (within : Bool) (us ts r : List Token) → AreLists f depth within us part.closed.items part.unclosed [] → AreLists f depth more.within ts more.closed.items more.unclosed r
    → AreLists f depth within (us ++ ts) both.closed.items both.unclosed r
