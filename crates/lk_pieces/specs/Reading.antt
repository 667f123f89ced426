-- What is read of tokens, with others behind them.
use Rattle.std.specs.Prelude.{◌≡◌, ℕ, List, [], ◌∷◌, ◌++◌, Some, Result, Ok, ⊤}
use Rattle.json.specs.Token.{Token}
use Rattle.json.specs.Lex.{Place, after_value}
use Rattle.json.specs.Json.{Parse}
use Rattle.serde_json.specs.Data.{Data, Items, no_items, item, array}
use Rattle.lk_pieces.specs.Joining.{left_at}
use Rattle.lk_pieces.specs.Tokens.{data_at}

-- what f reads has no bad token and leaves the text behind a value, and f reads the same with more tokens behind
abbrev pub Runs : {A : Type 0} → Parse A → Type 0
Runs {A} f = (ts : List Token) (a : A) (r : List Token) → f ts ≡ Some (a, r)
    → ((p : Place) → left_at p ts ≡ left_at after_value r) × ((s : List Token) → f (ts ++ s) ≡ Some (a, r ++ s))

-- the tokens begin with a value of which f reads x, and leave those behind it
abbrev pub IsRead : {A E : Type 0} → (Data → Result A E) → ℕ → List Token → A → List Token → Type 0
IsRead f depth ts x r = (d : Data) × (data_at depth ts ≡ Some (d, r)) × (f d ≡ Ok x)

-- the tokens begin with values of which f reads these, one after the other, and leave those behind them
unfoldable pub AreRead : {A E : Type 0} → (Data → Result A E) → ℕ → List Token → List A → List Token → Type 0
AreRead f depth ts [] r = ts ≡ r
AreRead f depth ts (x ∷ xs) r = (s : List Token) × IsRead f depth ts x s × AreRead f depth s xs r

-- of these items f reads these values
unfoldable pub Give : {A E : Type 0} → (Data → Result A E) → Items → List A → Type 0
Give f no_items [] = ⊤
Give f no_items (x ∷ xs) = ⊥
Give f (item d ds) [] = ⊥
Give f (item d ds) (x ∷ xs) = (f d ≡ Ok x) × Give f ds xs

-- these items are lists, of whose items f reads these values
unfoldable pub GiveLists : {A E : Type 0} → (Data → Result A E) → Items → List (List A) → Type 0
GiveLists f no_items [] = ⊤
GiveLists f no_items (xs ∷ xss) = ⊥
GiveLists f (item d ds) [] = ⊥
GiveLists f (item d ds) (xs ∷ xss) = (es : Items) × (d ≡ array es) × Give f es xs × GiveLists f ds xss
