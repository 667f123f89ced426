-- Lists in a list, one after the other, of which a piece may begin within the first and end within the last.
use Rattle.std.specs.Prelude.{◌≡◌, ℕ, ◌<◌, Bool, true, false, List, [], ◌∷◌, ◌++◌, length, Option, Some, None, IfSome, Result, ⊤}
use Rattle.json.specs.Token.{Token}
use Rattle.json.specs.Lex.{fresh, after_value}
use Rattle.json.specs.Json.{after_end_array}
use Rattle.serde_json.specs.Data.{Data}
use Rattle.lk_pieces.specs.Joining.{left_at, Begins}
use Rattle.lk_pieces.specs.Reading.{IsRead, AreRead}

-- the items of a list stand next: at once within it, else behind its bracket
abbrev pub Enters : Bool → List Token → List Token → Type 0
Enters true ts us = ts ≡ us
Enters false ts us = ts ≡ Token.begin_array ∷ us

-- from within a list or from between lists, the tokens are lists of values of which f reads these, and the values of one that stays open
unfoldable pub AreLists : {A E : Type 0} → (Data → Result A E) → ℕ → Bool → List Token → List (List A) → Option (List A) → List Token → Type 0
AreLists f depth within ts [] None r = (within ≡ false) × (ts ≡ r)
AreLists f depth within ts [] (Some xs) r = (us : List Token) × Enters within ts us × AreRead f depth us xs r
AreLists f depth within ts (xs ∷ xss) unclosed r =
    (us vs s : List Token) × Enters within ts us × AreRead f depth us xs vs × (after_end_array vs ≡ Some s) × AreLists f depth false s xss unclosed r

-- ---- what readers do

-- an item was read, behind the others
abbrev pub ReadsItem : {A E : Type 0} → (Data → Result A E) → ℕ → List Token → List A → List A → List Token → Type 0
ReadsItem {A} f depth ts old new r = (x : A) × (new ≡ old ++ x ∷ []) × IsRead f depth ts x r

-- a list ends behind its items, or the tokens do, and it stays open
abbrev pub EndsRow : Bool → List Token → List Token → Type 0
EndsRow true vs r = (vs ≡ []) × (r ≡ [])
EndsRow false vs r = after_end_array vs ≡ Some r

-- items were read up to there, one or more, behind the others
abbrev pub ReadsRow : {A E : Type 0} → (Data → Result A E) → ℕ → List Token → List A → List A → Bool → List Token → Type 0
ReadsRow {A} f depth ts old new unclosed r = (more : List A) × (vs : List Token) × (new ≡ old ++ more) × (0 < length more) × AreRead f depth ts more vs × EndsRow unclosed vs r

-- a list that stays open has an item, and the tokens end within it
abbrev pub StaysOpen : {A : Type 0} → Option (List A) → List Token → Type 0
StaysOpen None r = ⊤
StaysOpen (Some xs) r = (0 < length xs) × (r ≡ [])

-- the rest of an open list was read
abbrev pub ReadsRest : {A E : Type 0} → (Data → Result A E) → ℕ → List Token → List A → List (List A) → List (List A) → Option (List A) → List Token → Type 0
ReadsRest {A} f depth ts row old new None r = (more : List A) × (new ≡ old ++ (row ++ more) ∷ []) × AreLists f depth true ts (more ∷ []) None r
ReadsRest {A} f depth ts row old new (Some xs) r =
    (more : List A) × (new ≡ old) × (xs ≡ row ++ more) × StaysOpen (Some more) r × AreLists f depth true ts [] (Some more) r

-- lists were read, behind the others
abbrev pub ReadsOn : {A E : Type 0} → (Data → Result A E) → ℕ → Bool → List Token → List (List A) → List (List A) → Option (List A) → List Token → Type 0
ReadsOn {A} f depth within ts old new unclosed r = (xss : List (List A)) × (new ≡ old ++ xss) × AreLists f depth within ts xss unclosed r × StaysOpen unclosed r

-- with these tokens behind them, lists and what is open become others
abbrev pub GoesOn : {A E : Type 0} → (Data → Result A E) → ℕ → List Token → List (List A) → Option (List A) → List (List A) → Option (List A) → List Token → Type 0
GoesOn f depth ts old unclosed new next r = (within : Bool) (us : List Token) → AreLists f depth within us old unclosed [] → AreLists f depth within (us ++ ts) new next r

-- the rest of the open list was read, or the next list
abbrev pub ReadsFirst : {A E : Type 0} → (Data → Result A E) → ℕ → List Token → List (List A) → Option (List A) → List (List A) → Option (List A) → List Token → Type 0
ReadsFirst f depth ts old unclosed new next r =
    Begins ts × (left_at fresh ts ≡ left_at after_value r) × GoesOn f depth ts old unclosed new next r × IfSome next (λ _. r ≡ [])
