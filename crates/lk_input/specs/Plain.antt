-- Values that one token writes plainly, and fixed lists item by item. Contracts of private functions speak of these.
use Rattle.std.specs.Prelude.{◌≡◌, ℕ, ◌+◌, List, [], ◌∷◌, Option, Some, None, Result, Ok, Err, ⊤}
use Rattle.std.specs.Fmt.{decimal}
use Rattle.std.specs.Str.Parse.{IsNumeral, digits_value}
use Rattle.json.specs.Token.{Token}
use Rattle.serde_json.specs.Data.{Data, Items, Num, array, no_items, null, item}
use Rattle.serde_json.specs.Find.{as_array}
use Rattle.serde_json.specs.Read.{number_of}
use Rattle.lk_link.specs.declared.symbol.SymbolPlacement.{SymbolPlacement}
use Rattle.lk_input.specs.declared.read.symbol.PlacementForm.{PlacementForm}
use Rattle.lk_input.specs.ReadingSteps.{Path, ◌>>=◌, below, found_by, one_of, wanted}
use Rattle.lk_input.specs.ReadingSymbols.{placements, placement_in}
use Rattle.lk_pieces.specs.Tokens.{data_at}

-- a token is a value by itself, of which f reads x
abbrev pub IsPlain : {A : Type 0} → (Data → Result A Path) → Token → A → Type 0
IsPlain f t x = (d : Data) × ((depth : ℕ) (ts : List Token) → data_at depth (t ∷ ts) ≡ Some (d, ts)) × (f d ≡ Ok x)

-- digits alone, and the number that they are
abbrev pub IsDigits : List ℕ → ℕ → Type 0
IsDigits s n = IsNumeral 10 s × (digits_value 10 s ≡ n)

-- a text writes a number, of which f gives x
abbrev pub Writes : {A : Type 0} → (Num → Option A) → List ℕ → A → Type 0
Writes f s x = (n : Num) × (number_of s ≡ Some n) × (f n ≡ Some x)

-- the first item, if there is one
abbrev pub first_item : Items → Option Data
first_item no_items = None
first_item (item d ds) = Some d

-- those behind it
abbrev pub other_items : Items → Items
other_items no_items = no_items
other_items (item d ds) = ds

-- there are no more items
unfoldable pub no_elements : Items → Result ⊤ Path
no_elements no_items = Ok tt
no_elements (item d ds) = Err []

-- the first of some items, the number of which is i, as f reads it, and the others as g does
unfoldable pub elements_with : {A B : Type 0} → (Data → Result A Path) → (ℕ → Items → Result B Path) → ℕ → Items → Result (A × B) Path
elements_with f g i ds = below (decimal i) (found_by f (first_item ds)) >>= λ x. g (i + 1) (other_items ds) >>= λ xs. Ok (x, xs)

-- items led by one that f reads, the number of which is i: what it is says how g reads the others
unfoldable pub led_by : {A B : Type 0} → (Data → Result A Path) → (A → Items → Result B Path) → ℕ → Items → Result B Path
led_by f g i ds = below (decimal i) (found_by f (first_item ds)) >>= λ x. g x (other_items ds)

-- a placement that begins so, of the items behind; what stands first isn't read again, so `null` stands for it
abbrev pub placed_behind : PlacementForm → Items → Result SymbolPlacement Path
placed_behind form ds = placement_in form (array (item null ds))

-- a placement, of its items
abbrev pub placement_elements : ℕ → Items → Result SymbolPlacement Path
placement_elements = led_by (one_of placements) placed_behind

-- a fixed list of these items
abbrev pub fixed_of : {B : Type 0} → (ℕ → Items → Result B Path) → Data → Result B Path
fixed_of g d = wanted (as_array d) >>= g 0
