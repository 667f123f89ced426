-- What was read at a place among the tokens of a JSON text: the words of private contracts.
use Rattle.std.specs.Prelude.{◌≡◌, ℕ, ◌+◌, ◌<◌, List, length, Option, Some, None, Result, Ok, Err, ⊤}
use Rattle.json.specs.Token.{Token}
use Rattle.json.specs.Json.{parse_map}
use Rattle.serde_json.specs.Data.{no_items, item, Members, put}
use Rattle.serde_json.specs.View.{view}
use Rattle.serde_json.specs.declared.value.Value.{Value}
use Rattle.lk_input.specs.declared.read.error.InputError.{InputError}
use Rattle.lk_input.specs.declared.read.error.InputError.TheVariants as error
use Rattle.lk_input.specs.declared.read.fail.Fail.{Fail}
use Rattle.lk_input.specs.declared.read.fail.Fail.TheVariants.{NotJson, NoMemory}
use Rattle.lk_input.specs.ReadingSteps.{Path}
use Rattle.lk_pieces.specs.Tokens.{items_at, members_at}

-- why nothing was returned: nothing stands there, or memory ran out
abbrev pub Lacks : {B : Type 0} → Fail → Option (B × List Token) → Type 0
Lacks NotJson read = read ≡ None
Lacks NoMemory read = Unit {0}

-- what was returned stands there, and the tokens behind it are left
abbrev pub Stands : {A B : Type 0} → (A → B) → Result A Fail → Option (B × List Token) → List Token → Type 0
Stands seen (Ok x) read left = read ≡ Some (seen x, left)
Stands seen (Err e) read left = Lacks e read

-- of a list, this item was read and others follow, or the end
abbrev pub ItemNext : ℕ → List Token → Result (Option Value) Fail → List Token → Type 0
ItemNext depth old (Ok (Some v)) new = (items_at depth old ≡ parse_map (item (view v)) (items_at depth new)) × (length new < length old)
ItemNext depth old (Ok None) new = items_at depth old ≡ Some (no_items, new)
ItemNext depth old (Err e) new = Lacks e (items_at depth old)

-- of an object, whatever was found before, this member was read and others follow, or the end
abbrev pub MemberNext : {K : Type 0} → (K → List ℕ) → ℕ → List Token → Result (Option (K × Value)) Fail → List Token → Type 0
MemberNext text depth old (Ok (Some (key, v))) new =
    ((ms : Members) → members_at ms depth old ≡ members_at (put (text key) (view v) ms) depth new) × (length new < length old)
MemberNext text depth old (Ok None) new = (ms : Members) → members_at ms depth old ≡ Some (ms, new)
MemberNext text depth old (Err e) new = (ms : Members) → Lacks e (members_at ms depth old)

-- the depth that is left one level further in
abbrev pub IsDeeper : ℕ → Result ℕ Fail → Type 0
IsDeeper depth (Ok d) = depth ≡ d + 1
IsDeeper depth (Err NotJson) = depth ≡ 0
IsDeeper depth (Err NoMemory) = ⊥

-- what was returned is itself what stands there
abbrev pub as_is : {A : Type 0} → A → A
as_is x = x

-- that something stands there, whatever it is
abbrev pub anything : {A : Type 0} → A → ⊤
anything x = tt

-- what was read, with the path of a wrong shape apart from what ends all reading
abbrev pub settled : {A : Type 0} → Result A InputError → Result (Result A Path) Fail
settled (Ok x) = Ok (Ok x)
settled (Err (error.Shape path)) = Ok (Err path)
settled (Err error.NotJson) = Err NotJson
settled (Err error.NoMemory) = Err NoMemory

-- why bytes give no description, if their tokens were read no further
abbrev pub input_error : Fail → InputError
input_error NotJson = error.NotJson
input_error NoMemory = error.NoMemory
