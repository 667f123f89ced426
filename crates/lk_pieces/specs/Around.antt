-- An object with a long list of lists in it: the list at one key, and the other members.
use Rattle.std.specs.Prelude.{◌≡◌, ◌≢◌, ℕ, false, List, [], ◌∷◌, ◌++◌, Some, Result}
use Rattle.std.specs.Str.{IsUtf8}
use Rattle.json.specs.Token.{Token}
use Rattle.json.specs.Lex.{fresh, after_value, tokens}
use Rattle.json.specs.Json.{after_end_array}
use Rattle.serde_json.specs.Data.{Data, Items, Members, no_members, object, array, put}
use Rattle.serde_json.specs.Find.{get_member}
use Rattle.serde_json.specs.Read.{read}
use Rattle.lk_pieces.specs.declared.pieces.Part.{Part}
use Rattle.lk_pieces.specs.Joining.{left_at, Begins}
use Rattle.lk_pieces.specs.Lists.{AreLists}
use Rattle.lk_pieces.specs.Pieces.{Continue}
use Rattle.lk_pieces.specs.Reading.{GiveLists}
use Rattle.lk_pieces.specs.Tokens.{data_at, members_at}

-- of these members d stands at the key, and the others are the same
abbrev pub IsBut : List ℕ → Data → Members → Members → Type 0
IsBut key d ms others = (get_member key ms ≡ Some d) × ((k : List ℕ) → k ≢ key → get_member k others ≡ get_member k ms)

-- the next member was read to the others
abbrev pub IsAdded : List ℕ → ℕ → Members → List Token → Members → List Token → Type 0
IsAdded key depth before old now new = (d : Data) × (data_at depth old ≡ Some (d, new)) × (now ≡ put key d before)

-- whatever tokens stand behind, the members up to the list at this key were found, and it begins here
abbrev pub LeadsIn : List ℕ → ℕ → Members → List Token → Members → List Token → Type 0
LeadsIn key depth before old found new =
    (left_at fresh old ≡ left_at fresh new)
    × ((s r : List Token) (d : Data) → data_at depth (Token.begin_array ∷ new ++ s) ≡ Some (d, r) → members_at before depth (old ++ s) ≡ members_at (put key d found) depth r)

-- the members up to the end of the object were found, and none of them has this key
abbrev pub Completes : List ℕ → ℕ → Members → List Token → Members → List Token → Type 0
Completes key depth before old now new =
    (ms : Members) (d : Data) → IsBut key d ms before → (all : Members) × (members_at ms depth old ≡ Some (all, new)) × IsBut key d all now

-- the first piece: members up to the list at this key, and lists in it
abbrev pub OpensObject : {A E : Type 0} → (Data → Result A E) → List ℕ → List ℕ → Part A → Members → Type 0
OpensObject f key piece part found =
    IsUtf8 piece × (left_at fresh (tokens piece) ≡ Some after_value) × (ts us : List Token) × (tokens piece ≡ Token.begin_object ∷ ts) × LeadsIn key 126 no_members ts found us
    × AreLists f 124 false us part.closed.items part.unclosed []

-- the last: lists up to the end of the list, and the members behind it up to the end of the object and the text
abbrev pub ClosesObject : {A E : Type 0} → (Data → Result A E) → List ℕ → List ℕ → Part A → Members → Members → Type 0
ClosesObject f key piece part before now =
    IsUtf8 piece × Begins (tokens piece) × (r us : List Token) × AreLists f 124 part.within (tokens piece) part.closed.items part.unclosed r × (after_end_array r ≡ Some us) × Completes key 126 before us now []

-- a text is an object with a list of lists at this key, of the items of which f reads these, and these other members
abbrev pub HoldsList : {A E : Type 0} → (Data → Result A E) → List ℕ → List ℕ → List (List A) → Members → Type 0
HoldsList f key text xss others =
    IsUtf8 text × (ms : Members) × (read text ≡ Some (object ms)) × (ds : Items) × IsBut key (array ds) ms others × GiveLists f ds xss

-- of the first piece, those behind it and the last, lists and the other members were read
abbrev pub ReadsEnds : {A E : Type 0} → (Data → Result A E) → List ℕ → List ℕ → List (List ℕ) → List ℕ → Part A → Part A → Members → Type 0
ReadsEnds {A} f key first near last opening ending others =
    (found : Members) × (front : Part A) × OpensObject f key first front found × Continue f 124 near front opening × ClosesObject f key last ending found others
