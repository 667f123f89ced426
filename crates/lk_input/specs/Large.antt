-- Objects of which the large members are read where they stand: the words of private contracts.
use Rattle.std.specs.Prelude.{◌≡◌, ℕ, List, Bool, true, false, Option, Some, Result, Ok, Err, ⊤, String, unwrap_or}
use Rattle.std.specs.BTreeMap.{BTreeMap}
use Rattle.std.specs.declared.alloc.Global.{Global}
use Rattle.json.specs.Token.{Token}
use Rattle.serde_json.specs.Data.{Data, Members, no_members, put}
use Rattle.serde_json.specs.Find.{get_member}
use Rattle.serde_json.specs.View.{members_view}
use Rattle.serde_json.specs.declared.value.Value.{Value}
use Rattle.lk_input.specs.declared.read.fail.Fail.{Fail}
use Rattle.lk_input.specs.ReadingSteps.{Path, below}
use Rattle.lk_pieces.specs.Tokens.{data_at, members_at}
use Rattle.lk_input.specs.Tokens.{Lacks}

-- of all members of an object, what is kept of the large ones, and the others
pub record IsSplit {L : Type 0} (is_large : List ℕ → Bool) (kept : Members → L) (ms : Members) (large : L) (others : Members) : Type 0 where
  pub are_kept : large ≡ kept ms
  pub stay : (k : List ℕ) → is_large k ≡ false → get_member k others ≡ get_member k ms

-- a value was read, and is kept in place of what was
abbrev pub Rereads : {A : Type 0} → (Data → Result A Path) → ℕ → List Token → Result ⊤ Fail → Option (Result A Path) → List Token → Type 0
Rereads f depth old (Ok _) kept new = (d : Data) × (data_at depth old ≡ Some (d, new)) × (kept ≡ Some (f d))
Rereads f depth old (Err e) kept new = Lacks e (data_at depth old)

-- a large member was read and is kept as that of this key, or it is none, and nothing is changed or kept of it
abbrev pub Taken : {L : Type 0} → (List ℕ → Bool) → (Members → L) → List ℕ → ℕ → L → List Token → Result Bool Fail → L → List Token
    → Type 0
Taken is_large kept key depth before old (Ok true) large new =
    (is_large key ≡ true) × (d : Data) × (data_at depth old ≡ Some (d, new))
    × ((ms : Members) → before ≡ kept ms → large ≡ kept (put key d ms))
Taken is_large kept key depth before old (Ok false) large new =
    (is_large key ≡ false) × (new ≡ old) × (large ≡ before) × ((ms : Members) (d : Data) → kept (put key d ms) ≡ kept ms)
Taken is_large kept key depth before old (Err e) large new = Lacks e (data_at depth old)

-- a member was read, and is now among those of this object
abbrev pub Adds : {L : Type 0} → (List ℕ → Bool) → (Members → L) → List ℕ → ℕ → L → Members → List Token → Result ⊤ Fail → L → Members
    → List Token → Type 0
Adds is_large kept key depth before among old (Ok _) large others new =
    (d : Data) × (data_at depth old ≡ Some (d, new))
    × ((ms : Members) → IsSplit is_large kept ms before among → IsSplit is_large kept (put key d ms) large others)
Adds is_large kept key depth before among old (Err e) large others new = Lacks e (data_at depth old)

-- all members of an object were read
abbrev pub Splits : {L : Type 0} → (List ℕ → Bool) → (Members → L) → ℕ → List Token → Result (L × BTreeMap (String Global) Value) Fail
    → List Token → Type 0
Splits is_large kept depth old (Ok (large, others)) new =
    (ms : Members) × (members_at no_members depth old ≡ Some (ms, new)) × IsSplit is_large kept ms large (members_view others.entries)
Splits is_large kept depth old (Err e) new = Lacks e (members_at no_members depth old)

-- what was kept of a large member, or the default
abbrev pub kept_or : {A : Type 0} → A → List ℕ → Option (Result A Path) → Result A Path
kept_or other key kept = below key (unwrap_or kept (Ok other))
