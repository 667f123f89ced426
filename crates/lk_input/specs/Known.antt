-- Objects of which each known member is read where it stands: the words of private contracts.
use Rattle.std.specs.Prelude.{◌≡◌, ℕ, List, [], false, Option, Some, None, Result, Ok, Err, ⊤, option_map, unwrap_or}
use Rattle.json.specs.Token.{Token}
use Rattle.serde_json.specs.Data.{Data, Members, put}
use Rattle.serde_json.specs.Find.{get_member}
use Rattle.lk_link.specs.declared.symbol.InputSymbol.{InputSymbol}
use Rattle.lk_input.specs.declared.read.fail.Fail.{Fail}
use Rattle.lk_input.specs.declared.read.symbol.SymbolKey.TheVariants as key
use Rattle.lk_input.specs.declared.read.symbol.SymbolMembers.{SymbolMembers}
use Rattle.lk_input.specs.Large.{kept_or}
use Rattle.lk_input.specs.ReadingSteps.{Path, ◌>>=◌, below, index_of, text_of, truth_of}
use Rattle.lk_input.specs.ReadingSymbols.{symbol_placement_of}
use Rattle.lk_pieces.specs.Tokens.{data_at, members_at}
use Rattle.lk_input.specs.Tokens.{Lacks}
use Rattle.lk_input.specs.Keys.{symbol_key_text}

-- the member of this key was read: of whatever members something was kept before, it is now kept of them with this one
abbrev pub Keeps : {K : Type 0} → (Members → K) → List ℕ → ℕ → K → List Token → Result ⊤ Fail → K → List Token → Type 0
Keeps kept key depth before old (Ok _) now new =
    (d : Data) × (data_at depth old ≡ Some (d, new)) × ((ms : Members) → before ≡ kept ms → now ≡ kept (put key d ms))
Keeps kept key depth before old (Err e) now new = Lacks e (data_at depth old)

-- all members of an object were read: of whatever members something was kept before, it is now kept of them with these
abbrev pub Gathers : {K : Type 0} → (Members → K) → ℕ → K → List Token → Result ⊤ Fail → K → List Token → Type 0
Gathers kept depth before old (Ok _) now new =
    (found : Members) → before ≡ kept found → (ms : Members) × (members_at found depth old ≡ Some (ms, new)) × (now ≡ kept ms)
Gathers kept depth before old (Err e) now new = (found : Members) → before ≡ kept found → Lacks e (members_at found depth old)

-- what was kept of a member that must be there
abbrev pub kept_needed : {A : Type 0} → List ℕ → Option (Result A Path) → Result A Path
kept_needed key kept = below key (unwrap_or kept (Err []))

-- of one that may be there, if it was
abbrev pub kept_optional : {A : Type 0} → List ℕ → Option (Result A Path) → Result (Option A) Path
kept_optional key kept = kept_or None key (option_map (λ r. r >>= λ x. Ok (Some x)) kept)

-- ---- symbols

-- what is kept of the members of a symbol
abbrev pub symbol_kept : Members → SymbolMembers
symbol_kept ms = record {
  name = option_map text_of (get_member (symbol_key_text key.Name) ms);
  at = option_map symbol_placement_of (get_member (symbol_key_text key.At) ms);
  def = option_map index_of (get_member (symbol_key_text key.Def) ms);
  flags = option_map index_of (get_member (symbol_key_text key.Flags) ms);
  local = option_map truth_of (get_member (symbol_key_text key.Local) ms);
  weak = option_map truth_of (get_member (symbol_key_text key.Weak) ms);
  hidden = option_map truth_of (get_member (symbol_key_text key.Hidden) ms);
}

-- a symbol, of what was kept, in the order of the format
unfoldable pub symbol_from : SymbolMembers → Result InputSymbol Path
symbol_from known = do
  name ← kept_or [] (symbol_key_text key.Name) known.name
  at ← kept_needed (symbol_key_text key.At) known.at
  def ← kept_optional (symbol_key_text key.Def) known.def
  flags ← kept_or 0 (symbol_key_text key.Flags) known.flags
  local ← kept_or false (symbol_key_text key.Local) known.local
  weak ← kept_or false (symbol_key_text key.Weak) known.weak
  hidden ← kept_or false (symbol_key_text key.Hidden) known.hidden
  Ok (record { name = name; at = at; def = def; flags = record { 0 = flags }; local = local; weak = weak; hidden = hidden })
