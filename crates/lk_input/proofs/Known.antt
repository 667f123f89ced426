-- Objects of which each known member is read where it stands.
use Rattle.std.proofs.Common.{◌≡◌, ℕ, List, [], Bool, true, false, Option, Some, None, option_map, if◌then◌else◌, Result, Ok, Err, refl, sym, ap, ◌∙◌}
use Rattle.std.specs.Bool.{⊤}
use Rattle.std.specs.Str.{bytes_eq}
use Rattle.std.proofs.lemmas.Slice.Eq.{bytes_eq-Decides}
use Rattle.json.specs.Token.{Token}
use Rattle.json.specs.Json.{parse_map}
use Rattle.serde_json.specs.Data.{Data, object, Members, put}
use Rattle.serde_json.specs.Find.{get_member}
use Rattle.serde_json.proofs.Views.{get_member-put, get_member-put_other}
use Rattle.lk_input.specs.declared.read.fail.Fail.{Fail}
use Rattle.lk_input.specs.declared.read.symbol.SymbolKey.TheVariants as key
use Rattle.lk_input.specs.declared.read.symbol.SymbolMembers.{SymbolMembers}
use Rattle.lk_input.specs.Known.{Keeps, kept_needed, kept_optional, symbol_from, symbol_kept}
use Rattle.lk_input.specs.Large.{Rereads, kept_or}
use Rattle.lk_input.specs.ReadingSteps.{Path, ◌>>=◌, below, found_by, found_or, index_of, present, text_of, truth_of}
use Rattle.lk_input.specs.ReadingSymbols.{input_symbol_of, symbol_placement_of}
use Rattle.lk_pieces.specs.Tokens.{data_at}
use Rattle.lk_input.specs.Tokens.{Stands, anything}
use Rattle.lk_input.proofs.Lists.{made, made-none}
use Rattle.lk_input.proofs.Objects.{WantsObject, differ}
use Rattle.lk_input.proofs.Values.{lacks-so}
use Rattle.lk_input.specs.Keys.{symbol_key_text}

-- ---- a member that is put

field_by : {A : Type 0} (f : Data → A) (k key : List ℕ) (d : Data) (ms : Members) (b : Bool) → bytes_eq key k ≡ b
    → option_map f (get_member k (put key d ms)) ≡ (if b then Some (f d) else option_map f (get_member k ms))
field_by f k key d ms true e =
    let is : key ≡ k = (bytes_eq-Decides key k).0 e in
    ap (λ m. option_map f (get_member m (put key d ms))) (sym is) ∙ ap (option_map f) (get_member-put key d ms)
field_by f k key d ms false e = ap (option_map f) (get_member-put_other k key d ms (λ same. differ key k e (sym same)))

-- what is kept of the member of a key: what was put there, or what was kept before
pub field : {A : Type 0} (f : Data → A) (k key : List ℕ) (d : Data) (ms : Members)
    → option_map f (get_member k (put key d ms)) ≡ (if bytes_eq key k then Some (f d) else option_map f (get_member k ms))
field f k key d ms = field_by f k key d ms (bytes_eq key k) refl

-- what is kept goes on by a step
abbrev pub PutsBy : {K : Type 0} → (Members → K) → (List ℕ → Data → K → K) → Type 0
PutsBy kept step = (key : List ℕ) (d : Data) (ms : Members) → kept (put key d ms) ≡ step key d (kept ms)

-- a known member was read in place of what was kept of it
pub reread-keeps : {K A : Type 0} (f : Data → Result A Path) (kept : Members → K) (step : List ℕ → Data → K → K) → PutsBy kept step
    → (key : List ℕ) (depth : ℕ) (before now : K) (old new : List Token) (result : Result ⊤ Fail) (member : Option (Result A Path)) → Rereads f depth old result member new
    → ((d : Data) → member ≡ Some (f d) → now ≡ step key d before) → Keeps kept key depth before old result now new
reread-keeps f kept step puts key depth before now old new (Ok u) member h goes =
    (h.0, h.1, λ ms is. goes h.0 h.2 ∙ ap (step key h.0) is ∙ sym (puts key h.0 ms))
reread-keeps f kept step puts key depth before now old new (Err e) member h goes = h

-- one that isn't known was passed over
pub passed-keeps : {K : Type 0} (kept : Members → K) (step : List ℕ → Data → K → K) → PutsBy kept step
    → (key : List ℕ) (depth : ℕ) (before : K) (old new : List Token) (result : Result ⊤ Fail) → Stands anything result (parse_map anything (data_at depth old)) new
    → ((d : Data) → before ≡ step key d before) → Keeps kept key depth before old result before new
passed-keeps kept step puts key depth before old new (Ok u) h stays =
    let read = made anything (data_at depth old) (anything u) new h in
    (read.0, read.1, λ ms is. stays read.0 ∙ ap (step key read.0) is ∙ sym (puts key read.0 ms))
passed-keeps kept step puts key depth before old new (Err e) h stays = lacks-so e (parse_map anything (data_at depth old)) (data_at depth old) h (made-none anything (data_at depth old))

-- ---- members as they are taken

pub kept-found : {A : Type 0} (other : A) (f : Data → Result A Path) (k : List ℕ) (o : Option Data) → below k (found_or other f o) ≡ kept_or other k (option_map f o)
kept-found other f k None = refl
kept-found other f k (Some d) = refl

pub kept-needed : {A : Type 0} (f : Data → Result A Path) (k : List ℕ) (o : Option Data) → below k (found_by f o) ≡ kept_needed k (option_map f o)
kept-needed f k None = refl
kept-needed f k (Some d) = refl

pub kept-present : {A : Type 0} (f : Data → Result A Path) (k : List ℕ) (o : Option Data) → below k (found_or None (present f) o) ≡ kept_optional k (option_map f o)
kept-present f k None = refl
kept-present f k (Some d) = refl

pub bind_same : {A B : Type 0} (r s : Result A Path) (next other : A → Result B Path) → r ≡ s → ((x : A) → next x ≡ other x) → (r >>= next) ≡ (s >>= other)
bind_same {A} {B} r s next other same h = ap (λ t. t >>= next) same ∙ by s
  where
    by : (s : Result A Path) → (s >>= next) ≡ (s >>= other)
    by (Ok x) = h x
    by (Err path) = refl

-- ---- symbols

-- what is kept of a symbol goes on by this
abbrev pub symbol_put : List ℕ → Data → SymbolMembers → SymbolMembers
symbol_put k d old = record {
  name = if bytes_eq k (symbol_key_text key.Name) then Some (text_of d) else old.name;
  at = if bytes_eq k (symbol_key_text key.At) then Some (symbol_placement_of d) else old.at;
  def = if bytes_eq k (symbol_key_text key.Def) then Some (index_of d) else old.def;
  flags = if bytes_eq k (symbol_key_text key.Flags) then Some (index_of d) else old.flags;
  local = if bytes_eq k (symbol_key_text key.Local) then Some (truth_of d) else old.local;
  weak = if bytes_eq k (symbol_key_text key.Weak) then Some (truth_of d) else old.weak;
  hidden = if bytes_eq k (symbol_key_text key.Hidden) then Some (truth_of d) else old.hidden;
}

pub symbol-put : PutsBy symbol_kept symbol_put
symbol-put k d ms =
    rw (
      field text_of (symbol_key_text key.Name) k d ms,
      field symbol_placement_of (symbol_key_text key.At) k d ms,
      field index_of (symbol_key_text key.Def) k d ms,
      field index_of (symbol_key_text key.Flags) k d ms,
      field truth_of (symbol_key_text key.Local) k d ms,
      field truth_of (symbol_key_text key.Weak) k d ms,
      field truth_of (symbol_key_text key.Hidden) k d ms,
    ) refl

pub symbol_wants_object : WantsObject input_symbol_of
unfolding input_symbol_of
symbol_wants_object d none = rw none refl

pub symbol-kept : (ms : Members) → input_symbol_of (object ms) ≡ symbol_from (symbol_kept ms)
unfolding input_symbol_of symbol_from
symbol-kept ms =
    bind_same _ _ _ _ (kept-found [] text_of (symbol_key_text key.Name) (get_member (symbol_key_text key.Name) ms)) (λ name.
    bind_same _ _ _ _ (kept-needed symbol_placement_of (symbol_key_text key.At) (get_member (symbol_key_text key.At) ms)) (λ at.
    bind_same _ _ _ _ (kept-present index_of (symbol_key_text key.Def) (get_member (symbol_key_text key.Def) ms)) (λ def.
    bind_same _ _ _ _ (kept-found 0 index_of (symbol_key_text key.Flags) (get_member (symbol_key_text key.Flags) ms)) (λ flags.
    bind_same _ _ _ _ (kept-found false truth_of (symbol_key_text key.Local) (get_member (symbol_key_text key.Local) ms)) (λ local.
    bind_same _ _ _ _ (kept-found false truth_of (symbol_key_text key.Weak) (get_member (symbol_key_text key.Weak) ms)) (λ weak.
    bind_same _ _ _ _ (kept-found false truth_of (symbol_key_text key.Hidden) (get_member (symbol_key_text key.Hidden) ms)) (λ hidden. refl)))))))
