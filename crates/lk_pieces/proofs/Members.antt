-- The members of an object but one.
use Rattle.std.proofs.Common.{◌≡◌, ◌≢◌, ℕ, List, ◌∷◌, ◌++◌, Bool, true, false, Some, None, true≢false, refl, sym, ap, ◌∙◌, subst, ◌<◌, length, arith}
use Rattle.std.specs.Str.{bytes_eq}
use Rattle.std.proofs.lemmas.Slice.Eq.{bytes_eq-Decides}
use Rattle.json.specs.Token.{Token}
use Rattle.json.specs.Lex.{Place, fresh, after_value}
use Rattle.json.specs.Json.{read_key}
use Rattle.json.proofs.Grammar.{read_key_is, read_key-shorter}
use Rattle.serde_json.specs.Data.{Data, Members, put}
use Rattle.serde_json.specs.Find.{get_member}
use Rattle.serde_json.proofs.Views.{get_member-put, get_member-put_other}
use Rattle.lk_pieces.specs.Around.{IsBut, IsAdded, LeadsIn, Completes}
use Rattle.lk_pieces.specs.Joining.{left_at}
use Rattle.lk_pieces.specs.Tokens.{data_at, members_at}
use Rattle.lk_pieces.proofs.Grammar.{data_at-runs}
use Rattle.lk_pieces.proofs.Tokens.{and_next, data_at-shorter, members_at-next, members_at-over}

pub differ : (xs ys : List ℕ) → bytes_eq xs ys ≡ false → xs ≢ ys
differ xs ys other same = true≢false (sym ((bytes_eq-Decides xs ys).1 same) ∙ other)

pub same_bytes : (xs ys : List ℕ) → bytes_eq xs ys ≡ true → xs ≡ ys
same_bytes xs ys e = (bytes_eq-Decides xs ys).0 e

-- ---- the same member put to both

put_by : (b : Bool) (k key : List ℕ) (d : Data) (ms ns : Members) → bytes_eq k key ≡ b → get_member k ms ≡ get_member k ns → get_member k (put key d ms) ≡ get_member k (put key d ns)
put_by true k key d ms ns e same =
    let is : k ≡ key = same_bytes k key e in
    rw is (get_member-put key d ms ∙ sym (get_member-put key d ns))
put_by false k key d ms ns e same =
    let other = differ k key e in
    get_member-put_other k key d ms other ∙ same ∙ sym (get_member-put_other k key d ns other)

put_both : (k key : List ℕ) (d : Data) (ms ns : Members) → get_member k ms ≡ get_member k ns → get_member k (put key d ms) ≡ get_member k (put key d ns)
put_both k key d ms ns same = put_by (bytes_eq k key) k key d ms ns refl same

-- the list is put to the others
pub but_put : (key : List ℕ) (d : Data) (others : Members) → IsBut key d (put key d others) others
but_put key d others = (get_member-put key d others, λ k other. sym (get_member-put_other k key d others other))

-- a further member is put to both
pub but_more : (key name : List ℕ) (a d : Data) (ms others : Members) → name ≢ key → IsBut key a ms others → IsBut key a (put name d ms) (put name d others)
but_more key name a d ms others other h =
    (get_member-put_other key name d ms (λ e. other (sym e)) ∙ h.0, λ k differs. put_both k name d others ms (h.1 k differs))

-- ---- members, one after the other

-- so far these members were found, whatever tokens stand behind
abbrev pub SoFar : ℕ → Members → List Token → Members → List Token → Type 0
SoFar depth before old found new = (q : Place) × (left_at fresh old ≡ left_at q new) × ((s : List Token) → members_at before depth (old ++ s) ≡ members_at found depth (new ++ s))

pub none_so_far : (depth : ℕ) (before found : Members) (ts : List Token) → found ≡ before → SoFar depth before ts found ts
none_so_far depth before found ts e = (fresh, refl, λ s. ap (λ ms. members_at ms depth (ts ++ s)) (sym e))

behind_key : (q : Place) (k : List ℕ) (x : List Token) → left_at q (Token.key k ∷ x) ≡ left_at fresh x
unfolding left_at
behind_key q k x = refl

-- a key that stands next does so with more behind
key_with_more : (ts r s : List Token) (k : List ℕ) → read_key ts ≡ Some (Some k, r) → read_key (ts ++ s) ≡ Some (Some k, r ++ s)
key_with_more ts r s k e = ap (λ l. read_key (l ++ s)) (read_key_is ts (Some k) r e)

-- one more member
pub more_so_far : (depth : ℕ) (before found now : Members) (old new key_behind left : List Token) (name : List ℕ) → SoFar depth before old found new
    → read_key new ≡ Some (Some name, key_behind) → IsAdded name depth found key_behind now left → SoFar depth before old now left
more_so_far depth before found now old new key_behind left name h key added =
    let d = added.0 in
    let run = data_at-runs depth key_behind d left added.1 in (
      after_value,
      h.1 ∙ ap (left_at h.0) (read_key_is new (Some name) key_behind key) ∙ behind_key h.0 name key_behind ∙ run.0 fresh,
      λ s.
          h.2 s ∙ members_at-next found depth (new ++ s) name (key_behind ++ s) (key_with_more new key_behind s name key)
          ∙ ap (and_next (λ x r. members_at (put name x found) depth r)) (run.1 s) ∙ ap (λ ms. members_at ms depth (left ++ s)) (sym added.2),
    )

-- the list begins
behind_bracket : (q : Place) (x : List Token) → left_at q (Token.begin_array ∷ x) ≡ left_at fresh x
unfolding left_at
behind_bracket q x = refl

pub list_begins : (depth : ℕ) (before found : Members) (old new key_behind left : List Token) (name key : List ℕ) → SoFar depth before old found new
    → read_key new ≡ Some (Some name, key_behind) → name ≡ key → key_behind ≡ Token.begin_array ∷ left → LeadsIn key depth before old found left
list_begins depth before found old new key_behind left name key h at is opened = (
  h.1 ∙ ap (left_at h.0) (read_key_is new (Some name) key_behind at) ∙ behind_key h.0 name key_behind ∙ ap (left_at fresh) opened ∙ behind_bracket fresh left,
  λ s r d e.
      h.2 s ∙ members_at-next found depth (new ++ s) name (key_behind ++ s) (key_with_more new key_behind s name at)
      ∙ ap (and_next (λ x t. members_at (put name x found) depth t)) (ap (λ l. data_at depth (l ++ s)) opened ∙ e) ∙ ap (λ k. members_at (put k d found) depth r) is,
)

-- a member takes tokens
pub member_shorter : (depth : ℕ) (ts r left : List Token) (name : List ℕ) (before now : Members) → read_key ts ≡ Some (Some name, r) → IsAdded name depth before r now left → length left < length ts
member_shorter depth ts r left name before now key added = omega (arith, read_key-shorter ts (Some name) r key, data_at-shorter depth r added.0 left added.1)

-- ---- members behind the list

-- so far these members were found, put to those before, and none of them has this key
abbrev pub BehindSoFar : List ℕ → ℕ → Members → List Token → Members → List Token → Type 0
BehindSoFar key depth before old now new =
    (ms : Members) (d : Data) → IsBut key d ms before → (all : Members) × (members_at ms depth old ≡ members_at all depth new) × IsBut key d all now

pub none_behind : (key : List ℕ) (depth : ℕ) (before : Members) (ts : List Token) → BehindSoFar key depth before ts before ts
none_behind key depth before ts ms d h = (ms, refl, h)

pub more_behind : (key : List ℕ) (depth : ℕ) (before found now : Members) (old new key_behind left : List Token) (name : List ℕ) → BehindSoFar key depth before old found new
    → read_key new ≡ Some (Some name, key_behind) → bytes_eq name key ≡ false → IsAdded name depth found key_behind now left → BehindSoFar key depth before old now left
more_behind key depth before found now old new key_behind left name so_far at other added ms d h =
    let there = so_far ms d h in (
      put name added.0 there.0,
      there.1 ∙ members_at-next there.0 depth new name key_behind at ∙ ap (and_next (λ x r. members_at (put name x there.0) depth r)) added.1,
      subst (IsBut key d (put name added.0 there.0)) (sym added.2) (but_more key name d added.0 there.0 found (differ name key other) there.2),
    )

pub all_behind : (key : List ℕ) (depth : ℕ) (before found : Members) (old new left : List Token) → BehindSoFar key depth before old found new → read_key new ≡ Some (None, left)
    → Completes key depth before old found left
all_behind key depth before found old new left so_far end ms d h =
    let there = so_far ms d h in
    (there.0, there.1 ∙ members_at-over there.0 depth new left end, there.2)
