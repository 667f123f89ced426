-- Values, lists and objects among tokens, a token or a turn at a time.
use Rattle.std.proofs.Common.{◌≡◌, ℕ, zero, suc, ◌+◌, ◌-◌, ◌<◌, ◌≤◌, List, [], ◌∷◌, length, Bool, Option, Some, None, option_map, option_and_then, refl, sym, ap, ◌∙◌, arith}
use Rattle.json.specs.Token.{Token}
use Rattle.json.specs.Json as json
use Rattle.json.specs.Json.{Parse, parse_map, after_end_array, read_key, items_step, members_step, items, members, value}
use Rattle.json.proofs.Grammar.{left, Takes, value_is, value-begin_array, value-begin_object, skip_value-shorter, items_end, items_fail, items_more, members_end, members_no_key, members_fail, members_more, read_key-shorter}
use Rattle.serde_json.specs.Data.{Data, null, boolean, number, string, array, object, Items, no_items, item, Members, no_members, put}
use Rattle.serde_json.specs.Read.{number_of, of_json, of_items, of_members, converted}
use Rattle.lk_pieces.specs.Tokens.{data_at, items_at, members_at}

-- ---- what is read, with the tokens behind it

-- what is read next, by what was read
abbrev pub and_next : {A B : Type 0} → (A → List Token → Option (B × List Token)) → Option (A × List Token) → Option (B × List Token)
and_next next read = option_and_then (λ p. next p.0 p.1) read

-- nothing is no more than something
no_more : {A : Type 0} {P : Type 0} (a : A) → None ≡ Some a → P
no_more a e = absurd cc

map_twice : {A B C : Type 0} (g : B → C) (x : Option A) (f : A → B) → option_map g (option_map f x) ≡ option_map (λ a. g (f a)) x
map_twice g None f = refl
map_twice g (Some a) f = refl

-- a conversion goes through what stands around
pub converted-through : {A B C D : Type 0} (f : A → Option B) (g : C → Option D) (h : A → C) (k : B → D) → ((a : A) → g (h a) ≡ option_map k (f a))
    → (o : Option (A × List Token)) → converted g (parse_map h o) ≡ parse_map k (converted f o)
converted-through f g h k same None = refl
converted-through f g h k same (Some (a, ts)) = ap (option_map (λ d. (d, ts))) (same a) ∙ map_twice (λ d. (d, ts)) (f a) k ∙ sym (map_twice (λ p. (k p.0, p.1)) (f a) (λ b. (b, ts)))

-- what was converted was read
left-kept : {B : Type 0} (x : Option B) (ts r : List Token) → left (option_map (λ b. (b, ts)) x) ≡ Some r → Some ts ≡ Some r
left-kept None ts r e = no_more r e
left-kept (Some b) ts r e = e

left-converted : {A B : Type 0} (f : A → Option B) (o : Option (A × List Token)) (r : List Token) → left (converted f o) ≡ Some r → left o ≡ Some r
left-converted f None r e = e
left-converted f (Some p) r e = left-kept (f p.0) p.1 r e

-- ---- a value, by its first token

pub data_at-nothing : (depth : ℕ) → data_at depth [] ≡ None
unfolding data_at
data_at-nothing depth = ap (converted of_json) (value_is depth [])

pub data_at-null : (depth : ℕ) (ts : List Token) → data_at depth (Token.null ∷ ts) ≡ Some (null, ts)
unfolding data_at
data_at-null depth ts = ap (converted of_json) (value_is depth (Token.null ∷ ts))

pub data_at-boolean : (depth : ℕ) (b : Bool) (ts : List Token) → data_at depth (Token.boolean b ∷ ts) ≡ Some (boolean b, ts)
unfolding data_at
data_at-boolean depth b ts = ap (converted of_json) (value_is depth (Token.boolean b ∷ ts))

pub data_at-string : (depth : ℕ) (s : List ℕ) (ts : List Token) → data_at depth (Token.string s ∷ ts) ≡ Some (string s, ts)
unfolding data_at
data_at-string depth s ts = ap (converted of_json) (value_is depth (Token.string s ∷ ts))

pub data_at-number : (depth : ℕ) (s : List ℕ) (ts : List Token) → data_at depth (Token.number s ∷ ts) ≡ option_map (λ n. (number n, ts)) (number_of s)
unfolding data_at
data_at-number depth s ts = ap (converted of_json) (value_is depth (Token.number s ∷ ts)) ∙ map_twice (λ d. (d, ts)) (number_of s) number

pub data_at-key : (depth : ℕ) (s : List ℕ) (ts : List Token) → data_at depth (Token.key s ∷ ts) ≡ None
unfolding data_at
data_at-key depth s ts = ap (converted of_json) (value_is depth (Token.key s ∷ ts))

pub data_at-bad : (depth : ℕ) (ts : List Token) → data_at depth (Token.bad ∷ ts) ≡ None
unfolding data_at
data_at-bad depth ts = ap (converted of_json) (value_is depth (Token.bad ∷ ts))

pub data_at-end_array : (depth : ℕ) (ts : List Token) → data_at depth (Token.end_array ∷ ts) ≡ None
unfolding data_at
data_at-end_array depth ts = ap (converted of_json) (value_is depth (Token.end_array ∷ ts))

pub data_at-end_object : (depth : ℕ) (ts : List Token) → data_at depth (Token.end_object ∷ ts) ≡ None
unfolding data_at
data_at-end_object depth ts = ap (converted of_json) (value_is depth (Token.end_object ∷ ts))

pub data_at-array : (depth d : ℕ) (ts : List Token) → depth ≡ d + 1 → data_at depth (Token.begin_array ∷ ts) ≡ parse_map array (items_at d ts)
unfolding data_at items_at
data_at-array depth d ts is =
    let less : depth - 1 ≡ d = omega arith in
    ap (converted of_json) (value-begin_array depth ts (omega arith)) ∙ converted-through of_items of_json json.array array (λ js. refl) (items (value (depth - 1)) (length ts) ts)
    ∙ ap (λ n. parse_map array (converted of_items (items (value n) (length ts) ts))) less

pub data_at-object : (depth d : ℕ) (ts : List Token) → depth ≡ d + 1 → data_at depth (Token.begin_object ∷ ts) ≡ parse_map object (members_at no_members d ts)
unfolding data_at members_at
data_at-object depth d ts is =
    let less : depth - 1 ≡ d = omega arith in
    ap (converted of_json) (value-begin_object depth ts (omega arith)) ∙ converted-through (λ ms. of_members ms no_members) of_json json.object object (λ ms. refl) (members (value (depth - 1)) (length ts) ts)
    ∙ ap (λ n. parse_map object (converted (λ ms. of_members ms no_members) (members (value n) (length ts) ts))) less

pub data_at-deep_array : (depth : ℕ) (ts : List Token) → depth ≡ 0 → data_at depth (Token.begin_array ∷ ts) ≡ None
unfolding data_at value
data_at-deep_array depth ts is = ap (λ n. converted of_json (value n (Token.begin_array ∷ ts))) is

pub data_at-deep_object : (depth : ℕ) (ts : List Token) → depth ≡ 0 → data_at depth (Token.begin_object ∷ ts) ≡ None
unfolding data_at value
data_at-deep_object depth ts is = ap (λ n. converted of_json (value n (Token.begin_object ∷ ts))) is

pub ruleset values = (
  data_at-nothing,
  data_at-null,
  data_at-boolean,
  data_at-string,
  data_at-number,
  data_at-key,
  data_at-bad,
  data_at-end_array,
  data_at-end_object,
  data_at-array,
  data_at-object,
  data_at-deep_array,
  data_at-deep_object,
)

-- a value takes a token
pub data_at-shorter : (depth : ℕ) (ts : List Token) (d : Data) (r : List Token) → data_at depth ts ≡ Some (d, r) → length r < length ts
unfolding data_at
data_at-shorter depth ts d r e = skip_value-shorter depth ts r (left-converted of_json (value depth ts) r (ap left e))

-- ---- how many turns are allowed is no matter, if they are enough

none_taken : (o : Option (json.Json × List Token)) → ((r : List Token) → left o ≡ Some r → length r < 0) → o ≡ None
none_taken None h = refl
none_taken (Some q) h = let never = h q.1 refl in absurd (omega (arith, never))

none_of_none : (p : Parse json.Json) → Takes p → p [] ≡ None
none_of_none p takes = none_taken (p []) (takes [])

then_same : {A : Type 0} (h : json.Json → A → A) (o : Option (json.Json × List Token)) (more other : Parse A) → ((r : List Token) → left o ≡ Some r → more r ≡ other r)
    → option_and_then (λ q. parse_map (h q.0) (more q.1)) o ≡ option_and_then (λ q. parse_map (h q.0) (other q.1)) o
then_same h None more other same = refl
then_same h (Some q) more other same = ap (parse_map (h q.0)) (same q.1 refl)

module _ (p : Parse json.Json) (takes : Takes p) where
  item_same : (ts : List Token) (more other : Parse json.Items) (o : Option (List Token)) → ((r : List Token) → length r < length ts → more r ≡ other r)
      → items_step p more ts o ≡ items_step p other ts o
  item_same ts more other (Some r) same = refl
  item_same ts more other None same = then_same json.item (p ts) more other (λ r e. same r (takes ts r e))

  pub enough_items : (n m : ℕ) (ts : List Token) → length ts ≤ n → length ts ≤ m → items p n ts ≡ items p m ts
  unfolding items
  enough_items zero zero ts h k = refl
  enough_items zero (suc m) [] h k = sym (items_fail p (suc m) [] refl (none_of_none p takes))
  enough_items zero (suc m) (t ∷ ts) h k = absurd (omega arith)
  enough_items (suc n) zero [] h k = items_fail p (suc n) [] refl (none_of_none p takes)
  enough_items (suc n) zero (t ∷ ts) h k = absurd (omega arith)
  enough_items (suc n) (suc m) ts h k = item_same ts (items p n) (items p m) (after_end_array ts) (λ r less. enough_items n m r (omega arith) (omega arith))

  member_same : (ts : List Token) (more other : Parse json.Members) (o : Option (Option (List ℕ) × List Token)) → ((k : Option (List ℕ)) (r : List Token) → o ≡ Some (k, r) → length r < length ts)
      → ((r : List Token) → length r < length ts → more r ≡ other r)
      → option_and_then (λ q. members_step p more q.0 q.1) o ≡ option_and_then (λ q. members_step p other q.0 q.1) o
  member_same ts more other None shorter same = refl
  member_same ts more other (Some (None, s)) shorter same = refl
  member_same ts more other (Some (Some k, s)) shorter same =
      let less = shorter (Some k) s refl in then_same (json.member k) (p s) more other (λ r e. same r (let lesser = takes s r e in omega arith))

  pub enough_members : (n m : ℕ) (ts : List Token) → length ts ≤ n → length ts ≤ m → members p n ts ≡ members p m ts
  unfolding members
  enough_members zero zero ts h k = refl
  enough_members zero (suc m) [] h k = sym (members_no_key p (suc m) [] refl)
  enough_members zero (suc m) (t ∷ ts) h k = absurd (omega arith)
  enough_members (suc n) zero [] h k = members_no_key p (suc n) [] refl
  enough_members (suc n) zero (t ∷ ts) h k = absurd (omega arith)
  enough_members (suc n) (suc m) ts h k = member_same ts (members p n) (members p m) (read_key ts) (λ key r. read_key-shorter ts key r) (λ r less. enough_members n m r (omega arith) (omega arith))

-- ---- a turn of a list

no_item : (o : Option (json.Items × List Token)) (j : json.Json) → of_json j ≡ None → converted of_items (parse_map (json.item j) o) ≡ None
no_item None j e = refl
no_item (Some p) j e = rw e refl

one_item : (more : List Token → Option (Items × List Token)) (j : json.Json) (r : List Token) (o : Option (json.Items × List Token)) → converted of_items o ≡ more r → (x : Option Data) → of_json j ≡ x
    → converted of_items (parse_map (json.item j) o) ≡ and_next (λ d s. parse_map (item d) (more s)) (option_map (λ d. (d, r)) x)
one_item more j r o e None refused = no_item o j refused
one_item more j r o e (Some d) is = converted-through of_items of_items (json.item j) (item d) (λ js. ap (option_and_then (λ y. option_map (item y) (of_items js))) is) o ∙ ap (parse_map (item d)) e

-- the item that stands next, and the others behind it
item_by : (depth : ℕ) (ts : List Token) → after_end_array ts ≡ None → (o : Option (json.Json × List Token)) → value depth ts ≡ o
    → items_at depth ts ≡ and_next (λ d r. parse_map (item d) (items_at depth r)) (converted of_json o)
unfolding items_at
item_by depth ts going None e = ap (converted of_items) (items_fail (value depth) (length ts) ts going e)
item_by depth ts going (Some (j, r)) e =
    let less = skip_value-shorter depth ts r (ap left e) in
    let next = items_more (value depth) (length ts) ts r j (omega (arith, less)) going e in
    let same = enough_items (value depth) (skip_value-shorter depth) (length ts - 1) (length r) r (omega (arith, less)) (omega arith) in
    ap (converted of_items) (next ∙ ap (parse_map (json.item j)) same) ∙ one_item (items_at depth) j r (items (value depth) (length r) r) refl (of_json j) refl

pub items_at-next : (depth : ℕ) (ts : List Token) → after_end_array ts ≡ None → items_at depth ts ≡ and_next (λ d r. parse_map (item d) (items_at depth r)) (data_at depth ts)
unfolding data_at
items_at-next depth ts going = item_by depth ts going (value depth ts) refl

pub items_at-over : (depth : ℕ) (ts r : List Token) → after_end_array ts ≡ Some r → items_at depth ts ≡ Some (no_items, r)
unfolding items_at
items_at-over depth ts r e = ap (converted of_items) (items_end (value depth) (length ts) ts r (omega arith) e)

-- ---- a turn of an object

one_member : (found : Members) (more : Members → List Token → Option (Members × List Token)) (k : List ℕ) (j : json.Json) (r : List Token) (o : Option (json.Members × List Token))
    → ((ms : Members) → converted (λ js. of_members js ms) o ≡ more ms r) → (x : Option Data) → of_json j ≡ x
    → converted (λ js. of_members js found) (parse_map (json.member k j) o) ≡ and_next (λ d s. more (put k d found) s) (option_map (λ d. (d, r)) x)
one_member found more k j r None e None is = refl
one_member found more k j r (Some p) e None is = rw is refl
one_member found more k j r None e (Some d) is = e (put k d found)
one_member found more k j r (Some p) e (Some d) is = rw is (e (put k d found))

member_by : (found : Members) (depth : ℕ) (ts : List Token) (k : List ℕ) (s : List Token) → read_key ts ≡ Some (Some k, s) → (o : Option (json.Json × List Token)) → value depth s ≡ o
    → members_at found depth ts ≡ and_next (λ d r. members_at (put k d found) depth r) (converted of_json o)
unfolding members_at
member_by found depth ts k s key None e = ap (converted (λ js. of_members js found)) (members_fail (value depth) (length ts) k ts s key e)
member_by found depth ts k s key (Some (j, r)) e =
    let less = skip_value-shorter depth s r (ap left e) in
    let lesser = read_key-shorter ts (Some k) s key in
    let next = members_more (value depth) (length ts) k ts s r j (omega (arith, lesser)) key e in
    let same = enough_members (value depth) (skip_value-shorter depth) (length ts - 1) (length r) r (omega (arith, less, lesser)) (omega arith) in
    ap (converted (λ js. of_members js found)) (next ∙ ap (parse_map (json.member k j)) same)
    ∙ one_member found (λ ms. members_at ms depth) k j r (members (value depth) (length r) r) (λ ms. refl) (of_json j) refl

-- the member that stands next, and the others behind it
pub members_at-next : (found : Members) (depth : ℕ) (ts : List Token) (k : List ℕ) (s : List Token) → read_key ts ≡ Some (Some k, s)
    → members_at found depth ts ≡ and_next (λ d r. members_at (put k d found) depth r) (data_at depth s)
unfolding data_at
members_at-next found depth ts k s key = member_by found depth ts k s key (value depth s) refl

pub members_at-over : (found : Members) (depth : ℕ) (ts r : List Token) → read_key ts ≡ Some (None, r) → members_at found depth ts ≡ Some (found, r)
unfolding members_at
members_at-over found depth ts r e = ap (converted (λ js. of_members js found)) (members_end (value depth) (length ts) ts r (omega arith) e)

pub members_at-no_key : (found : Members) (depth : ℕ) (ts : List Token) → read_key ts ≡ None → members_at found depth ts ≡ None
unfolding members_at
members_at-no_key found depth ts e = ap (converted (λ js. of_members js found)) (members_no_key (value depth) (length ts) ts e)
