-- Values, lists and objects with more tokens behind them.
use Rattle.std.proofs.Common.{◌≡◌, ℕ, zero, suc, ◌-◌, ◌<◌, ◌≤◌, List, [], ◌∷◌, ◌++◌, length, Option, Some, None, option_map, option_and_then, unwrap_or, refl, sym, ap, ◌∙◌, length-append, arith}
use Rattle.json.specs.Token.{Token}
use Rattle.json.specs.Lex.{Place, fresh, after_value}
use Rattle.json.specs.Json as json
use Rattle.json.specs.Json.{Json, Parse, parse_map, after_end_array, read_key, items_step, members_step, items, members, value_with, value}
use Rattle.json.proofs.Grammar.{value_is, items_more, members_more, closed_array, key_token, read_key_is}
use Rattle.serde_json.specs.Data.{Data}
use Rattle.serde_json.specs.Read.{of_json, converted}
use Rattle.lk_pieces.specs.Joining.{place_behind, left_at}
use Rattle.lk_pieces.specs.Reading.{Runs}
use Rattle.lk_pieces.specs.Tokens.{data_at}

-- what was read, and the tokens behind it
abbrev got : {A : Type 0} → A → List Token → Option (A × List Token)
got a r = Some (a, r)

same_value : {A : Type 0} (a b : A) (r s : List Token) → got a r ≡ got b s → a ≡ b
same_value a b r s e = let both : (a, r) ≡ (b, s) = ap (λ o. unwrap_or o (a, r)) e in ap (λ p. p.0) both

same_rest : {A : Type 0} (a b : A) (r s : List Token) → got a r ≡ got b s → r ≡ s
same_rest a b r s e = let both : (a, r) ≡ (b, s) = ap (λ o. unwrap_or o (a, r)) e in ap (λ p. p.1) both

-- what was made of something that was read
made : {A B : Type 0} (f : A → B) (o : Option (A × List Token)) (b : B) (r : List Token) → parse_map f o ≡ Some (b, r) → (a : A) × (o ≡ Some (a, r)) × (f a ≡ b)
made f None b r e = absurd cc
made f (Some (a, s)) b r e = (a, ap (λ t. Some (a, t)) (same_rest (f a) b s r e), same_value (f a) b s r e)

-- ---- one token

token_runs : {A : Type 0} (t : Token) (a b : A) (ts r : List Token) → place_behind t ≡ Some after_value → got a ts ≡ got b r
    → ((p : Place) → left_at p (t ∷ ts) ≡ left_at after_value r) × ((s : List Token) → got a (ts ++ s) ≡ got b (r ++ s))
unfolding left_at
token_runs t a b ts r e f =
    let rest = same_rest a b ts r f in
    let same = same_value a b ts r f in (
      λ p. ap (option_and_then (λ q. left_at q ts)) e ∙ ap (left_at after_value) rest,
      λ s i. Some (same i, rest i ++ s),
    )

-- ---- the items of a list

-- a list that doesn't end here doesn't with more behind
still_open : (ts s : List Token) → after_end_array ts ≡ None → (ts ≡ [] → ⊥) → after_end_array (ts ++ s) ≡ None
still_open [] s e some = absurd (some refl)
still_open (Token.begin_object ∷ ts) s e some = refl
still_open (Token.end_object ∷ ts) s e some = refl
still_open (Token.begin_array ∷ ts) s e some = refl
still_open (Token.end_array ∷ ts) s e some = absurd cc
still_open (Token.key k ∷ ts) s e some = refl
still_open (Token.string k ∷ ts) s e some = refl
still_open (Token.number k ∷ ts) s e some = refl
still_open (Token.boolean b ∷ ts) s e some = refl
still_open (Token.null ∷ ts) s e some = refl
still_open (Token.bad ∷ ts) s e some = refl

behind_end : (q : Place) (x : List Token) → left_at q (Token.end_array ∷ x) ≡ left_at after_value x
unfolding left_at
behind_end q x = refl

module _ (p : Parse Json) where
  -- as many turns as these are enough for the items, also with more behind them
  abbrev ItemsRun : ℕ → List Token → json.Items → List Token → Type 0
  ItemsRun n ts js r =
      ((q : Place) → left_at q ts ≡ left_at after_value r) × ((m : ℕ) (s : List Token) → n ≤ m → items p m (ts ++ s) ≡ Some (js, r ++ s))

  no_more_items : (m : ℕ) (x : List Token) → 0 < m → items p m (Token.end_array ∷ x) ≡ Some (json.no_items, x)
  unfolding items
  no_more_items zero x h = absurd (omega arith)
  no_more_items (suc m) x h = refl

  items_over : (n : ℕ) (ts x : List Token) (js : json.Items) (r : List Token) → after_end_array ts ≡ Some x → got json.no_items x ≡ got js r → ItemsRun (suc n) ts js r
  items_over n ts x js r e f =
      let closed = closed_array ts x e in
      let rest = same_rest json.no_items js x r f in
      let same = same_value json.no_items js x r f in (
        λ q. ap (left_at q) closed ∙ behind_end q x ∙ ap (left_at after_value) rest,
        λ m s le. ap (λ l. items p m (l ++ s)) closed ∙ no_more_items m (x ++ s) (omega arith) ∙ (λ i. Some (same i, rest i ++ s)),
      )

  module _ (runs : Runs p) (nothing : p [] ≡ None) where
    not_empty : (ts : List Token) (j : Json) (x : List Token) → p ts ≡ Some (j, x) → ts ≡ [] → ⊥
    not_empty ts j x e f = let none = sym nothing ∙ ap p (sym f) ∙ e in cc

    item_runs : (n : ℕ) (ts : List Token) (js : json.Items) (r : List Token) → ((x : List Token) (more : json.Items) → items p n x ≡ Some (more, r) → ItemsRun n x more r) → after_end_array ts ≡ None
        → (o : Option (Json × List Token)) → p ts ≡ o → option_and_then (λ q. parse_map (json.item q.0) (items p n q.1)) o ≡ Some (js, r) → ItemsRun (suc n) ts js r
    item_runs n ts js r again going None e f = absurd cc
    item_runs n ts js r again going (Some (j, x)) e f =
        let rest = made (json.item j) (items p n x) js r f in
        let others = again x rest.0 rest.1 in
        let first = runs ts j x e in (
          λ q. first.0 q ∙ others.0 after_value,
          λ m s le.
              items_more p m (ts ++ s) (x ++ s) j (omega arith) (still_open ts s going (not_empty ts j x e)) (first.1 s)
              ∙ ap (parse_map (json.item j)) (others.1 (m - 1) s (omega arith)) ∙ ap (λ k. Some (k, r ++ s)) rest.2,
        )

    items_turn : (n : ℕ) (ts : List Token) (js : json.Items) (r : List Token) → ((x : List Token) (more : json.Items) → items p n x ≡ Some (more, r) → ItemsRun n x more r)
        → (o : Option (List Token)) → after_end_array ts ≡ o → items_step p (items p n) ts o ≡ Some (js, r) → ItemsRun (suc n) ts js r
    items_turn n ts js r again (Some x) e f = items_over n ts x js r e f
    items_turn n ts js r again None e f = item_runs n ts js r again e (p ts) refl f

    items_run : (n : ℕ) (ts : List Token) (js : json.Items) (r : List Token) → items p n ts ≡ Some (js, r) → ItemsRun n ts js r
    unfolding items
    items_run zero ts js r e = absurd cc
    items_run (suc n) ts js r e = items_turn n ts js r (λ x more f. items_run n x more r f) (after_end_array ts) refl e

    items-runs : Runs (λ ts. items p (length ts) ts)
    items-runs ts js r e =
        let run = items_run (length ts) ts js r e in
        (run.0, λ s. run.1 (length (ts ++ s)) s (omega (arith, length-append ts s)))

-- ---- the members of an object

key_again : (k : Option (List ℕ)) (x : List Token) → read_key (key_token k ∷ x) ≡ Some (k, x)
key_again None x = refl
key_again (Some k) x = refl

behind_object : (q : Place) (x : List Token) → left_at q (Token.end_object ∷ x) ≡ left_at after_value x
unfolding left_at
behind_object q x = refl

behind_key : (q : Place) (k : List ℕ) (x : List Token) → left_at q (Token.key k ∷ x) ≡ left_at fresh x
unfolding left_at
behind_key q k x = refl

module _ (p : Parse Json) where
  abbrev MembersRun : ℕ → List Token → json.Members → List Token → Type 0
  MembersRun n ts js r =
      ((q : Place) → left_at q ts ≡ left_at after_value r) × ((m : ℕ) (s : List Token) → n ≤ m → members p m (ts ++ s) ≡ Some (js, r ++ s))

  no_more_members : (m : ℕ) (x : List Token) → 0 < m → members p m (Token.end_object ∷ x) ≡ Some (json.no_members, x)
  unfolding members
  no_more_members zero x h = absurd (omega arith)
  no_more_members (suc m) x h = refl

  members_over : (n : ℕ) (ts x : List Token) (js : json.Members) (r : List Token) → read_key ts ≡ Some (None, x) → got json.no_members x ≡ got js r → MembersRun (suc n) ts js r
  members_over n ts x js r e f =
      let closed = read_key_is ts None x e in
      let rest = same_rest json.no_members js x r f in
      let same = same_value json.no_members js x r f in (
        λ q. ap (left_at q) closed ∙ behind_object q x ∙ ap (left_at after_value) rest,
        λ m s le. ap (λ l. members p m (l ++ s)) closed ∙ no_more_members m (x ++ s) (omega arith) ∙ (λ i. Some (same i, rest i ++ s)),
      )

  module _ (runs : Runs p) where
    member_runs : (n : ℕ) (ts : List Token) (k : List ℕ) (y : List Token) (js : json.Members) (r : List Token)
        → ((x : List Token) (more : json.Members) → members p n x ≡ Some (more, r) → MembersRun n x more r) → read_key ts ≡ Some (Some k, y)
        → (o : Option (Json × List Token)) → p y ≡ o → option_and_then (λ q. parse_map (json.member k q.0) (members p n q.1)) o ≡ Some (js, r) → MembersRun (suc n) ts js r
    member_runs n ts k y js r again key None e f = absurd cc
    member_runs n ts k y js r again key (Some (j, x)) e f =
        let is = read_key_is ts (Some k) y key in
        let rest = made (json.member k j) (members p n x) js r f in
        let others = again x rest.0 rest.1 in
        let first = runs y j x e in (
          λ q. ap (left_at q) is ∙ behind_key q k y ∙ first.0 fresh ∙ others.0 after_value,
          λ m s le.
              members_more p m k (ts ++ s) (y ++ s) (x ++ s) j (omega arith) (ap (λ l. read_key (l ++ s)) is ∙ key_again (Some k) (y ++ s)) (first.1 s)
              ∙ ap (parse_map (json.member k j)) (others.1 (m - 1) s (omega arith)) ∙ ap (λ l. Some (l, r ++ s)) rest.2,
        )

    members_turn : (n : ℕ) (ts : List Token) (js : json.Members) (r : List Token) → ((x : List Token) (more : json.Members) → members p n x ≡ Some (more, r) → MembersRun n x more r)
        → (o : Option (Option (List ℕ) × List Token)) → read_key ts ≡ o → option_and_then (λ q. members_step p (members p n) q.0 q.1) o ≡ Some (js, r) → MembersRun (suc n) ts js r
    members_turn n ts js r again None e f = absurd cc
    members_turn n ts js r again (Some (None, x)) e f = members_over n ts x js r e f
    members_turn n ts js r again (Some (Some k, y)) e f = member_runs n ts k y js r again e (p y) refl f

    members_run : (n : ℕ) (ts : List Token) (js : json.Members) (r : List Token) → members p n ts ≡ Some (js, r) → MembersRun n ts js r
    unfolding members
    members_run zero ts js r e = absurd cc
    members_run (suc n) ts js r e = members_turn n ts js r (λ x more f. members_run n x more r f) (read_key ts) refl e

    members-runs : Runs (λ ts. members p (length ts) ts)
    members-runs ts js r e =
        let run = members_run (length ts) ts js r e in
        (run.0, λ s. run.1 (length (ts ++ s)) s (omega (arith, length-append ts s)))

-- ---- a value

opened_runs : {A : Type 0} (f : A → Json) (t : Token) (more : Parse A) → Runs more → place_behind t ≡ Some fresh → (ts : List Token) (j : Json) (r : List Token) → parse_map f (more ts) ≡ Some (j, r)
    → ((p : Place) → left_at p (t ∷ ts) ≡ left_at after_value r) × ((s : List Token) → parse_map f (more (ts ++ s)) ≡ Some (j, r ++ s))
unfolding left_at
opened_runs f t more runs e ts j r is =
    let inner = made f (more ts) j r is in
    let run = runs ts inner.0 r inner.1 in (
      λ p. ap (option_and_then (λ q. left_at q ts)) e ∙ run.0 fresh,
      λ s. ap (parse_map f) (run.1 s) ∙ ap (λ k. Some (k, r ++ s)) inner.2,
    )

value_with-runs : (a : Parse json.Items) (o : Parse json.Members) → Runs a → Runs o → Runs (value_with a o)
value_with-runs a o p q [] j r e = absurd cc
value_with-runs a o p q (Token.begin_object ∷ ts) j r e = opened_runs json.object Token.begin_object o q refl ts j r e
value_with-runs a o p q (Token.end_object ∷ ts) j r e = absurd cc
value_with-runs a o p q (Token.begin_array ∷ ts) j r e = opened_runs json.array Token.begin_array a p refl ts j r e
value_with-runs a o p q (Token.end_array ∷ ts) j r e = absurd cc
value_with-runs a o p q (Token.key k ∷ ts) j r e = absurd cc
value_with-runs a o p q (Token.string k ∷ ts) j r e = token_runs (Token.string k) (json.string k) j ts r refl e
value_with-runs a o p q (Token.number k ∷ ts) j r e = token_runs (Token.number k) (json.number k) j ts r refl e
value_with-runs a o p q (Token.boolean b ∷ ts) j r e = token_runs (Token.boolean b) (json.boolean b) j ts r refl e
value_with-runs a o p q (Token.null ∷ ts) j r e = token_runs Token.null json.null j ts r refl e
value_with-runs a o p q (Token.bad ∷ ts) j r e = absurd cc

none-runs : {A : Type 0} → Runs {A = A} (λ ts. None)
none-runs ts a r e = absurd cc

pub value-runs : (depth : ℕ) → Runs (value depth)
unfolding value
value-runs zero = value_with-runs (λ ts. None) (λ ts. None) none-runs none-runs
value-runs (suc d) =
    value_with-runs (λ ts. items (value d) (length ts) ts) (λ ts. members (value d) (length ts) ts) (items-runs (value d) (value-runs d) (value_is d [])) (members-runs (value d) (value-runs d))

-- ---- what serde_json makes of it

converted_runs : (depth : ℕ) (ts : List Token) (d : Data) (r : List Token) (o : Option (Json × List Token)) → value depth ts ≡ o → converted of_json o ≡ Some (d, r)
    → (j : Json) × (value depth ts ≡ Some (j, r)) × (of_json j ≡ Some d)
converted_runs depth ts d r None e f = absurd cc
converted_runs depth ts d r (Some (j, x)) e f = by (of_json j) refl f
  where
    by : (y : Option Data) → of_json j ≡ y → option_map {U = Data × List Token} (λ b. (b, x)) y ≡ Some (d, r) → (k : Json) × (value depth ts ≡ Some (k, r)) × (of_json k ≡ Some d)
    by None g h = absurd cc
    by (Some b) g h = (j, e ∙ ap (λ l. Some (j, l)) (same_rest b d x r h), g ∙ ap Some (same_value b d x r h))

pub data_at-runs : (depth : ℕ) → Runs (data_at depth)
unfolding data_at
data_at-runs depth ts d r e =
    let read = converted_runs depth ts d r (value depth ts) refl e in
    let run = value-runs depth ts read.0 r read.1 in
    (run.0, λ s. ap (converted of_json) (run.1 s) ∙ ap (option_map {U = Data × List Token} (λ b. (b, r ++ s))) read.2)
