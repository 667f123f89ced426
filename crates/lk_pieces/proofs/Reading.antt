-- The laws of values that are read one after the other.
use Rattle.std.proofs.Common.{◌≡◌, ℕ, ◌<◌, List, [], ◌∷◌, ◌++◌, length, Option, Some, None, Result, refl, sym, ap, ◌∙◌, subst, arith}
use Rattle.json.specs.Token.{Token}
use Rattle.json.specs.Lex.{Place, after_value}
use Rattle.json.specs.Json.{parse_map, after_end_array}
use Rattle.serde_json.specs.Data.{Data, Items, no_items, item}
use Rattle.lk_pieces.specs.Joining.{left_at, Begins}
use Rattle.lk_pieces.specs.Reading.{IsRead, AreRead, Give}
use Rattle.lk_pieces.specs.Tokens.{data_at, items_at}
use Rattle.lk_pieces.proofs.Grammar.{data_at-runs}
use Rattle.lk_pieces.proofs.Tokens.{and_next, items_at-next, items_at-over, data_at-nothing, data_at-bad, data_at-end_array, data_at-end_object}

-- ---- a value that was read

pub nothing_read : {A P : Type 0} (a : A) (o : Option A) → o ≡ None → o ≡ Some a → P
nothing_read a o e f = let never : None ≡ Some a = sym e ∙ f in absurd cc

-- it begins with a token that begins one
value_begins : (depth : ℕ) (ts : List Token) (d : Data) (r : List Token) → data_at depth ts ≡ Some (d, r) → Begins ts
value_begins depth [] d r e = nothing_read (d, r) _ (data_at-nothing depth) e
value_begins depth (Token.begin_object ∷ ts) d r e = tt
value_begins depth (Token.end_object ∷ ts) d r e = nothing_read (d, r) _ (data_at-end_object depth ts) e
value_begins depth (Token.begin_array ∷ ts) d r e = tt
value_begins depth (Token.end_array ∷ ts) d r e = nothing_read (d, r) _ (data_at-end_array depth ts) e
value_begins depth (Token.key s ∷ ts) d r e = tt
value_begins depth (Token.string s ∷ ts) d r e = tt
value_begins depth (Token.number s ∷ ts) d r e = tt
value_begins depth (Token.boolean b ∷ ts) d r e = tt
value_begins depth (Token.null ∷ ts) d r e = tt
value_begins depth (Token.bad ∷ ts) d r e = nothing_read (d, r) _ (data_at-bad depth ts) e

-- where it begins, no list ends
goes_on : (ts : List Token) → Begins ts → after_end_array ts ≡ None
goes_on [] h = absurd h
goes_on (Token.begin_object ∷ ts) h = refl
goes_on (Token.end_object ∷ ts) h = absurd h
goes_on (Token.begin_array ∷ ts) h = refl
goes_on (Token.end_array ∷ ts) h = absurd h
goes_on (Token.key s ∷ ts) h = refl
goes_on (Token.string s ∷ ts) h = refl
goes_on (Token.number s ∷ ts) h = refl
goes_on (Token.boolean b ∷ ts) h = refl
goes_on (Token.null ∷ ts) h = refl
goes_on (Token.bad ∷ ts) h = absurd h

module _ {A E : Type 0} (f : Data → Result A E) (depth : ℕ) where
  -- ---- values that were read one after the other

  none_is_read : (ts : List Token) → AreRead f depth ts [] ts
  unfolding AreRead
  none_is_read ts = refl

  pub none_read : (xs : List A) (ts : List Token) → xs ≡ [] → AreRead f depth ts xs ts
  none_read xs ts e = subst (λ ys. AreRead f depth ts ys ts) (sym e) (none_is_read ts)

  -- one after the other
  pub both_read : (xs ys : List A) (ts r s : List Token) → AreRead f depth ts xs r → AreRead f depth r ys s → AreRead f depth ts (xs ++ ys) s
  unfolding AreRead
  both_read [] ys ts r s h k = subst (λ l. AreRead f depth l ys s) (sym h) k
  both_read (x ∷ xs) ys ts r s h k = (h.0, h.1, both_read xs ys h.0 r s h.2 k)

  -- one more at the end
  one_is_more : (xs : List A) (x : A) (ts r s : List Token) → AreRead f depth ts xs r → IsRead f depth r x s → AreRead f depth ts (xs ++ x ∷ []) s
  unfolding AreRead
  one_is_more xs x ts r s h k = both_read xs (x ∷ []) ts r s h (s, k, refl)

  pub one_more : (xs ys : List A) (x : A) (ts r s : List Token) → AreRead f depth ts xs r → IsRead f depth r x s → ys ≡ xs ++ x ∷ [] → AreRead f depth ts ys s
  one_more xs ys x ts r s h k e = subst (λ zs. AreRead f depth ts zs s) (sym e) (one_is_more xs x ts r s h k)

  -- with more tokens behind
  pub read_with_more : (xs : List A) (ts r s : List Token) → AreRead f depth ts xs r → AreRead f depth (ts ++ s) xs (r ++ s)
  unfolding AreRead
  read_with_more [] ts r s h = ap (λ l. l ++ s) h
  read_with_more (x ∷ xs) ts r s h =
      let first = h.1 in
      (h.0 ++ s, (first.0, (data_at-runs depth ts first.0 h.0 first.1).1 s, first.2), read_with_more xs h.0 r s h.2)

  -- behind them the text stands as behind a value
  pub read_leaves : (xs : List A) (ts r : List Token) → AreRead f depth ts xs r → left_at after_value ts ≡ left_at after_value r
  unfolding AreRead
  read_leaves [] ts r h = ap (left_at after_value) h
  read_leaves (x ∷ xs) ts r h = let first = h.1 in (data_at-runs depth ts first.0 h.0 first.1).0 after_value ∙ read_leaves xs h.0 r h.2

  -- and if there is one, wherever it stood before them
  pub some_leave : (xs : List A) (ts r : List Token) (p : Place) → 0 < length xs → AreRead f depth ts xs r → left_at p ts ≡ left_at after_value r
  unfolding AreRead
  some_leave [] ts r p some h = absurd (omega arith)
  some_leave (x ∷ xs) ts r p some h = let first = h.1 in (data_at-runs depth ts first.0 h.0 first.1).0 p ∙ read_leaves xs h.0 r h.2

  -- the first of them begins the tokens
  pub read_begins : (xs : List A) (ts r : List Token) → 0 < length xs → AreRead f depth ts xs r → Begins ts
  unfolding AreRead
  read_begins [] ts r some h = absurd (omega arith)
  read_begins (x ∷ xs) ts r some h = let first = h.1 in value_begins depth ts first.0 h.0 first.1

  -- ---- the items of a list

  -- at the end of a list its items were read
  pub items_read : (xs : List A) (ts r u : List Token) → AreRead f depth ts xs r → after_end_array r ≡ Some u → (ds : Items) × (items_at depth ts ≡ Some (ds, u)) × Give f ds xs
  unfolding AreRead Give
  items_read [] ts r u h e = (no_items, items_at-over depth ts u (ap after_end_array h ∙ e), tt)
  items_read (x ∷ xs) ts r u h e =
      let first = h.1 in
      let others = items_read xs h.0 r u h.2 e in (
        item first.0 others.0,
        items_at-next depth ts (goes_on ts (value_begins depth ts first.0 h.0 first.1)) ∙ ap (and_next (λ d s. parse_map (item d) (items_at depth s))) first.1 ∙ ap (parse_map (item first.0)) others.1,
        (first.2, others.2),
      )
