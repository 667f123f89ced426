-- The laws of lists that are read one after the other, from within one or from between two.
use Rattle.std.specs.Prelude.{IfSome}
use Rattle.std.proofs.Common.{◌≡◌, ℕ, ◌+◌, ◌<◌, ◌≤◌, Bool, true, false, List, [], ◌∷◌, ◌++◌, length, Option, Some, None, Result, refl, sym, ap, ◌∙◌, subst, append-nil, append_assoc, length-append, cond, true≢false, arith}
use Rattle.json.specs.Token.{Token}
use Rattle.json.specs.Lex.{Place, fresh, after_value}
use Rattle.json.specs.Json.{parse_map, after_end_array}
use Rattle.serde_json.specs.Data.{Data, Items, no_items, item, array}
use Rattle.lk_pieces.specs.Joining.{left_at, Begins}
use Rattle.lk_pieces.specs.Lists.{Enters, AreLists, ReadsItem, ReadsRow, StaysOpen, ReadsRest, ReadsOn, GoesOn, ReadsFirst}
use Rattle.lk_pieces.specs.Reading.{AreRead, GiveLists}
use Rattle.lk_pieces.specs.Tokens.{data_at, items_at}
use Rattle.lk_pieces.proofs.Reading.{nothing_read, both_read, read_with_more, some_leave, read_begins, items_read}
use Rattle.lk_pieces.proofs.Tokens.{and_next, items_at-next, items_at-over, data_at-array, data_at-shorter}

-- ---- brackets

abbrev rest_of : List Token → Option (List Token) → List Token
rest_of ts None = ts
rest_of ts (Some r) = r

-- where a list ends, its bracket stands
closes_is : (ts r : List Token) → after_end_array ts ≡ Some r → ts ≡ Token.end_array ∷ r
closes_is [] r e = nothing_read r _ refl e
closes_is (Token.begin_object ∷ ts) r e = nothing_read r _ refl e
closes_is (Token.end_object ∷ ts) r e = nothing_read r _ refl e
closes_is (Token.begin_array ∷ ts) r e = nothing_read r _ refl e
closes_is (Token.end_array ∷ ts) r e = ap (λ o. Token.end_array ∷ rest_of ts o) e
closes_is (Token.key s ∷ ts) r e = nothing_read r _ refl e
closes_is (Token.string s ∷ ts) r e = nothing_read r _ refl e
closes_is (Token.number s ∷ ts) r e = nothing_read r _ refl e
closes_is (Token.boolean b ∷ ts) r e = nothing_read r _ refl e
closes_is (Token.null ∷ ts) r e = nothing_read r _ refl e
closes_is (Token.bad ∷ ts) r e = nothing_read r _ refl e

closes_with_more : (ts r s : List Token) → after_end_array ts ≡ Some r → after_end_array (ts ++ s) ≡ Some (r ++ s)
closes_with_more ts r s e = ap (λ l. after_end_array (l ++ s)) (closes_is ts r e)

behind_open : (p : Place) (ts : List Token) → left_at p (Token.begin_array ∷ ts) ≡ left_at fresh ts
unfolding left_at
behind_open p ts = refl

behind_close : (p : Place) (ts : List Token) → left_at p (Token.end_array ∷ ts) ≡ left_at after_value ts
unfolding left_at
behind_close p ts = refl

-- behind a token, where the text stood before it is all one
pub begins_anywhere : (p q : Place) (ts : List Token) → Begins ts → left_at p ts ≡ left_at q ts
unfolding left_at
begins_anywhere p q [] h = absurd h
begins_anywhere p q (t ∷ ts) h = refl

-- ---- the items of a list

enters_with_more : (within : Bool) (ts us s : List Token) → Enters within ts us → Enters within (ts ++ s) (us ++ s)
enters_with_more true ts us s h = ap (λ l. l ++ s) h
enters_with_more false ts us s h = ap (λ l. l ++ s) h

-- where the text stands then
abbrev pub entered : Bool → Place
entered true = after_value
entered false = fresh

enters_leave : (within : Bool) (ts us : List Token) → Enters within ts us → left_at after_value ts ≡ left_at (entered within) us
enters_leave true ts us h = ap (left_at after_value) h
enters_leave false ts us h = ap (left_at after_value) h ∙ behind_open after_value us

module _ {A E : Type 0} (f : Data → Result A E) (depth : ℕ) where
  closed_leaves : (p : Place) (xs : List A) (us vs s : List Token) → AreRead f depth us xs vs → after_end_array vs ≡ Some s → left_at p us ≡ left_at after_value s
  unfolding AreRead
  closed_leaves p [] us vs s h e = ap (left_at p) (h ∙ closes_is vs s e) ∙ behind_close p s
  closed_leaves p (x ∷ xs) us vs s h e = some_leave f depth (x ∷ xs) us vs p (omega arith) h ∙ ap (left_at after_value) (closes_is vs s e) ∙ behind_close after_value s

  -- ---- lists, one after the other

  pub lists_with_more : (within : Bool) (ts : List Token) (xss : List (List A)) (unclosed : Option (List A)) (r s : List Token) → AreLists f depth within ts xss unclosed r
      → AreLists f depth within (ts ++ s) xss unclosed (r ++ s)
  unfolding AreLists
  lists_with_more within ts [] None r s h = (h.0, ap (λ l. l ++ s) h.1)
  lists_with_more within ts [] (Some xs) r s h = (h.0 ++ s, enters_with_more within ts h.0 s h.1, read_with_more f depth xs h.0 r s h.2)
  lists_with_more within ts (xs ∷ xss) unclosed r s h = (
    h.0 ++ s,
    h.1 ++ s,
    h.2 ++ s,
    enters_with_more within ts h.0 s h.3,
    read_with_more f depth xs h.0 h.1 s h.4,
    closes_with_more h.1 h.2 s h.5,
    lists_with_more false h.2 xss unclosed r s h.6,
  )

  -- where no list is open
  pub both_closed : (within : Bool) (ts : List Token) (xss : List (List A)) (r : List Token) (yss : List (List A)) (unclosed : Option (List A)) (s : List Token) → AreLists f depth within ts xss None r
      → AreLists f depth false r yss unclosed s → AreLists f depth within ts (xss ++ yss) unclosed s
  unfolding AreLists
  both_closed within ts [] r yss unclosed s h k = subst (λ w. AreLists f depth w ts yss unclosed s) (sym h.0) (subst (λ l. AreLists f depth false l yss unclosed s) (sym h.1) k)
  both_closed within ts (xs ∷ xss) r yss unclosed s h k = (h.0, h.1, h.2, h.3, h.4, h.5, both_closed false h.2 xss r yss unclosed s h.6 k)

  -- where one is, and stays so
  pub both_open : (within : Bool) (ts : List Token) (xss : List (List A)) (xs : List A) (r : List Token) (ys : List A) (s : List Token) → AreLists f depth within ts xss (Some xs) r
      → AreLists f depth true r [] (Some ys) s → AreLists f depth within ts xss (Some (xs ++ ys)) s
  unfolding AreLists
  both_open within ts [] xs r ys s h k = (h.0, h.1, both_read f depth xs ys h.0 r s h.2 (subst (λ l. AreRead f depth l ys s) (sym k.1) k.2))
  both_open within ts (zs ∷ xss) xs r ys s h k = (h.0, h.1, h.2, h.3, h.4, h.5, both_open false h.2 xss xs r ys s h.6 k)

  -- and ends
  pub both_ended : (within : Bool) (ts : List Token) (xss : List (List A)) (xs : List A) (r : List Token) (ys : List A) (yss : List (List A)) (unclosed : Option (List A)) (s : List Token)
      → AreLists f depth within ts xss (Some xs) r → AreLists f depth true r (ys ∷ yss) unclosed s → AreLists f depth within ts (xss ++ (xs ++ ys) ∷ yss) unclosed s
  unfolding AreLists
  both_ended within ts [] xs r ys yss unclosed s h k = (h.0, k.1, k.2, h.1, both_read f depth xs ys h.0 r k.1 h.2 (subst (λ l. AreRead f depth l ys k.1) (sym k.3) k.4), k.5, k.6)
  both_ended within ts (zs ∷ xss) xs r ys yss unclosed s h k = (h.0, h.1, h.2, h.3, h.4, h.5, both_ended false h.2 xss xs r ys yss unclosed s h.6 k)

  -- behind its bracket a list is one from between lists
  opened : (ts us : List Token) (xss : List (List A)) (unclosed : Option (List A)) (r : List Token) → ts ≡ Token.begin_array ∷ us → AreLists f depth true us xss unclosed r → AreLists f depth false ts xss unclosed r
  unfolding AreLists
  opened ts us [] None r e h = absurd (true≢false h.0)
  opened ts us [] (Some xs) r e h = (h.0, e ∙ ap (λ l. Token.begin_array ∷ l) h.1, h.2)
  opened ts us (xs ∷ xss) unclosed r e h = (h.0, h.1, h.2, e ∙ ap (λ l. Token.begin_array ∷ l) h.3, h.4, h.5, h.6)

  -- behind them the text stands as behind a value
  pub lists_leave : (within : Bool) (ts : List Token) (xss : List (List A)) (unclosed : Option (List A)) (r : List Token) → AreLists f depth within ts xss unclosed r → StaysOpen unclosed r
      → left_at after_value ts ≡ left_at after_value r
  unfolding AreLists
  lists_leave within ts [] None r h some = ap (left_at after_value) h.1
  lists_leave within ts [] (Some xs) r h some = enters_leave within ts h.0 h.1 ∙ some_leave f depth xs h.0 r (entered within) some.0 h.2
  lists_leave within ts (xs ∷ xss) unclosed r h some =
      enters_leave within ts h.0 h.3 ∙ closed_leaves (entered within) xs h.0 h.1 h.2 h.4 h.5 ∙ lists_leave false h.2 xss unclosed r h.6 some

  read_no_longer : (xs : List A) (ts r : List Token) → AreRead f depth ts xs r → length r ≤ length ts
  unfolding AreRead
  read_no_longer [] ts r h = omega (arith, ap length h)
  read_no_longer (x ∷ xs) ts r h = omega (arith, data_at-shorter depth ts h.1.0 h.0 h.1.1, read_no_longer xs h.0 r h.2)

  enters_no_longer : (within : Bool) (ts us : List Token) → Enters within ts us → length us ≤ length ts
  enters_no_longer true ts us h = omega (arith, ap length h)
  enters_no_longer false ts us h = omega (arith, ap length h)

  lists_shorter : (within : Bool) (ts : List Token) (xss : List (List A)) (unclosed : Option (List A)) (r : List Token) → AreLists f depth within ts xss unclosed r → length r ≤ length ts
  unfolding AreLists
  lists_shorter within ts [] None r h = omega (arith, ap length h.1)
  lists_shorter within ts [] (Some xs) r h = omega (arith, enters_no_longer within ts h.0 h.1, read_no_longer xs h.0 r h.2)
  lists_shorter within ts (xs ∷ xss) unclosed r h =
      omega (arith, enters_no_longer within ts h.0 h.3, read_no_longer xs h.0 h.1 h.4, ap length (closes_is h.1 h.2 h.5), lists_shorter false h.2 xss unclosed r h.6)

  -- at the end of the list that they stand in, its items were read
  pub lists_read : (outer : ℕ) (ts : List Token) (xss : List (List A)) (r u : List Token) → outer ≡ depth + 1 → AreLists f depth false ts xss None r → after_end_array r ≡ Some u
      → (ds : Items) × (items_at outer ts ≡ Some (ds, u)) × GiveLists f ds xss
  unfolding AreLists GiveLists
  lists_read outer ts [] r u deep h e = (no_items, items_at-over outer ts u (ap after_end_array h.1 ∙ e), tt)
  lists_read outer ts (xs ∷ xss) r u deep h e =
      let us = h.0 in
      let list = items_read f depth xs us h.1 h.2 h.4 h.5 in
      let others = lists_read outer h.2 xss r u deep h.6 e in
      let there : data_at outer ts ≡ parse_map array (items_at depth us) = ap (data_at outer) h.3 ∙ data_at-array outer depth us deep in (
        item (array list.0) others.0,
        items_at-next outer ts (ap after_end_array h.3) ∙ ap (and_next (λ d s. parse_map (item d) (items_at outer s))) (there ∙ ap (parse_map array) list.1) ∙ ap (parse_map (item (array list.0))) others.1,
        (list.0, refl, list.2, others.2),
      )

  -- ---- what readers do

  none_are : (w : Bool) (ts : List Token) → AreLists f depth w ts [] (cond w (Some []) None) ts
  unfolding AreLists AreRead
  none_are true ts = (ts, refl, refl)
  none_are false ts = (refl, refl)

  pub no_lists : (within : Bool) (ts : List Token) (xss : List (List A)) (unclosed : Option (List A)) → xss ≡ [] → unclosed ≡ cond within (Some []) None → AreLists f depth within ts xss unclosed ts
  no_lists within ts xss unclosed e g = subst (λ l. AreLists f depth within ts l unclosed ts) (sym e) (subst (λ o. AreLists f depth within ts [] o ts) (sym g) (none_are within ts))

  -- so far one or more items were read, behind the others
  abbrev pub SoFar : List Token → List A → List A → List Token → Type 0
  SoFar start old new r = (more : List A) × (new ≡ old ++ more) × (0 < length more) × AreRead f depth start more r

  pub first_item : (start ts : List Token) (old new : List A) (r : List Token) → start ≡ ts → ReadsItem f depth ts old new r → SoFar start old new r
  unfolding AreRead
  first_item start ts old new r e h = (h.0 ∷ [], h.1, omega arith, (r, (h.2.0, ap (data_at depth) e ∙ h.2.1, h.2.2), refl))

  -- one more
  pub next_item : (start : List Token) (old row new : List A) (now ts r : List Token) → SoFar start old row now → now ≡ ts → ReadsItem f depth ts row new r → SoFar start old new r
  unfolding AreRead
  next_item start old row new now ts r h e k = (
    h.0 ++ k.0 ∷ [],
    k.1 ∙ ap (λ l. l ++ k.0 ∷ []) h.1 ∙ append_assoc old h.0 (k.0 ∷ []),
    omega (arith, length-append h.0 (k.0 ∷ [])),
    both_read f depth h.0 (k.0 ∷ []) start now r h.3 (r, (k.2.0, ap (data_at depth) e ∙ k.2.1, k.2.2), refl),
  )

  pub item_shorter : (now ts : List Token) (old new : List A) (r : List Token) → now ≡ ts → ReadsItem f depth ts old new r → length r < length now
  item_shorter now ts old new r e h = omega (arith, ap length e, data_at-shorter depth ts h.2.0 r h.2.1)

  -- up to the end of the list, and of the text
  pub row_ended : (start : List Token) (old new : List A) (now r : List Token) → SoFar start old new now → after_end_array now ≡ Some r → ReadsRow f depth start old new false r
  row_ended start old new now r h e = (h.0, now, h.1, h.2, h.3, e)

  pub row_open : (start : List Token) (old new : List A) (now r : List Token) → SoFar start old new now → now ≡ [] → r ≡ [] → ReadsRow f depth start old new true r
  row_open start old new now r h e g = (h.0, now, h.1, h.2, h.3, (e, g))

  -- the rest of the open list, by whether it stays open
  pub rest_open : (stays : Bool) (ts : List Token) (row start all last : List A) (old new : List (List A)) (r : List Token) → start ≡ row → stays ≡ true → ReadsRow f depth ts start all stays r → last ≡ all → new ≡ old
      → Begins ts × ReadsRest f depth ts row old new (Some last) r
  unfolding AreLists
  rest_open stays ts row start all last old new r begin is read same e =
      let h = subst (λ b. ReadsRow f depth ts start all b r) is read in (
        read_begins f depth h.0 ts h.1 h.3 h.4,
        (h.0, e, same ∙ h.2 ∙ ap (λ l. l ++ h.0) begin, (h.3, h.5.1), (ts, refl, subst (AreRead f depth ts h.0) (h.5.0 ∙ sym h.5.1) h.4)),
      )

  pub rest_ended : (stays : Bool) (ts : List Token) (row start all last : List A) (old new : List (List A)) (r : List Token) → start ≡ row → stays ≡ false → ReadsRow f depth ts start all stays r → last ≡ all → new ≡ old ++ last ∷ []
      → Begins ts × ReadsRest f depth ts row old new None r
  unfolding AreLists
  rest_ended stays ts row start all last old new r begin is read same e =
      let h = subst (λ b. ReadsRow f depth ts start all b r) is read in (
        read_begins f depth h.0 ts h.1 h.3 h.4,
        (h.0, e ∙ ap (λ l. old ++ l ∷ []) (same ∙ h.2 ∙ ap (λ l. l ++ h.0) begin), (ts, h.1, r, refl, h.4, h.5, (refl, refl))),
      )

  -- of a list with nothing read
  pub empty_list : (ts : List Token) (old new : List (List A)) (r : List Token) → after_end_array ts ≡ Some r → new ≡ old ++ [] ∷ [] → ReadsOn f depth true ts old new None r
  unfolding AreLists AreRead
  empty_list ts old new r e g = ([] ∷ [], g, (ts, ts, r, refl, refl, e, (refl, refl)), tt)

  pub rest_reads : (ts : List Token) (row : List A) (old new : List (List A)) (unclosed : Option (List A)) (r : List Token) → row ≡ [] → ReadsRest f depth ts row old new unclosed r
      → ReadsOn f depth true ts old new unclosed r
  rest_reads ts row old new None r e h = (h.0 ∷ [], h.1 ∙ ap (λ l. old ++ (l ++ h.0) ∷ []) e, h.2, tt)
  rest_reads ts row old new (Some xs) r e h =
      let same : h.0 ≡ xs = sym (h.2 ∙ ap (λ l. l ++ h.0) e) in
      ([], h.1 ∙ sym (append-nil old), subst (λ l. AreLists f depth true ts [] (Some l) r) same h.4, subst (λ l. StaysOpen (Some l) r) same h.3)

  pub rest_told : (ts start : List Token) (row : List A) (old new : List (List A)) (answer : Option (Option (List A))) (r : List Token) → start ≡ ts → row ≡ []
      → IfSome answer (λ unclosed. Begins start × ReadsRest f depth start row old new unclosed r) → IfSome answer (λ unclosed. ReadsOn f depth true ts old new unclosed r)
  rest_told ts start row old new None r is none h = tt
  rest_told ts start row old new (Some unclosed) r is none h = subst (λ l. ReadsOn f depth true l old new unclosed r) is (rest_reads start row old new unclosed r none h.1)

  -- a list behind others
  pub lists_more : (start : List Token) (old mid new : List (List A)) (unclosed : Option (List A)) (now us r : List Token) → ReadsOn f depth false start old mid None now → now ≡ Token.begin_array ∷ us
      → ReadsOn f depth true us mid new unclosed r → ReadsOn f depth false start old new unclosed r
  lists_more start old mid new unclosed now us r h e k = (
    h.0 ++ k.0,
    k.1 ∙ ap (λ l. l ++ k.0) h.1 ∙ append_assoc old h.0 k.0,
    both_closed false start h.0 now k.0 unclosed r h.2 (opened now us k.0 unclosed r e k.2),
    k.3,
  )

  pub none_more : (start : List Token) (old new : List (List A)) → new ≡ old → ReadsOn f depth false start old new None start
  unfolding AreLists
  none_more start old new e = ([], e ∙ sym (append-nil old), (refl, refl), tt)

  pub next_list : (start : List Token) (old mid new : List (List A)) (found : Option (List A)) (now us r : List Token) → ReadsOn f depth false start old mid None now → now ≡ Token.begin_array ∷ us → found ≡ None
      → ReadsOn f depth true us mid new found r → ReadsOn f depth false start old new None r
  next_list start old mid new found now us r h e none k = lists_more start old mid new None now us r h e (subst (λ o. ReadsOn f depth true us mid new o r) none k)

  pub last_list : (start : List Token) (old mid new : List (List A)) (found : Option (List A)) (row : List A) (now us r : List Token) → ReadsOn f depth false start old mid None now → now ≡ Token.begin_array ∷ us
      → found ≡ Some row → ReadsOn f depth true us mid new found r → ReadsOn f depth false start old new (Some row) []
  last_list start old mid new found row now us r h e is k =
      let lists = lists_more start old mid new (Some row) now us r h e (subst (λ o. ReadsOn f depth true us mid new o r) is k) in
      subst (ReadsOn f depth false start old new (Some row)) lists.3.1 lists

  pub list_shorter : (now us : List Token) (old new : List (List A)) (unclosed : Option (List A)) (r : List Token) → now ≡ Token.begin_array ∷ us → ReadsOn f depth true us old new unclosed r → length r < length now
  list_shorter now us old new unclosed r e h = omega (arith, ap length e, lists_shorter true us h.0 unclosed r h.2)

  pub no_more_lists : (start : List Token) (old new : List (List A)) (now : List Token) → ReadsOn f depth false start old new None now → now ≡ [] → ReadsOn f depth false start old new None []
  no_more_lists start old new now h e = subst (ReadsOn f depth false start old new None) e h

  -- ---- from an open list on, and from between lists

  rest_goes_on : (ts : List Token) (row : List A) (old new : List (List A)) (next : Option (List A)) (r : List Token) → ReadsRest f depth ts row old new next r → GoesOn f depth ts old (Some row) new next r
  rest_goes_on ts row old new None r h within us lists =
      subst (λ l. AreLists f depth within (us ++ ts) l None r) (sym h.1) (both_ended within (us ++ ts) old row ts h.0 [] None r (lists_with_more within us old (Some row) [] ts lists) h.2)
  rest_goes_on ts row old new (Some xs) r h within us lists =
      subst (λ l. AreLists f depth within (us ++ ts) l (Some xs) r) (sym h.1) (subst (λ l. AreLists f depth within (us ++ ts) old (Some l) r) (sym h.2)
      (both_open within (us ++ ts) old row ts h.0 r (lists_with_more within us old (Some row) [] ts lists) h.4))

  rest_leaves : (ts : List Token) (row : List A) (old new : List (List A)) (next : Option (List A)) (r : List Token) → ReadsRest f depth ts row old new next r → left_at after_value ts ≡ left_at after_value r
  rest_leaves ts row old new None r h = lists_leave true ts (h.0 ∷ []) None r h.2 tt
  rest_leaves ts row old new (Some xs) r h = lists_leave true ts [] (Some h.0) r h.4 h.3

  rest_ends : (ts : List Token) (row : List A) (old new : List (List A)) (next : Option (List A)) (r : List Token) → ReadsRest f depth ts row old new next r → IfSome next (λ _. r ≡ [])
  rest_ends ts row old new None r h = tt
  rest_ends ts row old new (Some xs) r h = h.3.1

  pub first_within : (ts : List Token) (row : List A) (old new : List (List A)) (unclosed next : Option (List A)) (r : List Token) → unclosed ≡ Some row → Begins ts → ReadsRest f depth ts row old new next r
      → ReadsFirst f depth ts old unclosed new next r
  first_within ts row old new unclosed next r is begins h = (
    begins,
    begins_anywhere fresh after_value ts begins ∙ rest_leaves ts row old new next r h,
    subst (λ o. GoesOn f depth ts old o new next r) (sym is) (rest_goes_on ts row old new next r h),
    rest_ends ts row old new next r h,
  )

  open_ends : (unclosed : Option (List A)) (r : List Token) → StaysOpen unclosed r → IfSome unclosed (λ _. r ≡ [])
  open_ends None r h = tt
  open_ends (Some xs) r h = h.1

  -- lists behind others, none of which is open
  lists_go_on : (ts : List Token) (old new : List (List A)) (unclosed next : Option (List A)) (r : List Token) → unclosed ≡ None → ReadsOn f depth false ts old new next r → GoesOn f depth ts old unclosed new next r
  lists_go_on ts old new unclosed next r is h within us lists =
      let before = lists_with_more within us old None [] ts (subst (λ o. AreLists f depth within us old o []) is lists) in
      subst (λ l. AreLists f depth within (us ++ ts) l next r) (sym h.1) (both_closed within (us ++ ts) old ts h.0 next r before h.2)

  bracket_begins : (ts us : List Token) → ts ≡ Token.begin_array ∷ us → Begins ts
  bracket_begins ts us e = subst Begins (sym e) tt

  pub first_between : (ts us : List Token) (old new : List (List A)) (unclosed next : Option (List A)) (r : List Token) → unclosed ≡ None → ts ≡ Token.begin_array ∷ us → ReadsOn f depth true us old new next r
      → ReadsFirst f depth ts old unclosed new next r
  first_between ts us old new unclosed next r none e h =
      let begins = bracket_begins ts us e in
      let lists : AreLists f depth false ts h.0 next r = opened ts us h.0 next r e h.2 in (
        begins,
        begins_anywhere fresh after_value ts begins ∙ lists_leave false ts h.0 next r lists h.3,
        lists_go_on ts old new unclosed next r none (h.0, h.1, lists, h.3),
        open_ends next r h.3,
      )

  pub within_told : (ts : List Token) (row : List A) (old new : List (List A)) (unclosed : Option (List A)) (answer : Option (Option (List A))) (r : List Token) → unclosed ≡ Some row
      → IfSome answer (λ next. Begins ts × ReadsRest f depth ts row old new next r) → IfSome answer (λ next. ReadsFirst f depth ts old unclosed new next r)
  within_told ts row old new unclosed None r is h = tt
  within_told ts row old new unclosed (Some next) r is h = first_within ts row old new unclosed next r is h.0 h.1

  pub between_told : (ts us : List Token) (old new : List (List A)) (unclosed : Option (List A)) (answer : Option (Option (List A))) (r : List Token) → unclosed ≡ None → ts ≡ Token.begin_array ∷ us
      → IfSome answer (λ next. ReadsOn f depth true us old new next r) → IfSome answer (λ next. ReadsFirst f depth ts old unclosed new next r)
  between_told ts us old new unclosed None r none e h = tt
  between_told ts us old new unclosed (Some next) r none e h = first_between ts us old new unclosed next r none e h

  -- and then lists
  first_and_lists : (ts : List Token) (old mid new : List (List A)) (unclosed first next : Option (List A)) (now r : List Token) → first ≡ None → ReadsFirst f depth ts old unclosed mid first now
      → ReadsOn f depth false now mid new next r → GoesOn f depth ts old unclosed new next r
  first_and_lists ts old mid new unclosed first next now r none h k within us lists =
      let before = subst (λ o. AreLists f depth within (us ++ ts) mid o now) none (h.2 within us lists) in
      subst (λ l. AreLists f depth within (us ++ ts) l next r) (sym k.1) (both_closed within (us ++ ts) mid now k.0 next r before k.2)

  pub on_to_end : (ts : List Token) (old mid new : List (List A)) (unclosed first next : Option (List A)) (now : List Token) → first ≡ None → ReadsFirst f depth ts old unclosed mid first now
      → ReadsOn f depth false now mid new next [] → Begins ts × (left_at fresh ts ≡ Some after_value) × GoesOn f depth ts old unclosed new next []
  unfolding left_at
  on_to_end ts old mid new unclosed first next now none h k =
      (h.0, h.1 ∙ lists_leave false now k.0 next [] k.2 k.3, first_and_lists ts old mid new unclosed first next now [] none h k)

  pub on_within : (ts : List Token) (old new : List (List A)) (unclosed first : Option (List A)) (row : List A) (now : List Token) → first ≡ Some row → ReadsFirst f depth ts old unclosed new first now
      → Begins ts × (left_at fresh ts ≡ Some after_value) × GoesOn f depth ts old unclosed new (Some row) []
  unfolding left_at
  on_within ts old new unclosed first row now is h =
      let end : now ≡ [] = subst (λ o. IfSome o (λ _. now ≡ [])) is h.3 in (
        h.0,
        h.1 ∙ ap (left_at after_value) end,
        λ within us lists. subst (λ o. AreLists f depth within (us ++ ts) new o []) is (subst (AreLists f depth within (us ++ ts) new first) end (h.2 within us lists)),
      )

  pub on_to_bracket : (ts : List Token) (old mid new : List (List A)) (unclosed first : Option (List A)) (now left : List Token) → first ≡ None → ReadsFirst f depth ts old unclosed mid first now
      → (r : List Token) × ReadsOn f depth false now mid new None r × (after_end_array r ≡ Some left)
      → Begins ts × (r : List Token) × GoesOn f depth ts old unclosed new None r × (after_end_array r ≡ Some left)
  on_to_bracket ts old mid new unclosed first now left none h k = (h.0, k.0, first_and_lists ts old mid new unclosed first None now k.0 none h k.1, k.2)

  pub on_told : (ts : List Token) (old mid new : List (List A)) (unclosed first : Option (List A)) (answer : Option (Option (List A))) (now : List Token) → first ≡ None → ReadsFirst f depth ts old unclosed mid first now
      → IfSome answer (λ next. ReadsOn f depth false now mid new next [])
      → IfSome answer (λ next. Begins ts × (left_at fresh ts ≡ Some after_value) × GoesOn f depth ts old unclosed new next [])
  on_told ts old mid new unclosed first None now none h k = tt
  on_told ts old mid new unclosed first (Some next) now none h k = on_to_end ts old mid new unclosed first next now none h k

  pub to_end_told : {U : Type 0} (ts : List Token) (old mid new : List (List A)) (unclosed first : Option (List A)) (answer : Option U) (now left : List Token) → first ≡ None → ReadsFirst f depth ts old unclosed mid first now
      → IfSome answer (λ _. (r : List Token) × ReadsOn f depth false now mid new None r × (after_end_array r ≡ Some left))
      → IfSome answer (λ _. Begins ts × (r : List Token) × GoesOn f depth ts old unclosed new None r × (after_end_array r ≡ Some left))
  to_end_told ts old mid new unclosed first None now left none h k = tt
  to_end_told ts old mid new unclosed first (Some a) now left none h k = on_to_bracket ts old mid new unclosed first now left none h k
