-- Texts in pieces, and what is read of them.
use Rattle.std.proofs.Common.{◌≡◌, ℕ, zero, suc, ◌+◌, ◌<◌, Bool, true, false, List, [], ◌∷◌, ◌++◌, length, take, drop, get_or, cond, Option, Some, None, Result, refl, sym, ap, ◌∙◌, subst, append_assoc, append-nil, length-append, arith}
use Rattle.std.proofs.lemmas.List.{map-append, take_more}
use Rattle.std.specs.Borrow.{Bor}
use Rattle.std.specs.Str.{IsUtf8, IsAscii}
use Rattle.std.proofs.lemmas.Str.{IsUtf8-append, IsUtf8-from_ascii}
use Rattle.json.specs.Token.{Token}
use Rattle.json.specs.Lex.{fresh, after_value, tokens}
use Rattle.serde_json.specs.Data.{Data}
use Rattle.lk_pieces.specs.declared.pieces.Part.{Part}
use Rattle.lk_pieces.specs.Joining.{left_at, Begins}
use Rattle.lk_pieces.specs.Lists.{AreLists, GoesOn}
use Rattle.lk_pieces.specs.Pieces.{joined, bytes_of, tokens_of, ArePieces, AreHeld, Continue, JoinsRows, Joins}
use Rattle.lk_pieces.specs.Reading.{IsRead}
use Rattle.lk_pieces.specs.Tokens.{data_at}
use Rattle.lk_pieces.proofs.Joining.{joins}
use Rattle.lk_pieces.proofs.ListLaws.{lists_with_more, both_closed, both_open, both_ended, no_lists}
use Rattle.lk_pieces.proofs.Tokens.{data_at-shorter}

-- ---- cuts

joined-more : (ps : List (List ℕ)) (p last : List ℕ) → joined (ps ++ p ∷ []) last ≡ joined ps (p ++ 44 ∷ last)
joined-more [] p last = refl
joined-more (q ∷ ps) p last = ap (λ t. q ++ 44 ∷ t) (joined-more ps p last)

-- one more piece is cut off
pub cut_once : (text : List ℕ) (ps qs : List (Bor (List ℕ))) (p : Bor (List ℕ)) (rest last : List ℕ) → text ≡ joined (bytes_of ps) rest → rest ≡ p.now ++ 44 ∷ last → qs ≡ ps ++ p ∷ []
    → text ≡ joined (bytes_of qs) last
cut_once text ps qs p rest last e f g =
    e ∙ ap (joined (bytes_of ps)) f ∙ sym (joined-more (bytes_of ps) p.now last) ∙ ap (λ l. joined l last) (sym (map-append (λ (q : Bor (List ℕ)). q.now) ps (p ∷ [])) ∙ ap bytes_of (sym g))

pub cut_shorter : (rest p last : List ℕ) → rest ≡ p ++ 44 ∷ last → length last < length rest
cut_shorter rest p last e = omega (arith, ap length e, length-append p (44 ∷ last))

-- ---- items

pub read_shorter : {A E : Type 0} (f : Data → Result A E) (depth : ℕ) (ts : List Token) (x : A) (r : List Token) → IsRead f depth ts x r → length r < length ts
read_shorter f depth ts x r h = data_at-shorter depth ts h.0 r h.1

-- the value that was read begins with the token that was taken first
pub read_from : {A E : Type 0} (f : Data → Result A E) (depth : ℕ) (ts us : List Token) (x : A) (r : List Token) → ts ≡ us → IsRead f depth us x r → IsRead f depth ts x r
read_from f depth ts us x r e h = (h.0, ap (data_at depth) e ∙ h.1, h.2)

-- ---- pieces, one after the other

tokens_of-append : (ps qs : List (List ℕ)) → tokens_of (ps ++ qs) ≡ tokens_of ps ++ tokens_of qs
tokens_of-append [] qs = refl
tokens_of-append (p ∷ ps) qs = ap (λ l. tokens p ++ l) (tokens_of-append ps qs) ∙ sym (append_assoc (tokens p) (tokens_of ps) (tokens_of qs))

pieces-append : (ps qs : List (List ℕ)) → ArePieces ps → ArePieces qs → ArePieces (ps ++ qs)
unfolding ArePieces
pieces-append [] qs h k = k
pieces-append (p ∷ ps) qs h k = (h.0, pieces-append ps qs h.1 k)

begins_with_more : (ts s : List Token) → Begins ts → Begins (ts ++ s)
begins_with_more [] s h = absurd h
begins_with_more (Token.begin_object ∷ ts) s h = tt
begins_with_more (Token.end_object ∷ ts) s h = absurd h
begins_with_more (Token.begin_array ∷ ts) s h = tt
begins_with_more (Token.end_array ∷ ts) s h = absurd h
begins_with_more (Token.key k ∷ ts) s h = tt
begins_with_more (Token.string k ∷ ts) s h = tt
begins_with_more (Token.number k ∷ ts) s h = tt
begins_with_more (Token.boolean b ∷ ts) s h = tt
begins_with_more (Token.null ∷ ts) s h = tt
begins_with_more (Token.bad ∷ ts) s h = absurd h

-- the tokens of a text are those of its pieces
pub joined_tokens : (p : List ℕ) (ps : List (List ℕ)) (last : List ℕ) → left_at fresh (tokens p) ≡ Some after_value → ArePieces ps → Begins (tokens last)
    → tokens (joined (p ∷ ps) last) ≡ tokens p ++ (tokens_of ps ++ tokens last)
unfolding ArePieces
joined_tokens p [] last ends pieces begins = joins p last ends begins
joined_tokens p (q ∷ ps) last ends pieces begins =
    let others : tokens (joined (q ∷ ps) last) ≡ tokens q ++ (tokens_of ps ++ tokens last) = joined_tokens q ps last pieces.0.2 pieces.1 begins in
    joins p (joined (q ∷ ps) last) ends (subst Begins (sym others) (begins_with_more (tokens q) (tokens_of ps ++ tokens last) pieces.0.1))
    ∙ ap (λ l. tokens p ++ l) (others ∙ sym (append_assoc (tokens q) (tokens_of ps) (tokens last)))

comma_ascii : IsAscii (44 ∷ [])
comma_ascii zero = omega arith
comma_ascii (suc i) = omega arith

comma_utf8 : (a b : List ℕ) → IsUtf8 a → IsUtf8 b → IsUtf8 (a ++ 44 ∷ b)
comma_utf8 a b h k = IsUtf8-append a (44 ∷ b) h (IsUtf8-append (44 ∷ []) b (IsUtf8-from_ascii (44 ∷ []) comma_ascii) k)

pub joined_utf8 : (ps : List (List ℕ)) (last : List ℕ) → ArePieces ps → IsUtf8 last → IsUtf8 (joined ps last)
unfolding ArePieces
joined_utf8 [] last h k = k
joined_utf8 (p ∷ ps) last h k = comma_utf8 p (joined ps last) h.0.0 (joined_utf8 ps last h.1 k)

pub first_utf8 : (p : List ℕ) (ps : List (List ℕ)) (last : List ℕ) → IsUtf8 p → ArePieces ps → IsUtf8 last → IsUtf8 (joined (p ∷ ps) last)
first_utf8 p ps last h pieces k = comma_utf8 p (joined ps last) h (joined_utf8 ps last pieces k)

module _ {A E : Type 0} (f : Data → Result A E) (depth : ℕ) where
  -- ---- what was read goes on

  pub none_continue : (old new : Part A) → new ≡ old → Continue f depth [] old new
  unfolding ArePieces
  none_continue old new e = subst (Continue f depth [] old) (sym e) (tt, λ within us lists. subst (λ l. AreLists f depth within l old.closed.items old.unclosed []) (sym (append-nil us)) lists)

  pub both_continue : (ps qs : List (List ℕ)) (old mid new : Part A) → Continue f depth ps old mid → Continue f depth qs mid new → Continue f depth (ps ++ qs) old new
  both_continue ps qs old mid new h k = (
    pieces-append ps qs h.0 k.0,
    λ within us lists.
        subst (λ l. AreLists f depth within l new.closed.items new.unclosed []) (append_assoc us (tokens_of ps) (tokens_of qs) ∙ ap (λ l. us ++ l) (sym (tokens_of-append ps qs)))
        (k.1 within (us ++ tokens_of ps) (h.1 within us lists)),
  )

  -- one more piece was read
  pub next_continue : (ps : List (Bor (List ℕ))) (i : ℕ) (d : Bor (List ℕ)) (old mid new : Part A) → i < length ps → Continue f depth (bytes_of (take i ps)) old mid
      → Continue f depth ((get_or ps i d).now ∷ []) mid new → Continue f depth (bytes_of (take (i + 1) ps)) old new
  next_continue ps i d old mid new lt h k =
      let p = get_or ps i d in
      let shown : bytes_of (take (i + 1) ps) ≡ bytes_of (take i ps) ++ p.now ∷ [] = ap bytes_of (take_more ps i d lt) ∙ map-append (λ (q : Bor (List ℕ)). q.now) (take i ps) (p ∷ []) in
      subst (λ l. Continue f depth l old new) (sym shown) (both_continue (bytes_of (take i ps)) (p.now ∷ []) old mid new h k)

  -- of a piece
  pub piece_continues : (piece : List ℕ) (start : List Token) (old new : Part A) → IsUtf8 piece → start ≡ tokens piece → Begins start × (left_at fresh start ≡ Some after_value)
      × GoesOn f depth start old.closed.items old.unclosed new.closed.items new.unclosed [] → Continue f depth (piece ∷ []) old new
  unfolding ArePieces
  piece_continues piece start old new text is h = (
    ((text, subst Begins is h.0, ap (left_at fresh) (sym is) ∙ h.1), tt),
    subst (λ ts. GoesOn f depth ts old.closed.items old.unclosed new.closed.items new.unclosed []) (is ∙ sym (append-nil (tokens piece))) h.2,
  )

  -- from nothing on
  pub held_from : (ps : List (List ℕ)) (within : Bool) (start all part : Part A) → start.closed.items ≡ [] → start.unclosed ≡ cond within (Some []) None → Continue f depth ps start all
      → part.within ≡ within → part.closed.items ≡ all.closed.items → part.unclosed ≡ all.unclosed → AreHeld f depth ps part
  held_from ps within start all part none unclosed h same closed opens =
      let lists = h.1 within [] (no_lists f depth within [] start.closed.items start.unclosed none unclosed) in (
        h.0,
        subst (λ w. AreLists f depth w (tokens_of ps) part.closed.items part.unclosed []) (sym same)
            (subst (λ l. AreLists f depth within (tokens_of ps) l part.unclosed []) (sym closed) (subst (λ o. AreLists f depth within (tokens_of ps) all.closed.items o []) (sym opens) lists)),
      )

  -- what a part holds goes on behind another
  pub part_continues : (ps : List (List ℕ)) (old part new : Part A) → Joins f old part new → AreHeld f depth ps part → Continue f depth ps old new
  part_continues ps old part new h k = (k.0, λ within us lists. h depth within us (tokens_of ps) [] lists k.1)

-- ---- parts

pub none_left : {X : Type 0} (xs : List X) → length xs ≡ 0 → xs ≡ []
none_left [] e = refl
none_left (x ∷ xs) e = absurd (omega (arith, e))

pub first_removed : {X : Type 0} (xs : List X) (x : X) (ys : List X) → 0 < length xs → x ≡ get_or xs 0 x → ys ≡ take 0 xs ++ drop 1 xs → xs ≡ x ∷ ys
first_removed [] x ys some value items = absurd (omega (arith, some))
first_removed (z ∷ zs) x ys some value items = ap (λ l. l ∷ zs) (sym value) ∙ ap (λ l. x ∷ l) (sym items)

pub pushed_between : {X : Type 0} (xs : List X) (x y : X) (ys all : List X) → x ≡ y → all ≡ (xs ++ x ∷ []) ++ ys → all ≡ xs ++ y ∷ ys
pushed_between xs x y ys all is e = e ∙ append_assoc xs (x ∷ []) ys ∙ ap (λ z. xs ++ z ∷ ys) is

module _ {A E : Type 0} (f : Data → Result A E) where
  pub rows_open : (xss yss : List (List A)) (row : List A) (unclosed : Option (List A)) (both : Part A) (last all : List A) → yss ≡ [] → unclosed ≡ Some last → both.closed.items ≡ xss
      → both.unclosed ≡ Some all → all ≡ row ++ last → JoinsRows f xss row yss unclosed both
  rows_open xss yss row unclosed both last all none is same opens joined depth within us ts r h k =
      let more : AreLists f depth true ts [] (Some last) r = subst (λ l. AreLists f depth true ts l (Some last) r) none (subst (λ o. AreLists f depth true ts yss o r) is k) in
      let lists = both_open f depth within (us ++ ts) xss row ts last r (lists_with_more f depth within us xss (Some row) [] ts h) more in
      let shown : both.unclosed ≡ Some (row ++ last) = opens ∙ ap Some joined in
      subst (λ l. AreLists f depth within (us ++ ts) l both.unclosed r) (sym same) (subst (λ o. AreLists f depth within (us ++ ts) xss o r) (sym shown) lists)

  pub rows_ended : (xss yss zss : List (List A)) (row first : List A) (unclosed : Option (List A)) (both : Part A) → yss ≡ first ∷ zss → both.closed.items ≡ xss ++ (row ++ first) ∷ zss → both.unclosed ≡ unclosed
      → JoinsRows f xss row yss unclosed both
  rows_ended xss yss zss row first unclosed both is same opens depth within us ts r h k =
      let more : AreLists f depth true ts (first ∷ zss) unclosed r = subst (λ l. AreLists f depth true ts l unclosed r) is k in
      let lists = both_ended f depth within (us ++ ts) xss row ts first zss unclosed r (lists_with_more f depth within us xss (Some row) [] ts h) more in
      subst (λ l. AreLists f depth within (us ++ ts) l both.unclosed r) (sym same) (subst (λ o. AreLists f depth within (us ++ ts) (xss ++ (row ++ first) ∷ zss) o r) (sym opens) lists)

  pub parts_within : (part more both : Part A) (row : List A) → part.unclosed ≡ Some row → more.within ≡ true → JoinsRows f part.closed.items row more.closed.items more.unclosed both → Joins f part more both
  parts_within part more both row is within h depth from us ts r lists others =
      h depth from us ts r (subst (λ o. AreLists f depth from us part.closed.items o []) is lists) (subst (λ w. AreLists f depth w ts more.closed.items more.unclosed r) within others)

  pub parts_between : (part more both : Part A) → part.unclosed ≡ None → more.within ≡ false → both.closed.items ≡ part.closed.items ++ more.closed.items → both.unclosed ≡ more.unclosed → Joins f part more both
  parts_between part more both none between same opens depth from us ts r lists others =
      let before = lists_with_more f depth from us part.closed.items None [] ts (subst (λ o. AreLists f depth from us part.closed.items o []) none lists) in
      let behind = subst (λ w. AreLists f depth w ts more.closed.items more.unclosed r) between others in
      let all = both_closed f depth from (us ++ ts) part.closed.items ts more.closed.items more.unclosed r before behind in
      subst (λ l. AreLists f depth from (us ++ ts) l both.unclosed r) (sym same) (subst (λ o. AreLists f depth from (us ++ ts) (part.closed.items ++ more.closed.items) o r) (sym opens) all)
