-- Which pieces the blocks of an offset map keep.
use Rattle.std.proofs.Common.{◌≡◌, ℕ, zero, suc, ◌+◌, ◌/◌, ◌<◌, ◌≤◌, Bool, true, false, cond, not, eqb, List, [], ◌∷◌, ◌++◌, length, min, Some, refl, sym, ap, ◌∙◌, subst, arith, inl, inr, ◌⊎◌, append-nil, append_assoc, length-append}
use Rattle.std.specs.List.{slice_get}
use Rattle.std.proofs.lemmas.Bool.{ltb-true, ltb-false, eqb-true}
use Rattle.std.proofs.lemmas.List.Elements.{filter-append}
use Rattle.lk_merge.specs.declared.offset_map.PieceEntry.{PieceEntry}
use Rattle.lk_merge.specs.OffsetMaps.{StartsRise, chosen_behind, first_twelve, has_no_room, has_room, in_block, past_twelfth}

abbrev Choice : Type 0
Choice = List PieceEntry → PieceEntry → Bool

module _ (choice : Choice) where
  pub chosen_none : (before : List PieceEntry) → chosen_behind choice before [] ≡ []
  unfolding chosen_behind
  chosen_none before = refl

  pub chosen_step : (before : List PieceEntry) (e : PieceEntry) (es : List PieceEntry) (t : Bool) → choice before e ≡ t
      → chosen_behind choice before (e ∷ es) ≡ cond t (e ∷ chosen_behind choice (before ++ e ∷ []) es) (chosen_behind choice (before ++ e ∷ []) es)
  unfolding chosen_behind
  chosen_step before e es t h = ap (λ b. cond b (e ∷ chosen_behind choice (before ++ e ∷ []) es) (chosen_behind choice (before ++ e ∷ []) es)) h

  -- of one list behind another
  pub chosen_append : (before xs ys : List PieceEntry) → chosen_behind choice before (xs ++ ys) ≡ chosen_behind choice before xs ++ chosen_behind choice (before ++ xs) ys
  chosen_append before [] ys =
      ap (λ l. chosen_behind choice l ys) (sym (append-nil before)) ∙ ap (λ l. l ++ chosen_behind choice (before ++ []) ys) (sym (chosen_none before))
  chosen_append before (d ∷ xs) ys = by (choice before d) refl (chosen_append (before ++ d ∷ []) xs ys)
    where
      first : List PieceEntry
      first = chosen_behind choice (before ++ d ∷ []) xs

      end : List PieceEntry
      end = chosen_behind choice (before ++ d ∷ xs) ys

      same : (before ++ d ∷ []) ++ xs ≡ before ++ d ∷ xs
      same = append_assoc before (d ∷ []) xs

      by : (t : Bool) → choice before d ≡ t → chosen_behind choice (before ++ d ∷ []) (xs ++ ys) ≡ first ++ chosen_behind choice ((before ++ d ∷ []) ++ xs) ys
          → chosen_behind choice before (d ∷ xs ++ ys) ≡ chosen_behind choice before (d ∷ xs) ++ end
      by true h more =
          chosen_step before d (xs ++ ys) true h ∙ ap (λ l. d ∷ l) (more ∙ ap (λ l. first ++ chosen_behind choice l ys) same) ∙ ap (λ l. l ++ end) (sym (chosen_step before d xs true h))
      by false h more =
          chosen_step before d (xs ++ ys) false h ∙ more ∙ ap (λ l. first ++ chosen_behind choice l ys) same ∙ ap (λ l. l ++ end) (sym (chosen_step before d xs false h))

  chosen_one : (before : List PieceEntry) (e : PieceEntry) → chosen_behind choice before (e ∷ []) ≡ cond (choice before e) (e ∷ []) []
  chosen_one before e = chosen_step before e [] (choice before e) refl ∙ ap (λ l. cond (choice before e) (e ∷ l) l) (chosen_none (before ++ e ∷ []))

  -- with one more piece
  pub chosen_push : (before es : List PieceEntry) (e : PieceEntry) → chosen_behind choice before (es ++ e ∷ []) ≡ chosen_behind choice before es ++ cond (choice (before ++ es) e) (e ∷ []) []
  chosen_push before es e = chosen_append before es (e ∷ []) ∙ ap (λ l. chosen_behind choice before es ++ l) (chosen_one (before ++ es) e)

  -- the chosen ones are among the pieces, in their order
  pub chosen_in : (before es : List PieceEntry) (i : ℕ) (e : PieceEntry) → slice_get (chosen_behind choice before es) i ≡ Some e → (k : ℕ) × (slice_get es k ≡ Some e)
  chosen_in before [] i e h = absurd (let none = sym (ap (λ l. slice_get l i) (chosen_none before)) ∙ h in cc)
  chosen_in before (d ∷ es) i e h = by (choice before d) refl (λ j there. let r = chosen_in (before ++ d ∷ []) es j e there in (suc r.0, r.1)) i h
    where
      by : (t : Bool) → choice before d ≡ t → ((j : ℕ) → slice_get (chosen_behind choice (before ++ d ∷ []) es) j ≡ Some e → (k : ℕ) × (slice_get (d ∷ es) k ≡ Some e))
          → (j : ℕ) → slice_get (chosen_behind choice before (d ∷ es)) j ≡ Some e → (k : ℕ) × (slice_get (d ∷ es) k ≡ Some e)
      by false t more j there = more j (ap (λ l. slice_get l j) (sym (chosen_step before d es false t)) ∙ there)
      by true t more zero there = (0, ap (λ l. slice_get l 0) (sym (chosen_step before d es true t)) ∙ there)
      by true t more (suc j) there = more j (ap (λ l. slice_get l (suc j)) (sym (chosen_step before d es true t)) ∙ there)

  -- a piece that is chosen by those in front of it
  pub record IsChosen (before es : List PieceEntry) (e : PieceEntry) : Type 0 where
    pub front : List PieceEntry
    pub back : List PieceEntry
    pub parts : es ≡ front ++ e ∷ back
    pub chosen : choice (before ++ front) e ≡ true

  pub chosen_at : (before es : List PieceEntry) (i : ℕ) (e : PieceEntry) → slice_get (chosen_behind choice before es) i ≡ Some e → IsChosen before es e
  chosen_at before [] i e h = absurd (let none = sym (ap (λ l. slice_get l i) (chosen_none before)) ∙ h in cc)
  chosen_at before (d ∷ es) i e h = by (choice before d) refl (λ j there. later (chosen_at (before ++ d ∷ []) es j e there)) i h
    where
      later : IsChosen (before ++ d ∷ []) es e → IsChosen before (d ∷ es) e
      later r = record {
        front = d ∷ r.front;
        back = r.back;
        parts = ap (λ l. d ∷ l) r.parts;
        chosen = ap (λ l. choice l e) (sym (append_assoc before (d ∷ []) r.front)) ∙ r.chosen;
      }

      first : choice before d ≡ true → d ≡ e → IsChosen before (d ∷ es) e
      first t same = record {
        front = [];
        back = es;
        parts = ap (λ x. x ∷ es) same;
        chosen = ap (λ l. choice l e) (append-nil before) ∙ ap (λ x. choice before x) (sym same) ∙ t;
      }

      by : (t : Bool) → choice before d ≡ t → ((j : ℕ) → slice_get (chosen_behind choice (before ++ d ∷ []) es) j ≡ Some e → IsChosen before (d ∷ es) e)
          → (j : ℕ) → slice_get (chosen_behind choice before (d ∷ es)) j ≡ Some e → IsChosen before (d ∷ es) e
      by false t more j there = more j (ap (λ l. slice_get l j) (sym (chosen_step before d es false t)) ∙ there)
      by true t more zero there =
          let head : Some d ≡ Some e = ap (λ l. slice_get l 0) (sym (chosen_step before d es true t)) ∙ there in
          let same : d ≡ e = cc in
          first t same
      by true t more (suc j) there = more j (ap (λ l. slice_get l (suc j)) (sym (chosen_step before d es true t)) ∙ there)

  pub record ArePair (es : List PieceEntry) (d e : PieceEntry) : Type 0 where
    pub first : ℕ
    pub second : ℕ
    pub order : first < second
    pub at_first : slice_get es first ≡ Some d
    pub at_second : slice_get es second ≡ Some e

  chosen_pair : (before es : List PieceEntry) (i j : ℕ) (d e : PieceEntry) → i < j → slice_get (chosen_behind choice before es) i ≡ Some d → slice_get (chosen_behind choice before es) j ≡ Some e
      → ArePair es d e
  chosen_pair before [] i j d e below d_at e_at = absurd (let none = sym (ap (λ l. slice_get l i) (chosen_none before)) ∙ d_at in cc)
  chosen_pair before (x ∷ es) i j d e below d_at e_at =
      by (choice before x) refl (λ k l less a b. later (chosen_pair (before ++ x ∷ []) es k l d e less a b)) i j below d_at e_at
    where
      later : ArePair es d e → ArePair (x ∷ es) d e
      later p = record { first = suc p.first; second = suc p.second; order = let o = p.order in omega (arith, o); at_first = p.at_first; at_second = p.at_second }

      by : (t : Bool) → choice before x ≡ t
          → ((k l : ℕ) → k < l → slice_get (chosen_behind choice (before ++ x ∷ []) es) k ≡ Some d → slice_get (chosen_behind choice (before ++ x ∷ []) es) l ≡ Some e → ArePair (x ∷ es) d e)
          → (k l : ℕ) → k < l → slice_get (chosen_behind choice before (x ∷ es)) k ≡ Some d → slice_get (chosen_behind choice before (x ∷ es)) l ≡ Some e → ArePair (x ∷ es) d e
      by false t more k l less a b =
          more k l less (ap (λ q. slice_get q k) (sym (chosen_step before x es false t)) ∙ a) (ap (λ q. slice_get q l) (sym (chosen_step before x es false t)) ∙ b)
      by true t more k zero less a b = absurd (omega (arith, less))
      by true t more zero (suc l) less a b =
          let r = chosen_in (before ++ x ∷ []) es l e (ap (λ q. slice_get q (suc l)) (sym (chosen_step before x es true t)) ∙ b) in
          record { first = 0; second = suc r.0; order = omega arith; at_first = ap (λ q. slice_get q 0) (sym (chosen_step before x es true t)) ∙ a; at_second = r.1 }
      by true t more (suc k) (suc l) less a b =
          more k l (omega (arith, less)) (ap (λ q. slice_get q (suc k)) (sym (chosen_step before x es true t)) ∙ a) (ap (λ q. slice_get q (suc l)) (sym (chosen_step before x es true t)) ∙ b)

  pub chosen_rise : (es : List PieceEntry) → StartsRise es → StartsRise (chosen_behind choice [] es)
  chosen_rise es h i j d e below d_at e_at = let p = chosen_pair [] es i j d e below d_at e_at in h p.first p.second d e p.order p.at_first p.at_second

-- ---- the first twelve, and those past them

-- a piece is kept or stands apart
pub either : (before es : List PieceEntry) (k : ℕ) (e : PieceEntry) → slice_get es k ≡ Some e
    → ((i : ℕ) × (slice_get (chosen_behind has_room before es) i ≡ Some e)) ⊎ ((i : ℕ) × (slice_get (chosen_behind has_no_room before es) i ≡ Some e))
either before [] k e h = absurd (cc)
either before (d ∷ es) k e h = by (has_room before d) refl (λ j there. either (before ++ d ∷ []) es j e there) k h
  where
    kept : List PieceEntry
    kept = chosen_behind has_room (before ++ d ∷ []) es

    rest : List PieceEntry
    rest = chosen_behind has_no_room (before ++ d ∷ []) es

    by : (t : Bool) → has_room before d ≡ t → ((j : ℕ) → slice_get es j ≡ Some e → ((i : ℕ) × (slice_get kept i ≡ Some e)) ⊎ ((i : ℕ) × (slice_get rest i ≡ Some e)))
        → (j : ℕ) → slice_get (d ∷ es) j ≡ Some e
        → ((i : ℕ) × (slice_get (chosen_behind has_room before (d ∷ es)) i ≡ Some e)) ⊎ ((i : ℕ) × (slice_get (chosen_behind has_no_room before (d ∷ es)) i ≡ Some e))
    by true t more zero there = inl (0, ap (λ l. slice_get l 0) (chosen_step has_room before d es true t) ∙ there)
    by true t more (suc j) there = elim (more j there) [
      | inl a ↦ inl (suc a.0, ap (λ l. slice_get l (suc a.0)) (chosen_step has_room before d es true t) ∙ a.1)
      | inr a ↦ inr (a.0, ap (λ l. slice_get l a.0) (chosen_step has_no_room before d es false (ap not t)) ∙ a.1)
    ]
    by false t more zero there = inr (0, ap (λ l. slice_get l 0) (chosen_step has_no_room before d es true (ap not t)) ∙ there)
    by false t more (suc j) there = elim (more j there) [
      | inl a ↦ inl (a.0, ap (λ l. slice_get l a.0) (chosen_step has_room before d es false t) ∙ a.1)
      | inr a ↦ inr (suc a.0, ap (λ l. slice_get l (suc a.0)) (chosen_step has_no_room before d es true (ap not t)) ∙ a.1)
    ]

all_behind : (before es : List PieceEntry) → length (chosen_behind has_room before es) + length (chosen_behind has_no_room before es) ≡ length es
all_behind before [] =
    let a = ap (λ (l : List PieceEntry). length l) (chosen_none has_room before) in
    let b = ap (λ (l : List PieceEntry). length l) (chosen_none has_no_room before) in
    omega (arith, a, b)
all_behind before (d ∷ es) = by (has_room before d) refl (all_behind (before ++ d ∷ []) es)
  where
    by : (t : Bool) → has_room before d ≡ t → length (chosen_behind has_room (before ++ d ∷ []) es) + length (chosen_behind has_no_room (before ++ d ∷ []) es) ≡ length es
        → length (chosen_behind has_room before (d ∷ es)) + length (chosen_behind has_no_room before (d ∷ es)) ≡ suc (length es)
    by true t more =
        let a = ap (λ (l : List PieceEntry). length l) (chosen_step has_room before d es true t) in
        let b = ap (λ (l : List PieceEntry). length l) (chosen_step has_no_room before d es false (ap not t)) in
        omega (arith, a, b, more)
    by false t more =
        let a = ap (λ (l : List PieceEntry). length l) (chosen_step has_room before d es false t) in
        let b = ap (λ (l : List PieceEntry). length l) (chosen_step has_no_room before d es true (ap not t)) in
        omega (arith, a, b, more)

pub all_of : (es : List PieceEntry) → length (first_twelve es) + length (past_twelfth es) ≡ length es
all_of es = all_behind [] es

-- ---- how many of a block are kept

block_step : (b : ℕ) (d : PieceEntry) (es : List PieceEntry) (u : Bool) → eqb (d.start / 256) b ≡ u → in_block b (d ∷ es) ≡ cond u (d ∷ in_block b es) (in_block b es)
block_step b d es u h = ap (λ c. cond c (d ∷ in_block b es) (in_block b es)) h

block_push : (b : ℕ) (d : PieceEntry) (es : List PieceEntry) (u : Bool) → eqb (d.start / 256) b ≡ u → length (in_block b (es ++ d ∷ [])) ≡ length (in_block b es) + cond u 1 0
block_push b d es u h =
    ap (λ (l : List PieceEntry). length l) (filter-append (λ (e : PieceEntry). eqb (e.start / 256) b) es (d ∷ []))
    ∙ length-append (in_block b es) (in_block b (d ∷ [])) ∙ ap (λ c. length (in_block b es) + length (cond c (d ∷ []) [])) h ∙ by u
  where
    by : (v : Bool) → length (in_block b es) + length (cond v (d ∷ []) []) ≡ length (in_block b es) + cond v 1 0
    by true = refl
    by false = refl

-- what is kept of a block, with what stands before, is all that stands there up to twelve
kept_behind : (b : ℕ) (before es : List PieceEntry)
    → length (in_block b (chosen_behind has_room before es)) + min 12 (length (in_block b before)) ≡ min 12 (length (in_block b before) + length (in_block b es))
kept_behind b before [] =
    let a = ap (λ l. length (in_block b l)) (chosen_none has_room before) in
    omega (arith, a)
kept_behind b before (d ∷ es) = by (has_room before d) refl (eqb (d.start / 256) b) refl (kept_behind b (before ++ d ∷ []) es)
  where
    kept : List PieceEntry
    kept = chosen_behind has_room (before ++ d ∷ []) es

    by : (t : Bool) → has_room before d ≡ t → (u : Bool) → eqb (d.start / 256) b ≡ u
        → length (in_block b kept) + min 12 (length (in_block b (before ++ d ∷ []))) ≡ min 12 (length (in_block b (before ++ d ∷ [])) + length (in_block b es))
        → length (in_block b (chosen_behind has_room before (d ∷ es))) + min 12 (length (in_block b before)) ≡ min 12 (length (in_block b before) + length (in_block b (d ∷ es)))
    by t h true g more =
        let more_before = block_push b d before true g in
        let more_here = ap (λ (l : List PieceEntry). length l) (block_step b d es true g) in
        room t h (ap (λ l. length (in_block b l)) (chosen_step has_room before d es t h)) more_before more_here
      where
        same : d.start / 256 ≡ b
        same = eqb-true _ _ g

        room : (v : Bool) → has_room before d ≡ v → length (in_block b (chosen_behind has_room before (d ∷ es))) ≡ length (in_block b (cond v (d ∷ kept) kept))
            → length (in_block b (before ++ d ∷ [])) ≡ length (in_block b before) + 1 → length (in_block b (d ∷ es)) ≡ suc (length (in_block b es))
            → length (in_block b (chosen_behind has_room before (d ∷ es))) + min 12 (length (in_block b before)) ≡ min 12 (length (in_block b before) + length (in_block b (d ∷ es)))
        room true v is m n =
            let few : length (in_block (d.start / 256) before) < 12 = ltb-true _ _ v in
            let few_b : length (in_block b before) < 12 = subst (λ k. length (in_block k before) < 12) same few in
            let k : length (in_block b (d ∷ kept)) ≡ suc (length (in_block b kept)) = ap (λ (l : List PieceEntry). length l) (block_step b d kept true g) in
            omega (arith, few_b, k, is, m, n, more)
        room false v is m n =
            let many : 12 ≤ length (in_block (d.start / 256) before) = ltb-false _ _ v in
            let many_b : 12 ≤ length (in_block b before) = subst (λ k. 12 ≤ length (in_block k before)) same many in
            omega (arith, many_b, is, m, n, more)
    by t h false g more =
        let m = block_push b d before false g in
        let n = ap (λ (l : List PieceEntry). length l) (block_step b d es false g) in
        let is = ap (λ l. length (in_block b l)) (chosen_step has_room before d es t h) ∙ away t in
        omega (arith, is, m, n, more)
      where
        away : (v : Bool) → length (in_block b (cond v (d ∷ kept) kept)) ≡ length (in_block b kept)
        away true = ap (λ (l : List PieceEntry). length l) (block_step b d kept false g)
        away false = refl

pub kept_count : (b : ℕ) (es : List PieceEntry) → length (in_block b (first_twelve es)) ≡ min 12 (length (in_block b es))
kept_count b es = let k = kept_behind b [] es in let none : length (in_block b []) ≡ 0 = refl in omega (arith, k, none)

pub few_kept : (b : ℕ) (es : List PieceEntry) → length (in_block b (first_twelve es)) ≤ 12
few_kept b es = let k = kept_count b es in omega (arith, k)
