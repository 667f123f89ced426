-- The image holds each piece once.
use Rattle.std.proofs.Common.{◌≡◌, ◌≢◌, ℕ, zero, suc, ◌+◌, ◌%◌, ◌<◌, ◌≤◌, Bool, true, false, ◌||◌, eqb, List, [], ◌∷◌, ◌++◌, length, take, Some, sum_by, refl, sym, ap, ◌∙◌, subst, arith, inl, inr, length-append}
use Rattle.std.specs.List.{concat, flat_map, range_with_len, slice_get}
use Rattle.std.specs.Str.{bytes_eq}
use Rattle.std.proofs.lemmas.Bool.{eqb-true, eqb-false, true≢false}
use Rattle.std.proofs.lemmas.List.Sums.{sum_by-cons}
use Rattle.lk_link.proofs.Elements.{append_at}
use Rattle.lk_merge.specs.Image.{all_buckets, bucket_list, firsts_behind, image_pieces, in_bucket, is_among, place_in}
use Rattle.lk_merge.specs.Pieces.{Piece}
use Rattle.lk_merge.specs.Places.{ImageIsDistinct}
use Rattle.lk_merge.proofs.AmongLemmas.{among-append, among-firsts, equal_piece, firsts_step, place_step, same_piece}
use Rattle.lk_merge.proofs.Growing.{among-in_bucket, not_in_bucket}
use Rattle.lk_merge.proofs.LocatedLemmas.{slice_within}
use Rattle.lk_merge.proofs.PlaceLemmas.{in_image}

-- ---- lists without equal pieces

-- what stands in a list is among it
at_among : (ps : List Piece) (k : ℕ) (p : Piece) → slice_get ps k ≡ Some p → is_among ps p ≡ true
at_among [] k p there = absurd (cc)
at_among (q ∷ ps) zero p there = let same : q ≡ p = cc in ap (λ b. b || is_among ps p) (equal_piece p q (sym same))
at_among (q ∷ ps) (suc k) p there = or_right (bytes_eq p q) (is_among ps p) (at_among ps k p there)
  where
    or_right : (a b : Bool) → b ≡ true → (a || b) ≡ true
    or_right true b h = refl
    or_right false b h = h

-- no two are equal
abbrev Distinct : List Piece → Type 0
Distinct ps = (j k : ℕ) (p q : Piece) → j < k → slice_get ps j ≡ Some p → slice_get ps k ≡ Some q → p ≢ q

distinct_cons : (p : Piece) (ps : List Piece) → is_among ps p ≡ false → Distinct ps → Distinct (p ∷ ps)
distinct_cons p ps none h j zero a b below a_at b_at = absurd (omega (arith, below))
distinct_cons p ps none h zero (suc k) a b below a_at b_at = λ same.
    let first : p ≡ a = cc in
    true≢false (sym (at_among ps k b b_at) ∙ ap (is_among ps) (sym (first ∙ same)) ∙ none)
distinct_cons p ps none h (suc j) (suc k) a b below a_at b_at = h j k a b (omega (arith, below)) a_at b_at

distinct_append : (xs ys : List Piece) → Distinct xs → Distinct ys → ((p : Piece) → is_among xs p ≡ true → is_among ys p ≡ false) → Distinct (xs ++ ys)
distinct_append xs ys left right apart j k p q below p_at q_at =
    elim (append_at xs ys j p p_at) [
      | inl a ↦ elim (append_at xs ys k q q_at) [
        | inl b ↦ left j k p q below a b
        | inr b ↦ λ same. true≢false (sym (at_among ys b.0 q b.2) ∙ ap (is_among ys) (sym same) ∙ apart p (at_among xs j p a))
      ]
      | inr a ↦ elim (append_at xs ys k q q_at) [
        | inl b ↦ absurd (omega (arith, a.1, below, slice_within xs k q b))
        | inr b ↦ right a.0 b.0 p q (omega (arith, a.1, b.1, below)) a.2 b.2
      ]
    ]

-- ---- what a bucket keeps

append_among : (before : List Piece) (p q : Piece) → is_among before q ≡ true → is_among (before ++ p ∷ []) q ≡ true
append_among before p q h = among-append before (p ∷ []) q ∙ ap (λ b. b || is_among (p ∷ []) q) h

not_again : (before ps : List Piece) (q : Piece) → is_among before q ≡ true → is_among (firsts_behind before ps) q ≡ false
unfolding firsts_behind
not_again before [] q h = refl
not_again before (p ∷ ps) q h = by (is_among before p) refl (bytes_eq q p) refl (not_again (before ++ p ∷ []) ps q (append_among before p q h))
  where
    by : (t : Bool) → is_among before p ≡ t → (u : Bool) → bytes_eq q p ≡ u → is_among (firsts_behind (before ++ p ∷ []) ps) q ≡ false
        → is_among (firsts_behind before (p ∷ ps)) q ≡ false
    by true e u f rest = ap (λ l. is_among l q) (firsts_step before p ps true e) ∙ rest
    by false e true f rest = absurd (true≢false (sym h ∙ ap (is_among before) (same_piece q p f) ∙ e))
    by false e false f rest = ap (λ l. is_among l q) (firsts_step before p ps false e) ∙ ap (λ b. b || is_among (firsts_behind (before ++ p ∷ []) ps) q) f ∙ rest

last_among : (before : List Piece) (p : Piece) → is_among (before ++ p ∷ []) p ≡ true
last_among before p = among-append before (p ∷ []) p ∙ ap (λ b. is_among before p || (b || false)) (equal_piece p p refl) ∙ or_true (is_among before p)
  where
    or_true : (a : Bool) → (a || true) ≡ true
    or_true true = refl
    or_true false = refl

distinct_firsts : (before ps : List Piece) → Distinct (firsts_behind before ps)
unfolding firsts_behind
distinct_firsts before [] = λ j k p q below p_at q_at. absurd (cc)
distinct_firsts before (p ∷ ps) = by (is_among before p) refl (distinct_firsts (before ++ p ∷ []) ps)
  where
    by : (t : Bool) → is_among before p ≡ t → Distinct (firsts_behind (before ++ p ∷ []) ps) → Distinct (firsts_behind before (p ∷ ps))
    by true e rest = subst Distinct (sym (firsts_step before p ps true e)) rest
    by false e rest =
        subst Distinct (sym (firsts_step before p ps false e))
        (distinct_cons p (firsts_behind (before ++ p ∷ []) ps) (not_again (before ++ p ∷ []) ps p (last_among before p)) rest)

-- ---- all buckets

-- what a bucket keeps is among the pieces, and has the bucket's hash
in_its_bucket : (hash : Piece → ℕ) (pieces : List Piece) (b : ℕ) (p : Piece) → is_among (bucket_list hash pieces b) p ≡ true → (hash p % 16 ≡ b) × (is_among pieces p ≡ true)
in_its_bucket hash pieces b p h = by (eqb (hash p % 16) b) refl
  where
    among : is_among (in_bucket hash b pieces) p ≡ true
    among = sym (among-firsts (in_bucket hash b pieces) p) ∙ h

    by : (t : Bool) → eqb (hash p % 16) b ≡ t → (hash p % 16 ≡ b) × (is_among pieces p ≡ true)
    by true e =
        let same : hash p % 16 ≡ b = eqb-true (hash p % 16) b e in
        (same, sym (among-in_bucket hash pieces p) ∙ ap (λ c. is_among (in_bucket hash c pieces) p) same ∙ among)
    by false e = absurd (true≢false (sym among ∙ not_in_bucket hash b pieces p (eqb-false (hash p % 16) b e)))

module _ (hash : Piece → ℕ) (pieces : List Piece) where
  abbrev kept : ℕ → ℕ → List Piece
  kept a n = flat_map (bucket_list hash pieces) (range_with_len a n)

  kept_in : (a n : ℕ) (p : Piece) → is_among (kept a n) p ≡ true → (a ≤ hash p % 16) × (is_among pieces p ≡ true)
  kept_in a zero p h = absurd (true≢false (sym h))
  kept_in a (suc n) p h = by (is_among (bucket_list hash pieces a) p) refl (kept_in (a + 1) n p)
    where
      both : is_among (kept a (suc n)) p ≡ (is_among (bucket_list hash pieces a) p || is_among (kept (a + 1) n) p)
      both = among-append (bucket_list hash pieces a) (kept (a + 1) n) p

      by : (t : Bool) → is_among (bucket_list hash pieces a) p ≡ t → (is_among (kept (a + 1) n) p ≡ true → (a + 1 ≤ hash p % 16) × (is_among pieces p ≡ true))
          → (a ≤ hash p % 16) × (is_among pieces p ≡ true)
      by true e rest = let here = in_its_bucket hash pieces a p e in let same = here.0 in (omega (arith, same), here.1)
      by false e rest =
          let later = rest (sym (ap (λ b. b || is_among (kept (a + 1) n) p) e) ∙ sym both ∙ h) in
          let from = later.0 in
          (omega (arith, from), later.1)

  kept_apart : (a n : ℕ) (p : Piece) → is_among (bucket_list hash pieces a) p ≡ true → is_among (kept (a + 1) n) p ≡ false
  kept_apart a n p h = by (is_among (kept (a + 1) n) p) refl
    where
      by : (t : Bool) → is_among (kept (a + 1) n) p ≡ t → is_among (kept (a + 1) n) p ≡ false
      by true e =
          let here = (in_its_bucket hash pieces a p h).0 in
          let later = (kept_in (a + 1) n p e).0 in
          absurd (omega (arith, here, later))
      by false e = e

  kept_distinct : (a n : ℕ) → Distinct (kept a n)
  kept_distinct a zero = λ j k p q below p_at q_at. absurd (cc)
  kept_distinct a (suc n) =
      distinct_append (bucket_list hash pieces a) (kept (a + 1) n) (distinct_firsts [] (in_bucket hash a pieces)) (kept_distinct (a + 1) n) (kept_apart a n)

  image_each : (p : Piece) → is_among (image_pieces hash pieces) p ≡ is_among pieces p
  unfolding all_buckets
  image_each p = by (is_among (image_pieces hash pieces) p) refl (is_among pieces p) refl
    where
      by : (t : Bool) → is_among (image_pieces hash pieces) p ≡ t → (u : Bool) → is_among pieces p ≡ u → is_among (image_pieces hash pieces) p ≡ is_among pieces p
      by true e u f = e ∙ sym (kept_in 0 16 p e).1
      by false e true f = absurd (true≢false (sym (in_image hash pieces p f) ∙ e))
      by false e false f = e ∙ sym f

  image_once : Distinct (image_pieces hash pieces)
  unfolding all_buckets
  image_once = kept_distinct 0 16

-- ---- lengths and places

concat_length : (ps : List Piece) → length (concat ps) ≡ sum_by length ps
concat_length [] = refl
concat_length (p ∷ ps) =
    let both : length (p ++ concat ps) ≡ length p + length (concat ps) = length-append p (concat ps) in
    let more = sum_by-cons length p ps in
    omega (arith, both, more, concat_length ps)

place_at_index : (ps : List Piece) (k : ℕ) (p : Piece) → Distinct ps → slice_get ps k ≡ Some p → place_in ps p ≡ length (concat (take k ps))
place_at_index [] k p h there = absurd (cc)
place_at_index (q ∷ ps) zero p h there = let same : q ≡ p = cc in place_step q ps p true (equal_piece p q (sym same))
place_at_index (q ∷ ps) (suc k) p h there =
    by (bytes_eq p q) refl (place_at_index ps k p (λ i j a b below a_at b_at. h (suc i) (suc j) a b (omega (arith, below)) a_at b_at) there)
  where
    by : (t : Bool) → bytes_eq p q ≡ t → place_in ps p ≡ length (concat (take k ps)) → place_in (q ∷ ps) p ≡ length (concat (take (suc k) (q ∷ ps)))
    by true e rest = absurd (h 0 (suc k) q p (omega arith) refl there (sym (same_piece p q e)))
    by false e rest =
        let both : length (q ++ concat (take k ps)) ≡ length q + length (concat (take k ps)) = length-append q (concat (take k ps)) in
        place_step q ps p false e ∙ omega (arith, rest, both)

pub image_is_distinct : ImageIsDistinct
image_is_distinct = record {
  each = image_each;
  once = image_once;
  len = λ hash pieces. concat_length (image_pieces hash pieces);
  places = λ hash pieces k p there. place_at_index (image_pieces hash pieces) k p (image_once hash pieces) there;
}
