-- What the image shows at places.
use Rattle.std.proofs.Common.{◌≡◌, ℕ, zero, suc, ◌+◌, ◌-◌, ◌%◌, ◌<◌, ◌≤◌, Bool, true, false, ◌||◌, eqb, ltb, List, [], ◌∷◌, ◌++◌, length, take, drop, None, Some, option_map, refl, sym, ap, ◌∙◌, inl, inr, arith, length-append}
use Rattle.std.specs.List.{concat, flat_map, range_with_len, slice_get}
use Rattle.std.specs.Str.{bytes_eq}
use Rattle.std.proofs.lemmas.Bool.{eqb-true, eqb-false, ltb-true, ltb-false}
use Rattle.std.proofs.lemmas.List.{take_at, drop-take, drop-drop, drop-append-le, length-drop}
use Rattle.lk_merge.specs.Image.{all_buckets, all_pieces, bucket_list, in_bucket, image, image_pieces, image_place, is_among, piece_at, place_in}
use Rattle.lk_merge.specs.Merging.{place_of}
use Rattle.lk_merge.specs.Pieces.{Piece, MergeInput, pieces_of}
use Rattle.lk_merge.specs.Places.{BucketsStart, bucket_start, PiecesHavePlaces, OffsetsHavePlaces}
use Rattle.lk_merge.proofs.AmongLemmas.{among-append, among-firsts, concat-append, place-append_in, place-append_out, bytes_at_place, dropped, equal_piece, other_piece, place_within, places_apart, same_piece}
use Rattle.lk_merge.proofs.GoodPieces.{concat_pieces, piece_at_past, piece_at_some}
use Rattle.lk_merge.proofs.Growing.{among_bucket_list, not_in_bucket}
use Rattle.lk_merge.proofs.LocatedLemmas.{piece_at_none, piece_at_step}

-- ---- the image has each piece

or_left : (a b : Bool) → a ≡ true → (a || b) ≡ true
or_left a b h = ap (λ t. t || b) h

or_right : (a b : Bool) → b ≡ true → (a || b) ≡ true
or_right true b h = refl
or_right false b h = h

among_range : (f : ℕ → List Piece) (p : Piece) (a n b : ℕ) → a ≤ b → b < a + n → is_among (f b) p ≡ true → is_among (flat_map f (range_with_len a n)) p ≡ true
among_range f p a zero b low high h = absurd (omega arith)
among_range f p a (suc n) b low high h = by (eqb a b) refl (among_range f p (a + 1) n b)
  where
    both : is_among (f a ++ flat_map f (range_with_len (a + 1) n)) p ≡ (is_among (f a) p || is_among (flat_map f (range_with_len (a + 1) n)) p)
    both = among-append (f a) (flat_map f (range_with_len (a + 1) n)) p

    by : (t : Bool) → eqb a b ≡ t → (a + 1 ≤ b → b < (a + 1) + n → is_among (f b) p ≡ true → is_among (flat_map f (range_with_len (a + 1) n)) p ≡ true)
        → is_among (flat_map f (range_with_len a (suc n))) p ≡ true
    by true e rest = both ∙ or_left _ _ (ap (λ k. is_among (f k) p) (eqb-true a b e) ∙ h)
    by false e rest = let other = eqb-false a b e in both ∙ or_right _ _ (rest (omega (arith, low, other)) (omega (arith, high)) h)

pub in_image : (hash : Piece → ℕ) (pieces : List Piece) (p : Piece) → is_among pieces p ≡ true → is_among (image_pieces hash pieces) p ≡ true
unfolding all_buckets
in_image hash pieces p h = among_range (bucket_list hash pieces) p 0 16 (hash p % 16) (omega arith) (omega arith) (among_bucket_list hash pieces p ∙ h)

-- ---- where buckets start

place_range : (f : ℕ → List Piece) (p : Piece) (a n m : ℕ) → m < n → is_among (f (a + m)) p ≡ true → ((k : ℕ) → k < a + m → is_among (f k) p ≡ false)
    → place_in (flat_map f (range_with_len a n)) p ≡ length (concat (flat_map f (range_with_len a m))) + place_in (f (a + m)) p
place_range f p a zero m below h none = absurd (omega arith)
place_range f p a (suc n) zero below h none =
    let here : a ≡ a + 0 = omega arith in
    let first = place-append_in (f a) (flat_map f (range_with_len (a + 1) n)) p (ap (λ k. is_among (f k) p) here ∙ h) in
    let same : place_in (f a) p ≡ place_in (f (a + 0)) p = ap (λ k. place_in (f k) p) here in
    omega (arith, first, same)
place_range f p a (suc n) (suc m) below h none =
    let there : a + suc m ≡ (a + 1) + m = omega arith in
    let rest = place_range f p (a + 1) n m (omega (arith, below)) (ap (λ k. is_among (f k) p) (sym there) ∙ h) (λ k low. none k (omega (arith, low))) in
    let first = place-append_out (f a) (flat_map f (range_with_len (a + 1) n)) p (none a (omega arith)) in
    let both : length (concat (f a ++ flat_map f (range_with_len (a + 1) m))) ≡ length (concat (f a)) + length (concat (flat_map f (range_with_len (a + 1) m)))
    = ap length (concat-append (f a) (flat_map f (range_with_len (a + 1) m))) ∙ length-append (concat (f a)) (concat (flat_map f (range_with_len (a + 1) m))) in
    let same : place_in (f (a + suc m)) p ≡ place_in (f ((a + 1) + m)) p = ap (λ k. place_in (f k) p) there in
    omega (arith, rest, first, both, same)

pub buckets_start : BucketsStart
unfolding all_buckets
buckets_start hash pieces p h =
    let b : ℕ = hash p % 16 in
    let here : 0 + b ≡ b = omega arith in
    let among : is_among (bucket_list hash pieces (0 + b)) p ≡ true = ap (λ k. is_among (bucket_list hash pieces k) p) here ∙ among_bucket_list hash pieces p ∙ h in
    let others : (k : ℕ) → k < 0 + b → is_among (bucket_list hash pieces k) p ≡ false
    = λ k low. among-firsts (in_bucket hash k pieces) p ∙ not_in_bucket hash k pieces p (λ same. absurd (omega (arith, same, low))) in
    place_range (bucket_list hash pieces) p 0 16 b (omega arith) among others ∙ ap (λ k. bucket_start hash pieces b + place_in (bucket_list hash pieces k) p) here

one_place : (qs : List Piece) (p q : Piece) → is_among qs p ≡ true → is_among qs q ≡ true → 0 < length p → 0 < length q → place_in qs p ≡ place_in qs q → p ≡ q
one_place qs p q h k some more same = by (bytes_eq p q) refl
  where
    by : (t : Bool) → bytes_eq p q ≡ t → p ≡ q
    by true e = same_piece p q e
    by false e = elim (places_apart qs p q h k (other_piece p q e)) [
      | inl a ↦ absurd (omega (arith, a, same, some))
      | inr b ↦ absurd (omega (arith, b, same, more))
    ]

pub pieces_have_places : PiecesHavePlaces
pieces_have_places = record {
  shown = λ hash pieces p h. bytes_at_place (image_pieces hash pieces) p (in_image hash pieces p h);
  within = λ hash pieces p h. place_within (image_pieces hash pieces) p (in_image hash pieces p h);
  apart = λ hash pieces p q h k differ. places_apart (image_pieces hash pieces) p q (in_image hash pieces p h) (in_image hash pieces q k) differ;
  one = λ hash pieces p q h k. one_place (image_pieces hash pieces) p q (in_image hash pieces p h) (in_image hash pieces q k);
}

-- ---- offsets

-- the piece of an offset holds what stands there
pub record HoldsAt (ps : List Piece) (offset : ℕ) (p : Piece) (d : ℕ) : Type 0 where
  pub among : is_among ps p ≡ true
  pub inside : d < length p
  pub bytes : take (length p - d) (drop offset (concat ps)) ≡ drop d p

some_pair : (a b : Piece × ℕ) → Some a ≡ Some b → a ≡ b
some_pair a b e = cc

pub holds_at : (ps : List Piece) (offset : ℕ) (p : Piece) (d : ℕ) → piece_at ps offset ≡ Some (p, d) → HoldsAt ps offset p d
holds_at [] offset p d h = absurd (let none : None ≡ Some (p, d) = sym (piece_at_none offset) ∙ h in cc)
holds_at (q ∷ ps) offset p d h = by (ltb offset (length q)) refl (holds_at ps (offset - length q) p d)
  where
    by : (t : Bool) → ltb offset (length q) ≡ t → (piece_at ps (offset - length q) ≡ Some (p, d) → HoldsAt ps (offset - length q) p d) → HoldsAt (q ∷ ps) offset p d
    by true e rest =
        let pair = some_pair (q, offset) (p, d) (sym (piece_at_step q ps offset true e) ∙ h) in
        let piece : q ≡ p = ap (λ (z : Piece × ℕ). z.0) pair in
        let far : offset ≡ d = ap (λ (z : Piece × ℕ). z.1) pair in
        let short : offset < length q = ltb-true _ _ e in
        let same : length q ≡ length p = ap length piece in
        let below : d < length p = omega (arith, short, far, same) in
        record {
          among = or_left _ _ (equal_piece p q (sym piece));
          inside = below;
          bytes =
              (λ i. take (length p - d) (drop (far i) (piece i ++ concat ps)))
              ∙ ap (take (length p - d)) (drop-append-le d p (concat ps) (omega (arith, below)))
              ∙ take_at (drop d p) (concat ps) (length p - d) (length-drop d p);
        }
    by false e rest =
        let long : length q ≤ offset = ltb-false _ _ e in
        let later = rest (sym (piece_at_step q ps offset false e) ∙ h) in
        let split : offset ≡ length q + (offset - length q) = omega (arith, long) in
        record {
          among = or_right _ _ later.among;
          inside = later.inside;
          bytes = ap (λ n. take (length p - d) (drop n (q ++ concat ps))) split ∙ ap (take (length p - d)) (dropped q (concat ps) (offset - length q)) ∙ later.bytes;
        }

pub among_all : (inputs : List MergeInput) (k : ℕ) (x : MergeInput) (p : Piece) → slice_get inputs k ≡ Some x → is_among (pieces_of x) p ≡ true → is_among (all_pieces inputs) p ≡ true
among_all [] k x p there h = absurd (cc)
among_all (y ∷ ys) zero x p there h =
    let same : y ≡ x = cc in
    among-append (pieces_of y) (all_pieces ys) p ∙ or_left _ _ (ap (λ (z : MergeInput). is_among (pieces_of z) p) same ∙ h)
among_all (y ∷ ys) (suc k) x p there h = among-append (pieces_of y) (all_pieces ys) p ∙ or_right _ _ (among_all ys k x p there h)

shown_at : (hash : Piece → ℕ) (pieces : List Piece) (p : Piece) (d : ℕ) → is_among pieces p ≡ true → d < length p
    → take (length p - d) (drop (image_place hash pieces p + d) (image hash pieces)) ≡ drop d p
shown_at hash pieces p d h inside =
    let all : d + (length p - d) ≡ length p = omega (arith, inside) in
    let place : ℕ = image_place hash pieces p in
    ap (take (length p - d)) (sym (drop-drop d place (image hash pieces)))
    ∙ sym (drop-take d (length p - d) (drop place (image hash pieces)))
    ∙ ap (λ n. drop d (take n (drop place (image hash pieces)))) all
    ∙ ap (drop d) (bytes_at_place (image_pieces hash pieces) p (in_image hash pieces p h))

pub offsets_have_places : OffsetsHavePlaces
offsets_have_places = record {
  inside = λ x offset h below.
      let n : length (concat (pieces_of x)) ≡ length x.bytes = ap length (concat_pieces x h) in
      let found = piece_at_some (pieces_of x) offset (omega (arith, n, below)) in
      let holds = holds_at (pieces_of x) offset found.0 found.1 found.2 in
      (found.0, found.1, found.2, holds.inside);
  outside = λ hash inputs x offset h past.
      let n : length (concat (pieces_of x)) ≡ length x.bytes = ap length (concat_pieces x h) in
      ap (option_map (λ (q : Piece × ℕ). place_of hash (all_pieces inputs) q.0 + q.1)) (piece_at_past (pieces_of x) offset (omega (arith, n, past)));
  shown = λ hash inputs k x offset p d there h at.
      let holds = holds_at (pieces_of x) offset p d at in
      shown_at hash (all_pieces inputs) p d (among_all inputs k x p there holds.among) holds.inside
      ∙ sym (ap (λ bs. take (length p - d) (drop offset bs)) (sym (concat_pieces x h)) ∙ holds.bytes);
}
