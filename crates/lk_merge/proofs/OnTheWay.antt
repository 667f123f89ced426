-- Buckets of the matrix on their way.
use Rattle.std.proofs.Common.{◌≡◌, ℕ, zero, suc, ◌+◌, ◌<◌, ◌||◌, Bool, true, false, List, [], ◌∷◌, ◌++◌, length, map, take, drop, get_or, eqb, is_some, ◌%◌, Option, None, Some, refl, sym, ap, ◌∙◌, subst, arith, append-nil, append_assoc}
use Rattle.std.specs.List.{flat_map, slice_get}
use Rattle.std.specs.Option.{option_to_list}
use Rattle.std.specs.Str.{bytes_eq}
use Rattle.std.proofs.lemmas.Grind.{flat_map-append}
use Rattle.std.proofs.lemmas.List.{map-append, map_more, take-append-drop, take_all}
use Rattle.std.proofs.lemmas.List.Elements.{filter-append}
use Rattle.lk_merge.specs.declared.error.MergeError.{MergeError}
use Rattle.lk_merge.specs.declared.merging.BucketState.{BucketState}
use Rattle.lk_merge.specs.declared.string.MergeString.{MergeString}
use Rattle.lk_merge.specs.Buckets.{Bucket, bucket_place, empty_bucket, piece_of}
use Rattle.lk_merge.specs.Groups.{group_pieces}
use Rattle.lk_merge.specs.Hash.{fnv64}
use Rattle.lk_merge.specs.Image.{firsts_behind, in_bucket, is_among, place_in}
use Rattle.lk_merge.specs.MatrixCells.{BucketValue, HasPlaces, IsOnItsWay, pieces_of_strings, taken_after}
use Rattle.lk_merge.specs.MatrixWork.{MatrixWork, cell_pieces, front, kept_of, places_of}
use Rattle.lk_merge.specs.Matrix.{pieces_of_group}
use Rattle.lk_merge.specs.Merging.{bucket_refusal}
use Rattle.lk_merge.specs.MergingTables.{HasTaken}
use Rattle.lk_merge.specs.Pieces.{Piece}
use Rattle.lk_merge.proofs.AmongLemmas.{among-firsts, equal_piece, firsts-append, place-append_in}
use Rattle.lk_merge.proofs.Beginning.{empty_state, took_none}
use Rattle.lk_merge.proofs.Growing.{Becomes}
use Rattle.lk_merge.proofs.Matrix.{front as cut_front, front_more}
use Rattle.lk_merge.proofs.Taking.{stopped}
use Rattle.lk_merge.proofs.TooLong.{stays_refused}

-- ---- an empty bucket

-- the state of a bucket that has just been made
new_state : (w : MatrixWork) (section number limit : ℕ) (bucket : Bucket) → section ≡ w.section → limit ≡ w.limit → bucket ≡ empty_bucket section number limit
    → ◌≡◌ {A = BucketState} (empty_state w.section w.limit number) (record { bucket = bucket; refusal = None })
new_state w section number limit bucket s l is =
    (λ i. record { bucket = empty_bucket (sym s i) number (sym l i); refusal = None }) ∙ ap (λ (k : Bucket). record { bucket = k; refusal = None }) (sym is)

pub empty_right : (w : MatrixWork) (section number limit : ℕ) (bucket : Bucket) (places : List ℕ) → number < 16 → section ≡ w.section → limit ≡ w.limit
    → bucket ≡ empty_bucket section number limit → places ≡ []
    → IsOnItsWay w (record { number = number; taken = 0; state = record { bucket = bucket; refusal = None }; places = places })
empty_right w section number limit bucket places small s l is none = record {
  numbered = small;
  few = omega arith;
  going = λ _. (subst (HasTaken w.section w.limit number (firsts_behind [] [])) (new_state w section number limit bucket s l is) (took_none w.section w.limit number), λ _. none);
  stopped = λ e some. absurd (cc);
}

-- ---- one piece more

among_at : (ps : List Piece) (k : ℕ) (p : Piece) → slice_get ps k ≡ Some p → is_among ps p ≡ true
among_at [] k p h = absurd (cc)
among_at (q ∷ ps) zero p h = let same : q ≡ p = cc in ap (λ b. b || is_among ps p) (equal_piece p q (sym same))
among_at (q ∷ ps) (suc k) p h = ap (λ b. bytes_eq p q || b) (among_at ps k p h) ∙ or_true (bytes_eq p q)
  where
    or_true : (b : Bool) → (b || true) ≡ true
    or_true true = refl
    or_true false = refl

place_more : (b : ℕ) (all more : List Piece) (q : Piece) → is_among all q ≡ true
    → bucket_place b (place_in (firsts_behind [] all) q) ≡ bucket_place b (place_in (firsts_behind [] (all ++ more)) q)
place_more b all more q h =
    ap (bucket_place b) (sym (place-append_in (firsts_behind [] all) (firsts_behind all more) q (among-firsts all q ∙ h)))
    ∙ ap (λ l. bucket_place b (place_in l q)) (sym (firsts-append [] all more))

places_stay : (b : ℕ) (all more ps : List Piece) → ((k : ℕ) (p : Piece) → slice_get ps k ≡ Some p → is_among all p ≡ true)
    → map (λ p. bucket_place b (place_in (firsts_behind [] all) p)) ps ≡ map (λ p. bucket_place b (place_in (firsts_behind [] (all ++ more)) p)) ps
places_stay b all more [] h = refl
places_stay b all more (p ∷ ps) h = λ i. place_more b all more p (h 0 p refl) i ∷ places_stay b all more ps (λ k q e. h (suc k) q e) i

pub places_push : (b : ℕ) (ps : List Piece) (p : Piece) → places_of b (ps ++ p ∷ []) ≡ places_of b ps ++ bucket_place b (place_in (firsts_behind [] (ps ++ p ∷ [])) p) ∷ []
places_push b ps p =
    map-append (λ q. bucket_place b (place_in (firsts_behind [] (ps ++ p ∷ [])) q)) ps (p ∷ [])
    ∙ ap (λ l. l ++ bucket_place b (place_in (firsts_behind [] (ps ++ p ∷ [])) p) ∷ []) (sym (places_stay b ps (p ∷ []) ps (among_at ps)))

-- one that hasn't stopped with a piece hadn't before
went : (section limit b : ℕ) (ps : List Piece) (p : Piece) (old new : BucketState) → HasTaken section limit b (firsts_behind [] ps) old
    → HasTaken section limit b (firsts_behind [] (ps ++ p ∷ [])) new → new.refusal ≡ None → old.refusal ≡ None
went section limit b ps p old new h g none = by (bucket_refusal section limit b (firsts_behind [] ps)) refl
  where
    by : (o : Option MergeError) → bucket_refusal section limit b (firsts_behind [] ps) ≡ o → old.refusal ≡ None
    by None e = h.refusal ∙ e
    by (Some error) e = absurd (let both : Some error ≡ None = sym (stays_refused section limit b ps p error e) ∙ sym g.refusal ∙ none in cc)

pub more_places : (section limit b : ℕ) (ps : List Piece) (p : Piece) (old new : BucketState) (place : Option ℕ) (before after : List ℕ)
    → HasPlaces section limit b ps old before → Becomes old p new place → after ≡ before ++ option_to_list place
    → HasPlaces section limit b (ps ++ p ∷ []) new after
more_places section limit b ps p old new place before after h become e =
    let made = become section limit b ps h.0 in (
      made.0,
      λ none. e ∙ ap (λ l. l ++ option_to_list place) (h.1 (went section limit b ps p old new h.0 made.0 none)) ∙ ap (λ o. places_of b ps ++ option_to_list o) (made.1 none)
          ∙ sym (places_push b ps p),
    )

-- the same with the strings of a list
pub next_places : (section limit b : ℕ) (ps : List Piece) (ss : List MergeString) (k : ℕ) (s : MergeString) (old new : BucketState) (place : Option ℕ) (before after : List ℕ)
    → k < length ss → s ≡ get_or ss k s → HasPlaces section limit b (ps ++ pieces_of_strings (take k ss)) old before → Becomes old s.bytes.now new place
    → after ≡ before ++ option_to_list place → HasPlaces section limit b (ps ++ pieces_of_strings (take (k + 1) ss)) new after
next_places section limit b ps ss k s old new place before after within is h become e =
    let more : pieces_of_strings (take (k + 1) ss) ≡ pieces_of_strings (take k ss) ++ s.bytes.now ∷ []
    = map_more piece_of ss k s within ∙ ap (λ (x : MergeString). pieces_of_strings (take k ss) ++ x.bytes.now ∷ []) (sym is) in
    subst (λ l. HasPlaces section limit b l new after) (append_assoc ps (pieces_of_strings (take k ss)) (s.bytes.now ∷ []) ∙ ap (λ l. ps ++ l) (sym more))
    (more_places section limit b (ps ++ pieces_of_strings (take k ss)) s.bytes.now old new place before after h become e)

-- ---- one group more

pub front_next : (w : MatrixWork) (b n : ℕ) → n < length w.groups → in_bucket fnv64 b (front w n) ++ cell_pieces w n b ≡ in_bucket fnv64 b (front w (n + 1))
unfolding cut_front
front_next w b n there = sym (ap (in_bucket fnv64 b) (front_more fnv64 w.inputs w.groups n there) ∙ filter-append (λ p. eqb (fnv64 p % 16) b) (front w n) (pieces_of_group w.inputs w.groups n))

pub next_right : (w : MatrixWork) (v : BucketValue) (n : ℕ) (new : BucketState) (places : List ℕ) (more : List Piece) → IsOnItsWay w v → v.state.refusal ≡ None
    → v.taken < length w.groups → more ≡ cell_pieces w v.taken v.number → n ≡ taken_after v.taken new.refusal
    → ((section limit b : ℕ) (ps : List Piece) → HasPlaces section limit b ps v.state v.places → HasPlaces section limit b (ps ++ more) new places)
    → IsOnItsWay w (record { number = v.number; taken = n; state = new; places = places })
next_right w v n new places more h going left are count made = by new.refusal refl
  where
    old : HasPlaces w.section w.limit v.number (in_bucket fnv64 v.number (front w v.taken)) v.state v.places
    old = h.going going

    now : HasPlaces w.section w.limit v.number (in_bucket fnv64 v.number (front w (v.taken + 1))) new places
    now = subst (λ ps. HasPlaces w.section w.limit v.number ps new places)
        (ap (λ l. in_bucket fnv64 v.number (front w v.taken) ++ l) are ∙ front_next w v.number v.taken left)
        (made w.section w.limit v.number (in_bucket fnv64 v.number (front w v.taken)) old)

    by : (o : Option MergeError) → new.refusal ≡ o → IsOnItsWay w (record { number = v.number; taken = n; state = new; places = places })
    by None e =
        let taken : n ≡ v.taken + 1 = count ∙ ap (taken_after v.taken) e in
        record {
          numbered = h.numbered;
          few = omega (arith, taken, left);
          going = λ _. subst (λ m. HasPlaces w.section w.limit v.number (in_bucket fnv64 v.number (front w m)) new places) (sym taken) now;
          stopped = λ error some. absurd (let both : None ≡ Some error = sym e ∙ some in cc);
        }
    by (Some error) e =
        let taken : n ≡ v.taken = count ∙ ap (taken_after v.taken) e in
        record {
          numbered = h.numbered;
          few = omega (arith, taken, left);
          going = λ none. absurd (let both : Some error ≡ None = sym e ∙ none in cc);
          stopped = λ _ _. (
            omega (arith, taken, left),
            ap (λ m. bucket_refusal w.section w.limit v.number (kept_of w v.number m)) taken ∙ sym old.0.refusal ∙ going,
            subst (λ m. HasTaken w.section w.limit v.number (kept_of w v.number (m + 1)) new) (sym taken) now.0,
          );
        }

-- ---- the last group

-- one that has stopped stays as it is, whatever pieces come behind
stopped_more : (section limit b : ℕ) (ps more : List Piece) (state : BucketState) (e : MergeError) → HasTaken section limit b (firsts_behind [] ps) state → state.refusal ≡ Some e
    → HasTaken section limit b (firsts_behind [] (ps ++ more)) state
stopped_more section limit b ps [] state e h stop = subst (λ l. HasTaken section limit b (firsts_behind [] l) state) (sym (append-nil ps)) h
stopped_more section limit b ps (p ∷ more) state e h stop =
    subst (λ l. HasTaken section limit b (firsts_behind [] l) state) (append_assoc ps (p ∷ []) more)
    (stopped_more section limit b (ps ++ p ∷ []) more state e (stopped section limit b ps p state h (sym (ap is_some stop))).0 stop)

front_all : (w : MatrixWork) (b n : ℕ) → (more : List Piece) × (in_bucket fnv64 b (front w (length w.groups)) ≡ in_bucket fnv64 b (front w n) ++ more)
front_all w b n =
    let rest : List Piece = flat_map (group_pieces w.inputs) (drop n w.groups) in (
      in_bucket fnv64 b rest,
      ap (λ gs. in_bucket fnv64 b (flat_map (group_pieces w.inputs) gs)) (take_all (length w.groups) w.groups (omega arith) ∙ sym (take-append-drop n w.groups))
          ∙ ap (in_bucket fnv64 b) (flat_map-append (group_pieces w.inputs) (take n w.groups) (drop n w.groups)) ∙ filter-append (λ p. eqb (fnv64 p % 16) b) (front w n) rest,
    )

pub ended_right : (w : MatrixWork) (v : BucketValue) → IsOnItsWay w v → (v.state.refusal ≡ None → v.taken ≡ length w.groups)
    → HasPlaces w.section w.limit v.number (in_bucket fnv64 v.number (front w (length w.groups))) v.state v.places
ended_right w v h ended = by v.state.refusal refl
  where
    by : (o : Option MergeError) → v.state.refusal ≡ o → HasPlaces w.section w.limit v.number (in_bucket fnv64 v.number (front w (length w.groups))) v.state v.places
    by None e = subst (λ n. HasPlaces w.section w.limit v.number (in_bucket fnv64 v.number (front w n)) v.state v.places) (ended e) (h.going e)
    by (Some error) e =
        let more = front_all w v.number (v.taken + 1) in (
          subst (λ ps. HasTaken w.section w.limit v.number (firsts_behind [] ps) v.state) (sym more.1)
              (stopped_more w.section w.limit v.number (in_bucket fnv64 v.number (front w (v.taken + 1))) more.0 v.state error (h.stopped error e).2 e),
          λ none. absurd (let both : Some error ≡ None = sym e ∙ none in cc),
        )
