-- The buckets of a matrix that have ended, and what they have made of all pieces.
use Rattle.std.proofs.Common.{◌≡◌, ◌≢◌, ℕ, zero, suc, ◌+◌, ◌<◌, Bool, true, false, List, [], ◌∷◌, ◌++◌, length, map, None, Some, Vec, Global, ◌⊎◌, refl, sym, ap, ◌∙◌, subst, arith, inl, inr, length-append}
use Rattle.std.specs.List.{slice_get}
use Rattle.std.proofs.lemmas.List.{take_all}
use Rattle.std.proofs.lemmas.Option.{slice_get_within}
use Rattle.lk_merge.specs.declared.ending.Ended.{Ended}
use Rattle.lk_merge.specs.declared.merging.BucketState.{BucketState}
use Rattle.lk_merge.specs.declared.merging.Merging.{Merging as Merges}
use Rattle.lk_merge.specs.declared.offset.BucketOffset.{BucketOffset}
use Rattle.lk_merge.specs.Endings.{HaveTaken}
use Rattle.lk_merge.specs.Groups.{group_pieces}
use Rattle.lk_merge.specs.Hash.{fnv64}
use Rattle.lk_merge.specs.Image.{bucket_list, in_bucket}
use Rattle.lk_merge.specs.Inputs.{located}
use Rattle.lk_merge.specs.MatrixCells.{HasPlaces}
use Rattle.lk_merge.specs.MatrixWork.{IsWork, MatrixWork, front, kept_of, places_of}
use Rattle.lk_merge.specs.Merging.{bucket_refusal}
use Rattle.lk_merge.specs.MergingTables.{HasMerged, HasTaken, entry_of, pieces_in}
use Rattle.lk_merge.specs.OffsetMapTables.{HoldsIn}
use Rattle.lk_merge.proofs.Covering.{groups_cover}
use Rattle.lk_merge.proofs.InputLemmas.{pieces_located_from, push_at}
use Rattle.std.specs.List.{flat_map}

at_left : {X : Type 0} (xs ys : List X) (k : ℕ) (x : X) → slice_get xs k ≡ Some x → slice_get (xs ++ ys) k ≡ Some x
at_left [] ys k x h = absurd (cc)
at_left (y ∷ xs) ys zero x h = h
at_left (y ∷ xs) ys (suc k) x h = at_left xs ys k x h

at_end : {X : Type 0} (xs : List X) (y : X) → slice_get (xs ++ y ∷ []) (length xs) ≡ Some y
at_end [] y = refl
at_end (x ∷ xs) y = at_end xs y

pub not_both : (t : Bool) {A : Type 0} → t ≡ true → t ≡ false → A
not_both t h g = absurd (let both : true ≡ false = sym h ∙ g in cc)

-- ---- one bucket more

pub ended_added : (w : MatrixWork) (old new : Ended) (number : ℕ) (state : BucketState) (places : Vec BucketOffset Global) → HaveTaken w old → number ≡ length old.states.items
    → HasPlaces w.section w.limit number (in_bucket fnv64 number (front w (length w.groups))) state places.items
    → new.states.items ≡ old.states.items ++ state ∷ [] → new.places.items ≡ old.places.items ++ places ∷ []
    → ((new.stopped ≡ true) × (state.refusal ≢ None)) ⊎ ((new.stopped ≡ old.stopped) × (state.refusal ≡ None))
    → HaveTaken w new × (length new.states.items ≡ length old.states.items + 1)
ended_added w old new number state places h next has states stands which =
    let more : length new.states.items ≡ length old.states.items + 1 = ap length states ∙ length-append old.states.items (state ∷ []) in
    let more_places : length new.places.items ≡ length old.places.items + 1 = ap length stands ∙ length-append old.places.items (places ∷ []) in (
      record {
        count = more_places ∙ ap (λ n. n + 1) h.count ∙ sym more;
        states = λ b s there. elim (push_at old.states.items state s b (ap (λ l. slice_get l b) (sym states) ∙ there)) [
          | inl before ↦ h.states b s before
          | inr here ↦
              subst (λ (x : BucketState). HasTaken w.section w.limit b (kept_of w b (length w.groups)) x) here.1
              (subst (λ k. HasTaken w.section w.limit k (kept_of w k (length w.groups)) state) (next ∙ sym here.0) has.0)
        ];
        places = λ go b found there. elim which [
          | inl stop ↦ not_both new.stopped stop.0 go
          | inr same ↦ elim (push_at old.places.items places found b (ap (λ l. slice_get l b) (sym stands) ∙ there)) [
            | inl before ↦ h.places (sym same.0 ∙ go) b found before
            | inr here ↦
                subst (λ (x : Vec BucketOffset Global). x.items ≡ places_of b (in_bucket fnv64 b (front w (length w.groups)))) here.1
                (subst (λ k. places.items ≡ places_of k (in_bucket fnv64 k (front w (length w.groups)))) (next ∙ sym h.count ∙ sym here.0) (has.1 same.1))
          ]
        ];
        one = λ stop. elim which [
          | inl now ↦ (length old.states.items, state, ap (λ l. slice_get l (length old.states.items)) states ∙ at_end old.states.items state, now.1)
          | inr same ↦
              let before = h.one (sym same.0 ∙ stop) in
              (before.0, before.1, ap (λ l. slice_get l before.0) states ∙ at_left old.states.items (state ∷ []) before.0 before.1 before.2, before.3)
        ];
      },
      more,
    )

pub none_ended : (w : MatrixWork) (e : Ended) → length e.states.items ≡ 0 → length e.places.items ≡ 0 → e.stopped ≡ false → HaveTaken w e
none_ended w e states places go = record {
  count = places ∙ sym states;
  states = λ b s there. absurd (let within = slice_get_within e.states.items b s there in omega (arith, within, states));
  places = λ _ b found there. absurd (let within = slice_get_within e.places.items b found there in omega (arith, within, places));
  one = λ stop. not_both e.stopped stop go;
}

-- ---- all buckets

-- the groups hold all pieces
pub front_whole : (w : MatrixWork) → IsWork w → front w (length w.groups) ≡ pieces_in (located w.inputs)
front_whole w h =
    ap (flat_map (group_pieces w.inputs)) (take_all (length w.groups) w.groups (omega arith)) ∙ groups_cover.pieces w.inputs h.size w.groups h.terminated h.groups
    ∙ sym (pieces_located_from 0 0 w.inputs)

pub all_ended : (w : MatrixWork) (e : Ended) (m : Merges) → IsWork w → HaveTaken w e → length e.states.items ≡ 16 → m.buckets.items ≡ e.states.items
    → (e.stopped ≡ false → HoldsIn (map (entry_of (pieces_in (located w.inputs))) (located w.inputs)) m.entries) → HasMerged w.section w.limit (located w.inputs) m
all_ended w e m h taken count buckets entries = record {
  count = ap length buckets ∙ count;
  buckets = λ b s there. subst (λ ps. HasTaken w.section w.limit b (bucket_list fnv64 ps b) s) (front_whole w h) (taken.states b s (ap (λ l. slice_get l b) (sym buckets) ∙ there));
  entries = λ fit. by e.stopped refl fit;
}
  where
    by : (t : Bool) → e.stopped ≡ t → ((b : ℕ) → b < 16 → bucket_refusal w.section w.limit b (bucket_list fnv64 (pieces_in (located w.inputs)) b) ≡ None)
        → HoldsIn (map (entry_of (pieces_in (located w.inputs))) (located w.inputs)) m.entries
    by false go fit = entries go
    by true stop fit =
        let one = taken.one stop in
        let small : one.0 < 16 = let within = slice_get_within e.states.items one.0 one.1 one.2 in omega (arith, within, count) in
        absurd (one.3 ((taken.states one.0 one.1 one.2).refusal
        ∙ ap (λ ps. bucket_refusal w.section w.limit one.0 (bucket_list fnv64 ps one.0)) (front_whole w h) ∙ fit one.0 small))
