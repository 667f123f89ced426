-- The state of a bucket with one more piece.
use Rattle.std.proofs.Common.{◌≡◌, ℕ, Bool, true, false, cond, List, [], ◌∷◌, ◌++◌, Option, None, Some, Result, Ok, Err, is_some, refl, sym, ap, ◌∙◌, inl, inr, append_assoc}
use Rattle.std.proofs.lemmas.Bool.{true≢false}
use Rattle.lk_merge.specs.declared.error.MergeError.{MergeError}
use Rattle.lk_merge.specs.declared.error.MergeError.TheVariants.{NotTerminated, TooLarge, NoMemory}
use Rattle.lk_merge.specs.declared.merging.BucketState.{BucketState}
use Rattle.lk_merge.specs.Buckets.{Bucket, Adds, bucket_place, adding, with_piece}
use Rattle.lk_merge.specs.Image.{firsts_behind, is_among, place_in}
use Rattle.lk_merge.specs.Merging.{bucket_refusal}
use Rattle.lk_merge.specs.MergingTables.{HasTaken, StopsBefore}
use Rattle.lk_merge.specs.Pieces.{Piece}
use Rattle.lk_merge.proofs.TooLong.{one_more, stays_refused, unrefused_fits, wider_is}

-- one answer
ok_same : (r : Result ℕ MergeError) (a b : ℕ) → r ≡ Ok a → r ≡ Ok b → a ≡ b
ok_same r a b h k = cc

err_same : (r : Result ℕ MergeError) (d e : MergeError) → r ≡ Err d → r ≡ Err e → d ≡ e
err_same r d e h k = cc

ok_or_err : (r : Result ℕ MergeError) (a : ℕ) (e : MergeError) → r ≡ Ok a → r ≡ Err e → ⊥
ok_or_err r a e h k = cc

module _ (section limit b : ℕ) (pieces : List Piece) (p : Piece) (state : BucketState) (h : HasTaken section limit b (firsts_behind [] pieces) state) where
  abbrev wide : List Piece
  wide = firsts_behind [] (pieces ++ p ∷ [])

  abbrev place : ℕ
  place = bucket_place b (place_in wide p)

  -- more pieces come behind the one before which a bucket has stopped
  stopped_still : StopsBefore section limit b (firsts_behind [] pieces) state.bucket → StopsBefore section limit b wide state.bucket
  stopped_still s = by (is_among (firsts_behind [] pieces) p) refl
    where
      by : (t : Bool) → is_among (firsts_behind [] pieces) p ≡ t → StopsBefore section limit b wide state.bucket
      by t e =
          let more : List Piece = cond t [] (p ∷ []) in
          record {
            held = s.held;
            piece = s.piece;
            rest = s.rest ++ more;
            split = wider_is section limit b pieces p t e ∙ ap (λ (l : List Piece). l ++ more) s.split ∙ append_assoc s.held (s.piece ∷ s.rest) more;
            fits = s.fits;
            long = s.long;
            holds = s.holds;
          }

  -- one that has stopped stays as it is
  pub stopped : true ≡ is_some state.refusal → HasTaken section limit b wide state × (state.refusal ≡ None → None ≡ Some place)
  stopped stop = by state.refusal refl
    where
      by : (o : Option MergeError) → state.refusal ≡ o → HasTaken section limit b wide state × (state.refusal ≡ None → None ≡ Some place)
      by None e = absurd (true≢false (stop ∙ ap is_some e))
      by (Some error) e =
          let later : bucket_refusal section limit b wide ≡ Some error = stays_refused section limit b pieces p error (sym h.refusal ∙ e) in (
            record {
              refusal = e ∙ sym later;
              holds = λ none. absurd (let some : Some error ≡ None = sym later ∙ none in cc);
              stopped = λ _ _. stopped_still (h.stopped error e);
            },
            λ none. absurd (let some : Some error ≡ None = sym e ∙ none in cc),
          )

  unstopped : false ≡ is_some state.refusal → state.refusal ≡ None
  unstopped go = by state.refusal refl
    where
      by : (o : Option MergeError) → state.refusal ≡ o → state.refusal ≡ None
      by None e = e
      by (Some error) e = absurd (true≢false (sym (go ∙ ap is_some e)))

  -- one that goes on and takes the piece
  pub took : (at : ℕ) (new : Bucket) → false ≡ is_some state.refusal → adding state.bucket p ≡ Ok at → new ≡ with_piece state.bucket p
      → HasTaken section limit b wide (record { bucket = new; refusal = state.refusal }) × (state.refusal ≡ None → Some at ≡ Some place)
  took at new go answer is =
      let none : state.refusal ≡ None = unstopped go in
      let fine : bucket_refusal section limit b (firsts_behind [] pieces) ≡ None = sym h.refusal ∙ none in
      let before = h.holds fine in
      elim (one_more section limit b pieces p fine) [
        | inl t ↦
            let same : at ≡ place = ok_same (adding state.bucket p) at place answer (ap (λ k. adding k p) before ∙ t.answer) in (
              record {
                refusal = none ∙ sym t.refusal;
                holds = λ _. is ∙ ap (λ k. with_piece k p) before ∙ t.holds;
                stopped = λ e some. absurd (let both : None ≡ Some e = sym none ∙ some in cc);
              },
              λ _. ap (λ (n : ℕ). Some n) same,
            )
        | inr s ↦ absurd (ok_or_err (adding state.bucket p) at s.error answer (ap (λ k. adding k p) before ∙ s.answer))
      ]

  -- one that goes on and stops at the piece
  refused : (error : MergeError) (new : Bucket) → false ≡ is_some state.refusal → adding state.bucket p ≡ Err error → new ≡ state.bucket
      → HasTaken section limit b wide (record { bucket = new; refusal = Some error }) × (Some error ≡ None → None ≡ Some place)
  refused error new go answer is =
      let fine : bucket_refusal section limit b (firsts_behind [] pieces) ≡ None = sym h.refusal ∙ unstopped go in
      let before = h.holds fine in
      elim (one_more section limit b pieces p fine) [
        | inl t ↦ absurd (ok_or_err (adding state.bucket p) place error (ap (λ k. adding k p) before ∙ t.answer) answer)
        | inr s ↦
            let same : error ≡ s.error = err_same (adding state.bucket p) error s.error answer (ap (λ k. adding k p) before ∙ s.answer) in
            let later : Some error ≡ bucket_refusal section limit b wide = ap (λ (e : MergeError). Some e) same ∙ sym s.refusal in (
              record {
                refusal = later;
                holds = λ none. absurd (let some : Some error ≡ None = later ∙ none in cc);
                stopped = λ _ _. record {
                  held = firsts_behind [] pieces;
                  piece = p;
                  rest = [];
                  split = s.more;
                  fits = unrefused_fits section limit b pieces fine;
                  long = s.long;
                  holds = is ∙ before;
                };
              },
              λ none. absurd (cc),
            )
      ]

  pub stops : (error : MergeError) (new : Bucket) → false ≡ is_some state.refusal → (error ≡ NoMemory → ⊥) → Adds state.bucket p (Err error) new
      → HasTaken section limit b wide (record { bucket = new; refusal = Some error }) × (Some error ≡ None → None ≡ Some place)
  stops (NotTerminated s i) new go some adds = refused (NotTerminated s i) new go adds.0 adds.1
  stops (TooLarge s k o n) new go some adds = refused (TooLarge s k o n) new go adds.0 adds.1
  stops NoMemory new go some adds = absurd (some refl)
