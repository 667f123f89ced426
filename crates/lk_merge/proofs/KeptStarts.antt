-- Where the pieces of a group start, as it is kept until the end.
use Rattle.std.proofs.Common.{◌≡◌, ℕ, zero, suc, ◌+◌, List, [], ◌∷◌, ◌++◌, map, length, Some, option_map, refl, sym, ap, ◌∙◌}
use Rattle.std.specs.List.{slice_get}
use Rattle.std.proofs.lemmas.List.{length-map, map-append}
use Rattle.std.proofs.lemmas.Option.{slice_get-map}
use Rattle.lk_merge.specs.declared.piece_starts.PieceStarts.{PieceStarts}
use Rattle.lk_merge.specs.Inputs.{Located}
use Rattle.lk_merge.specs.PieceStarts.{HasStarts, IsStartOf, bucket_of}
use Rattle.lk_merge.proofs.Growing.{some_same}

pub starts_none : (s : PieceStarts) → s.offsets.items ≡ [] → s.buckets.items ≡ [] → HasStarts [] s
starts_none s offsets buckets = record {
  starts = ap (map (λ n. s.from + n)) offsets;
  buckets = buckets;
}

pub starts_more : (pieces : List Located) (l : Located) (old new : PieceStarts) (o : ℕ) → new.from ≡ old.from → new.offsets.items ≡ old.offsets.items ++ o ∷ []
    → new.buckets.items ≡ old.buckets.items ++ bucket_of l ∷ [] → l.start ≡ old.from + o → HasStarts pieces old → HasStarts (pieces ++ l ∷ []) new
starts_more pieces l old new o from offsets buckets at h = record {
  starts = (λ i. map (λ n. from i + n) (offsets i)) ∙ map-append (λ n. old.from + n) old.offsets.items (o ∷ []) ∙ ap (λ ls. ls ++ (old.from + o) ∷ []) h.starts
      ∙ ap (λ n. map (λ (x : Located). x.start) pieces ++ n ∷ []) (sym at) ∙ sym (map-append (λ (x : Located). x.start) pieces (l ∷ []));
  buckets = buckets ∙ ap (λ ls. ls ++ bucket_of l ∷ []) h.buckets ∙ sym (map-append bucket_of pieces (l ∷ []));
}

pub starts_same : (pieces : List Located) (old new : PieceStarts) → new.from ≡ old.from → new.offsets.items ≡ old.offsets.items → new.buckets.items ≡ old.buckets.items
    → HasStarts pieces old → HasStarts pieces new
starts_same pieces old new from offsets buckets h = record {
  starts = (λ i. map (λ n. from i + n) (offsets i)) ∙ h.starts;
  buckets = buckets ∙ h.buckets;
}

pub starts_count : (pieces : List Located) (s : PieceStarts) → HasStarts pieces s → length s.offsets.items ≡ length pieces
starts_count pieces s h =
    sym (length-map s.offsets.items (λ n. s.from + n)) ∙ ap (λ (l : List ℕ). length l) h.starts ∙ length-map pieces (λ (x : Located). x.start)

mapped_at : {X : Type 0} (f : X → ℕ) (xs : List X) (k n : ℕ) → slice_get (map f xs) k ≡ Some n → (x : X) × (slice_get xs k ≡ Some x) × (n ≡ f x)
mapped_at f [] k n h = absurd (cc)
mapped_at f (x ∷ xs) zero n h = (x, refl, some_same n (f x) (sym h))
mapped_at f (x ∷ xs) (suc k) n h = mapped_at f xs k n h

pub start_of : (pieces : List Located) (s : PieceStarts) (k o b start bucket : ℕ) → slice_get s.offsets.items k ≡ Some o → slice_get s.buckets.items k ≡ Some b
    → start ≡ s.from + o → bucket ≡ b → HasStarts pieces s → IsStartOf pieces k start bucket
start_of pieces s k o b start bucket offset own is same h =
    let l = mapped_at (λ (x : Located). x.start) pieces k (s.from + o)
    (ap (λ ls. slice_get ls k) (sym h.starts) ∙ slice_get-map (λ n. s.from + n) s.offsets.items k ∙ ap (option_map (λ n. s.from + n)) offset) in
    let goes : slice_get (map bucket_of pieces) k ≡ Some (bucket_of l.0) = slice_get-map bucket_of pieces k ∙ ap (option_map bucket_of) l.1 in
    record {
      piece = l.0;
      there = l.1;
      starts = is ∙ l.2;
      goes = same ∙ some_same b (bucket_of l.0) (sym own ∙ ap (λ ls. slice_get ls k) h.buckets ∙ goes);
    }
