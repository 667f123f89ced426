-- What merging has made before the first piece.
use Rattle.std.proofs.Common.{◌≡◌, ℕ, ◌<◌, [], length, map, get_or, None, refl, sym, ap, ◌∙◌, subst, arith}
use Rattle.std.specs.List.{range_with_len}
use Rattle.std.proofs.lemmas.List.FromFn.{length-map-range_with_len, get_or-map-range_with_len}
use Rattle.std.proofs.lemmas.Option.{slice_get_within, get_or_from_slice_get}
use Rattle.lk_merge.specs.declared.merging.BucketState.{BucketState}
use Rattle.lk_merge.specs.declared.merging.Merging.{Merging as Merges}
use Rattle.lk_merge.specs.Buckets.{empty_bucket}
use Rattle.lk_merge.specs.Hash.{fnv64}
use Rattle.lk_merge.specs.Image.{firsts_behind, bucket_list}
use Rattle.lk_merge.specs.Merging.{bucket_refusal}
use Rattle.lk_merge.specs.MergingTables.{HasTaken, HasMerged}
use Rattle.lk_merge.specs.OffsetMapTables.{HoldsIn}

-- a bucket before its first piece
abbrev pub empty_state : ℕ → ℕ → ℕ → BucketState
empty_state section limit b = record { bucket = empty_bucket section b limit; refusal = None }

pub no_list : (b : ℕ) → bucket_list fnv64 [] b ≡ []
unfolding firsts_behind
no_list b = refl

pub fine : (section limit b : ℕ) → bucket_refusal section limit b [] ≡ None
fine section limit b = refl

pub took_none : (section limit b : ℕ) → HasTaken section limit b (bucket_list fnv64 [] b) (empty_state section limit b)
took_none section limit b = subst (λ l. HasTaken section limit b l (empty_state section limit b)) (sym (no_list b)) (record {
  refusal = sym (fine section limit b);
  holds = λ _. refl;
  stopped = λ e some. absurd (cc);
})

pub merged_none : (section limit : ℕ) (merging : Merges) → merging.buckets.items ≡ map (empty_state section limit) (range_with_len 0 16)
    → HoldsIn [] merging.entries → HasMerged section limit [] merging
merged_none section limit merging buckets entries = record {
  count = ap length buckets ∙ length-map-range_with_len (empty_state section limit) 0 16;
  buckets = λ b state at.
      let small : b < 16 = let n = length-map-range_with_len (empty_state section limit) 0 16 in omega (arith, slice_get_within merging.buckets.items b state at, ap length buckets, n) in
      let is : empty_state section limit b ≡ state =
      sym (get_or-map-range_with_len (empty_state section limit) 0 16 b b state small (omega arith)) ∙ ap (λ l. get_or l b state) (sym buckets)
      ∙ get_or_from_slice_get merging.buckets.items b state state at in
      subst (HasTaken section limit b (bucket_list fnv64 [] b)) is (took_none section limit b);
  entries = λ _. entries;
}
