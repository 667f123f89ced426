-- Of the insides of a merged section. Cited by private parts alone.
use Rattle.std.specs.Prelude.{◌≡◌, ℕ, ◌≤◌, ◌<◌, ◌^◌, List, Some, length, map, slice_get, true}
use Rattle.std.specs.List.{concat, list_all}
use Rattle.lk_merge.specs.declared.offset_map.OffsetMap.{OffsetMap}
use Rattle.lk_merge.specs.Buckets.{Bucket}
use Rattle.lk_merge.specs.Hash.{fnv64}
use Rattle.lk_merge.specs.Image.{all_pieces, bucket_list}
use Rattle.lk_merge.specs.Inputs.{located}
use Rattle.lk_merge.specs.Merging.{kept_lists}
use Rattle.lk_merge.specs.MergingTables.{entry_of}
use Rattle.lk_merge.specs.OffsetMapTables.{HoldsIn}
use Rattle.lk_merge.specs.Pieces.{MergeInput, is_terminated}

-- the buckets and the offset map are those of the inputs, all of which are terminated
pub record IsMerged (inputs : List MergeInput) (buckets : List Bucket) (entries : OffsetMap) : Type 0 where
  pub terminated : list_all is_terminated inputs ≡ true
  pub kept : map (λ k. k.pieces) buckets ≡ kept_lists fnv64 inputs
  pub numbered : (b : ℕ) (k : Bucket) → slice_get buckets b ≡ Some k → k.number ≡ b
  pub small : (b : ℕ) → b < 16 → length (concat (bucket_list fnv64 (all_pieces inputs) b)) ≤ 2 ^ 28
  pub offsets : HoldsIn (map (entry_of (all_pieces inputs)) (located inputs)) entries
