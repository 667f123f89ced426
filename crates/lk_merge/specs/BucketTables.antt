-- Of the insides of a bucket: the table of its pieces. Cited by private parts alone.
use Rattle.std.specs.Prelude.{◌≡◌, ℕ, ◌+◌, ◌^◌, ◌<◌, ◌≤◌, List, [], ◌∷◌, Some, length, map, slice_get}
use Rattle.std.specs.List.{concat}
use Rattle.std.specs.Map.{keys_of}
use Rattle.lk_merge.specs.declared.string.MergeString.{MergeString}
use Rattle.lk_merge.specs.Buckets.{piece_of}

-- strings, each with the place where it starts
abbrev pub placed_from : ℕ → List MergeString → List (MergeString × ℕ)
placed_from at [] = []
placed_from at (s ∷ rest) = (s, at) ∷ placed_from (at + length s.bytes.now) rest

-- the table holds each string with its place, and they end within the limit
pub record IsTable (number limit next : ℕ) (entries : List (MergeString × ℕ)) : Type 0 where
  pub numbered : number < 16
  pub limited : limit ≤ 2 ^ 28
  pub within : next ≤ limit
  pub ends : next ≡ length (concat (map piece_of (keys_of entries)))
  pub places : entries ≡ placed_from 0 (keys_of entries)
  pub some : (k : ℕ) (s : MergeString) → slice_get (keys_of entries) k ≡ Some s → 0 < length s.bytes.now
