-- What workers merge: the inputs of an output section, in groups.
use Rattle.std.specs.Prelude.{◌≡◌, ℕ, ◌^◌, ◌≤◌, true, List, [], Option, map, slice_get, take}
use Rattle.std.specs.List.{flat_map, list_all}
use Rattle.std.specs.Option.{option_map_or}
use Rattle.lk_merge.specs.declared.error.MergeError.{MergeError}
use Rattle.lk_merge.specs.declared.groups.SectionGroup.{SectionGroup}
use Rattle.lk_merge.specs.Between.{between}
use Rattle.lk_merge.specs.Buckets.{bucket_place}
use Rattle.lk_merge.specs.Groups.{AreGroups, group_pieces}
use Rattle.lk_merge.specs.Hash.{fnv64}
use Rattle.lk_merge.specs.Image.{bucket_list, firsts_behind, in_bucket, place_in}
use Rattle.lk_merge.specs.Inputs.{Located, located}
use Rattle.lk_merge.specs.Matrix.{pieces_of_group}
use Rattle.lk_merge.specs.Merging.{bucket_refusal}
use Rattle.lk_merge.specs.Pieces.{MergeInput, Piece, is_terminated}

-- an output section, the most bytes of each of its buckets, its inputs, and the groups into which these are cut
pub record MatrixWork : Type 0 where
  pub section : ℕ
  pub limit : ℕ
  pub inputs : List MergeInput
  pub groups : List SectionGroup

-- the pieces of the first so many groups
abbrev pub front : MatrixWork → ℕ → List Piece
front w n = flat_map (group_pieces w.inputs) (take n w.groups)

-- the pieces that come to the cell of a group and a bucket
abbrev pub cell_pieces : MatrixWork → ℕ → ℕ → List Piece
cell_pieces w g b = in_bucket fnv64 b (pieces_of_group w.inputs w.groups g)

-- what a bucket keeps of the first so many groups
abbrev pub kept_of : MatrixWork → ℕ → ℕ → List Piece
kept_of w b n = bucket_list fnv64 (front w n) b

-- why a bucket stops among the first so many groups, if it does
abbrev pub refusal_of : MatrixWork → ℕ → ℕ → Option MergeError
refusal_of w b n = bucket_refusal w.section w.limit b (kept_of w b n)

-- where the pieces of a bucket stand, each where the equal one that is kept does
abbrev pub places_of : ℕ → List Piece → List ℕ
places_of b ps = map (λ p. bucket_place b (place_in (firsts_behind [] ps) p)) ps

-- the pieces of a group, in their places; those of the group with a number; and those of the first so many groups
abbrev pub located_between : MatrixWork → SectionGroup → List Located
located_between w x = between x.start x.end (located w.inputs)

abbrev pub group_located : MatrixWork → ℕ → List Located
group_located w g = option_map_or (located_between w) (slice_get w.groups g) []

abbrev pub front_located : MatrixWork → ℕ → List Located
front_located w n = flat_map (located_between w) (take n w.groups)

-- the inputs are terminated, and the groups are all into which they are cut; buckets hold at most 2^28 bytes
pub record IsWork (w : MatrixWork) : Type 0 where
  pub limited : w.limit ≤ 2 ^ 28
  pub terminated : list_all is_terminated w.inputs ≡ true
  pub size : ℕ
  pub groups : AreGroups w.inputs size 0 w.groups
