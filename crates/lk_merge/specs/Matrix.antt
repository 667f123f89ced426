-- Merging by workers: the matrix of the groups and the buckets of an output section.
use Rattle.std.specs.Prelude.{◌≡◌, ℕ, ◌<◌, true, List, [], ◌++◌, length, slice_get, take}
use Rattle.std.specs.List.{concat, flat_map, list_all}
use Rattle.std.specs.Option.{option_map_or}
use Rattle.lk_grid.specs.Machine.{Grid, LeadTo, State, Step}
use Rattle.lk_merge.specs.declared.groups.SectionGroup.{SectionGroup}
use Rattle.lk_merge.specs.Groups.{AreGroups, group_pieces}
use Rattle.lk_merge.specs.Image.{all_buckets, all_pieces, bucket_list, firsts_behind, image, in_bucket}
use Rattle.lk_merge.specs.Pieces.{MergeInput, Piece, is_terminated}

-- what a bucket that holds some pieces makes of more: each joins them to which none of them is equal, nor one before it
abbrev pub with_pieces : List Piece → List Piece → List Piece
with_pieces held ps = held ++ firsts_behind held ps

-- the pieces of the group with a number
abbrev pub pieces_of_group : List MergeInput → List SectionGroup → ℕ → List Piece
pieces_of_group inputs gs g = option_map_or (group_pieces inputs) (slice_get gs g) []

-- the matrix of some groups and of sixteen buckets: a cell gets the pieces of its group that go to its bucket
abbrev pub grid_of : (Piece → ℕ) → List MergeInput → List SectionGroup → Grid Piece
grid_of hash inputs gs = record {
  groups = length gs;
  buckets = 16;
  pieces = λ g b. in_bucket hash b (pieces_of_group inputs gs g);
  with_more = with_pieces;
}

-- a bucket holds what merging keeps of the groups that it has taken, and when all have taken all, together they hold the image
pub record AreMerged (hash : Piece → ℕ) (inputs : List MergeInput) (gs : List SectionGroup) (st : State Piece) : Type 0 where
  pub each : (b : ℕ) → (st.buckets b).held ≡ bucket_list hash (flat_map (group_pieces inputs) (take (st.buckets b).taken gs)) b
  pub all : ((b : ℕ) → b < 16 → (st.buckets b).taken ≡ length gs)
      → concat (flat_map (λ b. (st.buckets b).held) all_buckets) ≡ image hash (all_pieces inputs)

-- so it is behind every list of steps, for each hash and for the groups of each size
abbrev pub MatrixMerges : Type 0
MatrixMerges = (hash : Piece → ℕ) (inputs : List MergeInput) (size : ℕ) (gs : List SectionGroup) (steps : List Step) (st : State Piece)
    → list_all is_terminated inputs ≡ true → AreGroups inputs size 0 gs → LeadTo (grid_of hash inputs gs) steps st → AreMerged hash inputs gs st
