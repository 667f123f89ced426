-- Cells and buckets of the matrix by which workers merge an output section.
use Rattle.std.specs.Prelude.{◌≡◌, ℕ, ◌+◌, ◌<◌, ◌≤◌, Bool, true, false, IfSome, List, [], Option, None, Some, length, map}
use Rattle.lk_grid.specs.Machine.{Cell, Empty, Filled, Taken, Waiting}
use Rattle.lk_merge.specs.declared.error.MergeError.{MergeError}
use Rattle.lk_merge.specs.declared.merging.BucketState.{BucketState}
use Rattle.lk_merge.specs.declared.string.MergeString.{MergeString}
use Rattle.lk_merge.specs.Buckets.{piece_of}
use Rattle.lk_merge.specs.Hash.{fnv64}
use Rattle.lk_merge.specs.Image.{firsts_behind, in_bucket}
use Rattle.lk_merge.specs.MatrixWork.{MatrixWork, cell_pieces, front, kept_of, places_of, refusal_of}
use Rattle.lk_merge.specs.MergingTables.{HasTaken}
use Rattle.lk_merge.specs.Pieces.{Piece}

-- ---- buckets

-- a bucket on its way: its number, how many groups it has taken whole, what it keeps and why it has stopped, and where its pieces stand
pub record BucketValue : Type 0 where
  pub number : ℕ
  pub taken : ℕ
  pub state : BucketState
  pub places : List ℕ

-- a bucket keeps what it should of some pieces, which stand where they should; or it has stopped at its first one that is too long
abbrev pub HasPlaces : ℕ → ℕ → ℕ → List Piece → BucketState → List ℕ → Type 0
HasPlaces section limit b ps state places = HasTaken section limit b (firsts_behind [] ps) state × (state.refusal ≡ None → places ≡ places_of b ps)

-- a bucket keeps what merging keeps of the groups that it has taken whole; one that has stopped did so in the next group, and keeps what
-- stands before its first piece that is too long
pub record IsOnItsWay (w : MatrixWork) (v : BucketValue) : Type 0 where
  pub numbered : v.number < 16
  pub few : v.taken ≤ length w.groups
  pub going : v.state.refusal ≡ None → HasPlaces w.section w.limit v.number (in_bucket fnv64 v.number (front w v.taken)) v.state v.places
  pub stopped : (e : MergeError) → v.state.refusal ≡ Some e → (v.taken < length w.groups) × (refusal_of w v.number v.taken ≡ None)
      × HasTaken w.section w.limit v.number (kept_of w v.number (v.taken + 1)) v.state

-- how many groups a bucket has taken whole after one more
abbrev pub taken_after : ℕ → Option MergeError → ℕ
taken_after taken None = taken + 1
taken_after taken (Some e) = taken

-- a bucket comes to a cell: it goes on, and the cell's group is its next one
pub record ComesTo (group bucket : ℕ) (v : BucketValue) : Type 0 where
  pub going : v.state.refusal ≡ None
  pub number : v.number ≡ bucket
  pub taken : v.taken ≡ group

-- ---- cells

-- the cell of a group and a bucket
pub record CellValue : Type 0 where
  pub group : ℕ
  pub bucket : ℕ
  pub cell : Cell Piece

-- the same cell, otherwise filled
abbrev pub with_cell : CellValue → Cell Piece → CellValue
with_cell v cell = record { group = v.group; bucket = v.bucket; cell = cell }

-- some strings, as their bytes
abbrev pub pieces_of_strings : List MergeString → List Piece
pieces_of_strings strings = map piece_of strings

-- a cell by what is in it
abbrev pub cell_by : Bool → Option (List Piece) → Option BucketValue → Cell Piece
cell_by true strings waiting = Taken
cell_by false (Some ps) waiting = Filled ps
cell_by false None (Some bucket) = Waiting
cell_by false None None = Empty

-- the strings of a cell are those of its group and bucket, and a bucket that waits there came to it
pub record IsCell (w : MatrixWork) (group bucket : ℕ) (strings : Option (List Piece)) (waiting : Option BucketValue) : Type 0 where
  pub there : group < length w.groups
  pub numbered : bucket < 16
  pub right : IfSome strings (λ ps. ps ≡ cell_pieces w group bucket)
  pub next : IfSome waiting (ComesTo group bucket)
