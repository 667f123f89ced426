-- Where the pieces of groups start, and the entries of the offset map that they make with the places of the pieces.
use Rattle.std.specs.Prelude.{◌≡◌, ℕ, List, Some, Vec, length, map, slice_get}
use Rattle.std.specs.Global.{Global}
use Rattle.lk_merge.specs.declared.group_starts.Entries.{Entries}
use Rattle.lk_merge.specs.declared.offset.BucketOffset.{BucketOffset}
use Rattle.lk_merge.specs.Hash.{fnv64}
use Rattle.lk_merge.specs.Image.{in_bucket}
use Rattle.lk_merge.specs.Inputs.{Located}
use Rattle.lk_merge.specs.MatrixWork.{places_of}
use Rattle.lk_merge.specs.MergingTables.{entry_of, pieces_in}
use Rattle.lk_merge.specs.OffsetMapTables.{HoldsIn}
use Rattle.lk_merge.specs.Pieces.{Piece}

-- the places of each bucket's pieces, among all pieces
abbrev pub ArePlaces : List Piece → List (Vec BucketOffset Global) → Type 0
ArePlaces all places = (b : ℕ) (found : Vec BucketOffset Global) → slice_get places b ≡ Some found → found.items ≡ places_of b (in_bucket fnv64 b all)

-- the entries of the first of all pieces are there; of each bucket they took as many places as it has pieces among them
pub record HasEntries (all done : List Located) (e : Entries) : Type 0 where
  pub places : ArePlaces (pieces_in all) e.places.items
  pub taken : (b at : ℕ) → slice_get e.taken.items b ≡ Some at → at ≡ length (in_bucket fnv64 b (pieces_in done))
  pub entries : HoldsIn (map (entry_of (pieces_in all)) done) e.entries
