-- Of the insides of the offset map: how it holds its pieces.
use Rattle.std.specs.Prelude.{◌≡◌, ℕ, ◌*◌, ◌<◌, ◌≤◌, ◌%◌, ◌^◌, List, Some, length, map, slice_get}
use Rattle.lk_merge.specs.declared.offset_map.OffsetMap.{OffsetMap}
use Rattle.lk_merge.specs.declared.offset_map.PieceEntry.{PieceEntry}
use Rattle.lk_merge.specs.declared.offset_map.Starts.{Starts}
use Rattle.lk_merge.specs.OffsetMaps.{first_twelve, past_twelfth}

-- so many of some pieces start before an offset, and they are the first ones
pub record AreBefore (pieces : List PieceEntry) (at n : ℕ) : Type 0 where
  pub within : n ≤ length pieces
  pub before : (j : ℕ) (e : PieceEntry) → slice_get pieces j ≡ Some e → j < n → e.start < at
  pub behind : (j : ℕ) (e : PieceEntry) → slice_get pieces j ≡ Some e → n ≤ j → at ≤ e.start

-- these are the starts and the places of some pieces
pub record AreStarts (pieces : List PieceEntry) (s : Starts) : Type 0 where
  pub blocks : (b n : ℕ) → slice_get s.blocks.items b ≡ Some n → AreBefore pieces (b * 256) n
  pub begun : (j : ℕ) (e : PieceEntry) → slice_get pieces j ≡ Some e → (e.start < length s.blocks.items * 256) × (e.start < 2 ^ 64)
  pub offsets : s.offsets.items ≡ map (λ e. e.start % 256) pieces
  pub places : s.places.items ≡ map (λ e. e.place) pieces

-- a map holds some pieces: of each block it keeps the first twelve, and those past them stand apart
pub record HoldsIn (pieces : List PieceEntry) (m : OffsetMap) : Type 0 where
  pub kept : AreStarts (first_twelve pieces) m.kept
  pub rest : AreStarts (past_twelfth pieces) m.rest
