-- The offset map: which starts of pieces the blocks of input offsets keep, and which piece an offset belongs to.
use Rattle.std.specs.Prelude.{◌≡◌, ℕ, ◌<◌, ◌≤◌, ◌/◌, ◌==◌, not, Bool, List, [], ◌∷◌, ◌++◌, Some, if◌then◌else◌, filter, length, nat_lt, slice_get}
use Rattle.lk_merge.specs.declared.offset_map.PieceEntry.{PieceEntry}

-- ---- blocks

-- those of some pieces that start in a block of 256 offsets
abbrev pub in_block : ℕ → List PieceEntry → List PieceEntry
in_block b pieces = filter (λ e. e.start / 256 == b) pieces

-- fewer than twelve of some pieces start in the block of one
abbrev pub has_room : List PieceEntry → PieceEntry → Bool
has_room before e = nat_lt (length (in_block (e.start / 256) before)) 12

abbrev pub has_no_room : List PieceEntry → PieceEntry → Bool
has_no_room before e = not (has_room before e)

-- those of some pieces behind others that are chosen, each by the ones before it
unfoldable pub chosen_behind : (List PieceEntry → PieceEntry → Bool) → List PieceEntry → List PieceEntry → List PieceEntry
chosen_behind choice before [] = []
chosen_behind choice before (e ∷ es) =
    let rest = chosen_behind choice (before ++ e ∷ []) es in
    if choice before e then e ∷ rest else rest

-- the first twelve of each block, and those past the twelfth of their blocks
abbrev pub first_twelve : List PieceEntry → List PieceEntry
first_twelve pieces = chosen_behind has_room [] pieces

abbrev pub past_twelfth : List PieceEntry → List PieceEntry
past_twelfth pieces = chosen_behind has_no_room [] pieces

-- ---- look-ups

-- pieces by rising start
abbrev pub StartsRise : List PieceEntry → Type 0
StartsRise pieces = (i j : ℕ) (d e : PieceEntry) → i < j → slice_get pieces i ≡ Some d → slice_get pieces j ≡ Some e → d.start < e.start

-- the last piece that starts at an offset or before it
pub record IsLast (pieces : List PieceEntry) (offset : ℕ) (e : PieceEntry) : Type 0 where
  pub index : ℕ
  pub there : slice_get pieces index ≡ Some e
  pub from : e.start ≤ offset
  pub last : (j : ℕ) (d : PieceEntry) → slice_get pieces j ≡ Some d → d.start ≤ offset → d.start ≤ e.start

-- no piece starts there or before
abbrev pub NoneAt : List PieceEntry → ℕ → Type 0
NoneAt pieces offset = (j : ℕ) (e : PieceEntry) → slice_get pieces j ≡ Some e → offset < e.start
