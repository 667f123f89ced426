-- Groups of inputs that are merged in one go.
use Rattle.std.specs.Prelude.{◌≡◌, ℕ, ◌+◌, ◌<◌, ◌≤◌, ◌⊎◌, ◌&&◌, true, false, List, [], ◌∷◌, Some, filter, map, nat_le, nat_lt, slice_get}
use Rattle.std.specs.List.{flat_map, list_all}
use Rattle.lk_merge.specs.declared.groups.SectionGroup.{SectionGroup}
use Rattle.lk_merge.specs.Image.{all_pieces}
use Rattle.lk_merge.specs.Inputs.{input_start, located, padded_len, padded_total}
use Rattle.lk_merge.specs.Pieces.{Piece, MergeInput, is_terminated}

-- a cut at an offset is strictly inside no input that is one constant
abbrev pub CutsNoConstant : List MergeInput → ℕ → Type 0
CutsNoConstant inputs at = (k : ℕ) (x : MergeInput) → slice_get inputs k ≡ Some x → x.strings ≡ false
    → (at ≤ input_start inputs k) ⊎ (input_start inputs k + padded_len x ≤ at)

-- the end of a group that starts at an offset: the first offset at least `size` further on that cuts no constant; the end of all
-- inputs where that comes before
pub record IsGroupEnd (inputs : List MergeInput) (size start end : ℕ) : Type 0 where
  pub cuts_none : CutsNoConstant inputs end
  pub within : end ≤ padded_total inputs
  pub reaches : (start + size ≤ end) ⊎ (end ≡ padded_total inputs)
  pub first : (at : ℕ) → start + size ≤ at → at < end → ¬ CutsNoConstant inputs at

-- groups that follow each other from an offset on to the end of all inputs (libwild: `split_sections`)
unfoldable pub AreGroups : List MergeInput → ℕ → ℕ → List SectionGroup → Type 0
AreGroups inputs size start [] = start ≡ padded_total inputs
AreGroups inputs size start (g ∷ gs) =
    (g.start ≡ start) × (g.start < g.end) × IsGroupEnd inputs size g.start g.end × AreGroups inputs size g.end gs

-- the pieces of a group: those that start in it
abbrev pub group_pieces : List MergeInput → SectionGroup → List Piece
group_pieces inputs g = map (λ l. l.piece) (filter (λ l. nat_le g.start l.start && nat_lt l.start g.end) (located inputs))

-- ---- laws

-- a constant is inside a group as a whole, or outside
abbrev pub IsWholeOrOutside : List MergeInput → SectionGroup → ℕ → MergeInput → Type 0
IsWholeOrOutside inputs g k x = (input_start inputs k + padded_len x ≤ g.start) ⊎ (g.end ≤ input_start inputs k)
    ⊎ ((g.start ≤ input_start inputs k) × (input_start inputs k + padded_len x ≤ g.end))

-- the groups of inputs hold each padded offset once, in order; none is empty; none cuts a constant; each piece is in the group in which it
-- starts; and for each size above 0 there is one list of them
pub record GroupsCover : Type 0 where
  pub each : (inputs : List MergeInput) (size : ℕ) (gs : List SectionGroup) (at : ℕ) → AreGroups inputs size 0 gs → at < padded_total inputs
      → (k : ℕ) × (g : SectionGroup) × (slice_get gs k ≡ Some g) × (g.start ≤ at) × (at < g.end)
  pub follow : (inputs : List MergeInput) (size : ℕ) (gs : List SectionGroup) (j k : ℕ) (g h : SectionGroup) → AreGroups inputs size 0 gs → j < k
      → slice_get gs j ≡ Some g → slice_get gs k ≡ Some h → g.end ≤ h.start
  pub some : (inputs : List MergeInput) (size : ℕ) (gs : List SectionGroup) (k : ℕ) (g : SectionGroup) → AreGroups inputs size 0 gs
      → slice_get gs k ≡ Some g → (g.start < g.end) × (g.end ≤ padded_total inputs)
  pub whole : (inputs : List MergeInput) (size : ℕ) (gs : List SectionGroup) (j k : ℕ) (g : SectionGroup) (x : MergeInput) → AreGroups inputs size 0 gs
      → slice_get gs j ≡ Some g → slice_get inputs k ≡ Some x → x.strings ≡ false → IsWholeOrOutside inputs g k x
  pub pieces : (inputs : List MergeInput) (size : ℕ) (gs : List SectionGroup) → list_all is_terminated inputs ≡ true → AreGroups inputs size 0 gs
      → flat_map (group_pieces inputs) gs ≡ all_pieces inputs
  pub there : (inputs : List MergeInput) (size : ℕ) → 0 < size → (gs : List SectionGroup) × AreGroups inputs size 0 gs
  pub one : (inputs : List MergeInput) (size : ℕ) (gs hs : List SectionGroup) → AreGroups inputs size 0 gs → AreGroups inputs size 0 hs → gs ≡ hs
