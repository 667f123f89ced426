-- What a group brings is what its cells get.
use Rattle.std.proofs.Common.{◌≡◌, ℕ, ◌<◌, [], ◌∙◌, Some, Vec, Global, sym, ap, subst, arith}
use Rattle.std.specs.List.{slice_get}
use Rattle.std.specs.Option.{option_map_or}
use Rattle.lk_merge.specs.declared.group_strings.GroupStrings.{GroupStrings as Brings}
use Rattle.lk_merge.specs.declared.groups.SectionGroup.{SectionGroup}
use Rattle.lk_merge.specs.declared.string.MergeString.{MergeString}
use Rattle.lk_merge.specs.Between.{between}
use Rattle.lk_merge.specs.GroupStrings.{HasBrought}
use Rattle.lk_merge.specs.Groups.{group_pieces}
use Rattle.lk_merge.specs.Hash.{fnv64}
use Rattle.lk_merge.specs.Image.{in_bucket}
use Rattle.lk_merge.specs.Inputs.{located, padded_total}
use Rattle.lk_merge.specs.MatrixCells.{pieces_of_strings}
use Rattle.lk_merge.specs.MatrixWork.{IsWork, MatrixWork, cell_pieces, group_located, located_between}
use Rattle.lk_merge.specs.PieceStarts.{HasStarts}
use Rattle.lk_merge.proofs.Covering.{groups_cover}

module _ (w : MatrixWork) (g : ℕ) (x : SectionGroup) (there : slice_get w.groups g ≡ Some x) where
  pub group_begins : IsWork w → x.start < padded_total w.inputs
  group_begins h = let some = groups_cover.some w.inputs h.size w.groups g x h.groups there in omega (arith, some.0, some.1)

  pub starts_told : (b : Brings) → HasBrought (between x.start x.end (located w.inputs)) b → HasStarts (group_located w g) b.starts
  starts_told b h = subst (λ o. HasStarts (option_map_or (located_between w) o []) b.starts) (sym there) h.starts

  pub strings_brought : (b : Brings) → HasBrought (between x.start x.end (located w.inputs)) b → (k : ℕ) (found : Vec MergeString Global) → slice_get b.buckets.items k ≡ Some found
      → pieces_of_strings found.items ≡ cell_pieces w g k
  strings_brought b h k found at = h.each k found at ∙ ap (λ o. in_bucket fnv64 k (option_map_or (group_pieces w.inputs) o [])) (sym there)
