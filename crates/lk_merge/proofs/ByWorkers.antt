-- The groups of an output section that workers merge.
use Rattle.std.proofs.Common.{◌≢◌, ℕ, List, [], ◌∷◌, length, refl, arith}
use Rattle.lk_merge.specs.declared.groups.SectionGroup.{SectionGroup}
use Rattle.lk_merge.specs.Groups.{AreGroups}
use Rattle.lk_merge.specs.Pieces.{MergeInput}
use Rattle.lk_merge.proofs.Covering.{groups_cover}

-- where there is a group, there is an input
pub some_inputs : (xs : List MergeInput) (size : ℕ) (gs : List SectionGroup) → AreGroups xs size 0 gs → length gs ≢ 0 → length xs ≢ 0
some_inputs xs size [] h some = absurd (some refl)
some_inputs [] size (g ∷ gs) h some = absurd (let is = groups_cover.some [] size (g ∷ gs) 0 g h refl in omega (arith, is.0, is.1))
some_inputs (x ∷ xs) size (g ∷ gs) h some = λ e. absurd (omega (arith, e))
