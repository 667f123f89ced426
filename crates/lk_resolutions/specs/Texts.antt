-- How an offset outside merged data is told.
use Rattle.std.specs.Prelude.{ℕ, List, [], ◌∷◌, codes}
use Rattle.std.specs.Fmt.{decimal}
use Rattle.lk_live.specs.Texts.{input_text}
use Rattle.lk_link.specs.Texts.{joined}
use Rattle.lk_resolutions.specs.declared.outside.MergeOffsetPlace.{MergeOffsetPlace}
use Rattle.lk_resolutions.specs.declared.outside.MergeOffsetPlace.TheVariants.{OfRelocation, OfSymbol}

-- what chooses an offset outside the data of a merged section
abbrev pub merge_offset_text : MergeOffsetPlace → List ℕ
merge_offset_text (OfSymbol symbol) = joined (codes "merge offset: symbol " ∷ decimal symbol ∷ [])
merge_offset_text (OfRelocation id section relocation) =
    joined (codes "merge offset: " ∷ input_text id section ∷ codes " relocation " ∷ decimal relocation ∷ [])
