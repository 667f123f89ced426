-- How a candidate that is past its limit is told.
use Rattle.std.specs.Prelude.{ℕ, List, [], ◌∷◌, codes}
use Rattle.std.specs.Fmt.{decimal}
use Rattle.lk_live.specs.Texts.{input_text}
use Rattle.lk_link.specs.Texts.{joined}
use Rattle.lk_relax.specs.declared.sites.RelaxedPlace.{RelaxedPlace}

-- a candidate whose bytes are gone, and whose symbol is too far from where they stood
abbrev pub relaxed_text : RelaxedPlace → List ℕ
relaxed_text place =
    joined (codes "out of reach: relaxed " ∷ input_text place.file place.section ∷ codes " " ∷ decimal place.candidate ∷ [])
