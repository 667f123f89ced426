-- How a branch that doesn't reach is told.
use Rattle.std.specs.Prelude.{ℕ, List, [], ◌∷◌, codes}
use Rattle.std.specs.Fmt.{decimal}
use Rattle.lk_live.specs.Texts.{input_text}
use Rattle.lk_link.specs.Texts.{joined}
use Rattle.lk_thunk_plan.specs.declared.check.BranchPlace.{BranchPlace}

-- a branch that reaches neither its target nor a thunk
abbrev pub branch_text : BranchPlace → List ℕ
branch_text place =
    joined (codes "out of reach: branch " ∷ input_text place.file place.section ∷ codes " " ∷ decimal place.relocation ∷ [])
