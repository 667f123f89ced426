-- Those of a list that have a mark.
use Rattle.std.proofs.Common.{◌≡◌, Bool, List, [], ◌∷◌, refl}
use Rattle.lk_live.specs.Reach.{marked}

-- where nothing is left, no mark counts
pub marked_none : {X : Type 0} (marks : List Bool) → marked {X = X} marks [] ≡ []
marked_none [] = refl
marked_none (m ∷ marks) = refl
