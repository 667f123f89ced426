-- The kept ones of a list of input sections.
use Rattle.std.proofs.Common.{◌≡◌, Bool, List, [], ◌∷◌, refl}
use Rattle.lk_sizes.specs.Kept.{kept_of}

-- where nothing is left, nothing is kept
pub kept_none : (marks : List Bool) → kept_of marks [] ≡ []
kept_none [] = refl
kept_none (m ∷ marks) = refl
