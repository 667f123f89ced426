-- Laws on what is made of stretches.
use Rattle.std.specs.Prelude.{◌≡◌, ℕ, List}
use Rattle.lk_image.specs.Stretches.{AreApart, EndWithin, IsMadeOf, Stretch, laid_out}

-- what is laid out over zeros is made of its stretches, where these are apart and end within it
abbrev pub LaidOutIsMade : Type 0
LaidOutIsMade = (count : ℕ) (all : List Stretch) → EndWithin count all → AreApart all → IsMadeOf count all (laid_out count all)

-- what is made of the same stretches is the same, so their order plays no part
abbrev pub MadeIsOne : Type 0
MadeIsOne = (count : ℕ) (all : List Stretch) (a b : List ℕ) → IsMadeOf count all a → IsMadeOf count all b → a ≡ b
