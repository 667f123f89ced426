-- Words of private contracts: what a walk answers that stops at the first of some things.
use Rattle.std.specs.Prelude.{◌≡◌, List, [], Some, Result, Ok, Err}
use Rattle.std.specs.List.{slice_get}

-- it answers that one, or that there is none
abbrev pub StopsAtFirst : {X : Type 0} → List X → Result Unit X → Type 0
StopsAtFirst xs (Ok _) = xs ≡ []
StopsAtFirst xs (Err x) = slice_get xs 0 ≡ Some x
