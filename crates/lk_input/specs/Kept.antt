-- What is kept of a member of an object: the words of private contracts.
use Rattle.std.specs.Prelude.{Option, Some, None, Result, Ok, Err}
use Rattle.lk_input.specs.declared.read.kept.Member.{Member}
use Rattle.lk_input.specs.declared.read.kept.Member.TheVariants.{Missing, Read, Wrong}
use Rattle.lk_input.specs.ReadingSteps.{Path}

-- what was read of a member, or the path of the first wrong shape in it, if it was there
abbrev pub kept_in : {A : Type 0} → Member A → Option (Result A Path)
kept_in Missing = None
kept_in (Read x) = Some (Ok x)
kept_in (Wrong path) = Some (Err path.value)
