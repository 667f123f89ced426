-- Laws on paths by which units are kept.
use Rattle.std.specs.Prelude.{◌≡◌, ℕ, suc, List, None, Some, length, slice_get}
use Rattle.lk_link.specs.declared.link.LinkInput.{LinkInput}
use Rattle.lk_link.specs.WellFormed.{IsWellFormed}
use Rattle.lk_reach.specs.declared.units.Unit.{Unit as LinkUnit}
use Rattle.lk_reach.specs.Reach.{IsReached}
use Rattle.lk_explain.specs.Faults.{path_fault}
use Rattle.lk_explain.specs.KeepPath.{IsShown}

-- the last unit of a list without a fault is reached, whoever made the list
abbrev pub AcceptedIsReached : Type 0
AcceptedIsReached = (link : LinkInput) (path : List LinkUnit) (unit : LinkUnit) (k : ℕ) → path_fault link path ≡ None → length path ≡ suc k → slice_get path k ≡ Some unit → IsReached link unit

-- no unit has two shown paths
abbrev pub ShownIsOne : Type 0
ShownIsOne = (link : LinkInput) (path other : List LinkUnit) (unit : LinkUnit) → IsWellFormed link → IsShown link path unit → IsShown link other unit → path ≡ other

-- a unit that is reached has one
abbrev pub ReachedIsShown : Type 0
ReachedIsShown = (link : LinkInput) (unit : LinkUnit) → IsWellFormed link → IsReached link unit → (path : List LinkUnit) × IsShown link path unit
