-- Why a unit is kept: paths to it from the roots, how far it is from them, and the one path that is shown.
use Rattle.std.specs.Prelude.{◌≡◌, ℕ, suc, ◌≤◌, List, [], ◌∷◌, Some, length, slice_get}
use Rattle.lk_link.specs.declared.link.LinkInput.{LinkInput}
use Rattle.lk_reach.specs.declared.units.Unit.{Unit as LinkUnit}
use Rattle.lk_reach.specs.Marks.{unit_number}
use Rattle.lk_reach.specs.Reach.{IsPath}
use Rattle.lk_reach.specs.Units.{AsksFor, IsRoot}

-- ---- paths

-- a root asks for the first unit of a list, each asks for the next, and the last is this unit
abbrev pub IsPathTo : LinkInput → List LinkUnit → LinkUnit → Type 0
IsPathTo link [] unit = ⊥
IsPathTo link (first ∷ rest) unit = IsRoot link first × IsPath link first rest unit

-- a list of units is a path by which its last one is kept
abbrev pub IsKeepPath : LinkInput → List LinkUnit → Type 0
IsKeepPath link path = (unit : LinkUnit) × IsPathTo link path unit

-- ---- distances

-- the least length of a path to a unit
pub record IsDistance (link : LinkInput) (unit : LinkUnit) (distance : ℕ) : Type 0 where
  pub path : List LinkUnit
  pub leads : IsPathTo link path unit
  pub long : length path ≡ distance
  pub least : (other : List LinkUnit) → IsPathTo link other unit → distance ≤ length other

-- the first unit, by its number among all units, of those at this distance that ask for a unit
pub record IsLeastAsker (link : LinkInput) (unit : LinkUnit) (distance : ℕ) (asker : LinkUnit) : Type 0 where
  pub far : IsDistance link asker distance
  pub asks : AsksFor link asker unit
  pub least : (other : LinkUnit) → IsDistance link other distance → AsksFor link other unit → unit_number link.groups asker ≤ unit_number link.groups other

-- ---- the path that is shown

-- a shortest path to a unit, in which the one before each unit is the least of those that can stand there
pub record IsShown (link : LinkInput) (path : List LinkUnit) (unit : LinkUnit) : Type 0 where
  pub leads : IsPathTo link path unit
  pub far : IsDistance link unit (length path)
  pub before : (k : ℕ) (asker next : LinkUnit) → slice_get path k ≡ Some asker → slice_get path (suc k) ≡ Some next → IsLeastAsker link next (suc k) asker
