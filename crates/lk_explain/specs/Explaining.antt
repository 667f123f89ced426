-- What is answered of a unit: the path that is shown, and that none is shorter.
use Rattle.std.specs.Prelude.{◌≡◌, ℕ, suc, ◌≤◌, true, false, List, None, Some, length, slice_get}
use Rattle.lk_link.specs.declared.link.LinkInput.{LinkInput}
use Rattle.lk_reach.specs.declared.units.Unit.{Unit as LinkUnit}
use Rattle.lk_explain.specs.declared.shown.ExplainError.{ExplainError}
use Rattle.lk_explain.specs.declared.shown.ExplainError.TheVariants.{NoSuchUnit, NoMemory}
use Rattle.lk_explain.specs.Faults.{has_unit, path_fault}
use Rattle.lk_explain.specs.KeepPath.{IsShown}

-- the shown path to a unit: a check accepts it, and no path that a check accepts and that ends there is shorter
pub record IsShortest (link : LinkInput) (path : List LinkUnit) (unit : LinkUnit) : Type 0 where
  pub shown : IsShown link path unit
  pub accepted : path_fault link path ≡ None
  pub least : (other : List LinkUnit) (k : ℕ) → path_fault link other ≡ None → length other ≡ suc k → slice_get other k ≡ Some unit → length path ≤ length other

-- when each refusal comes: there is no such unit, or there is, and no memory
abbrev pub IsRefused : LinkInput → LinkUnit → ExplainError → Type 0
IsRefused link unit NoSuchUnit = has_unit link unit ≡ false
IsRefused link unit NoMemory = has_unit link unit ≡ true
