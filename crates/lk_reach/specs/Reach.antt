-- What is reached, and the flags of symbols.
use Rattle.std.specs.Prelude.{◌≡◌, ◌⊎◌, ℕ, List, [], ◌∷◌, Some}
use Rattle.std.specs.Int.{bit_at}
use Rattle.lk_link.specs.declared.link.LinkInput.{LinkInput}
use Rattle.lk_link.specs.declared.symbol.InputSymbol.{InputSymbol}
use Rattle.lk_link.specs.Symbols.{symbol_at}
use Rattle.lk_reach.specs.declared.units.Unit.{Unit as LinkUnit}
use Rattle.lk_reach.specs.Units.{AskFlag, AsksFor, IsRoot, follows, roots}

-- ---- reached

-- each unit asks for the next, from the first on to the last
abbrev pub IsPath : LinkInput → LinkUnit → List LinkUnit → LinkUnit → Type 0
IsPath link first [] last = first ≡ last
IsPath link first (next ∷ rest) last = AsksFor link first next × IsPath link next rest last

-- a path leads to the unit from one that a root asks for (libwild: `traverse_reference_graph`)
pub record IsReached (link : LinkInput) (unit : LinkUnit) : Type 0 where
  pub first : LinkUnit
  pub rest : List LinkUnit
  pub root : IsRoot link first
  pub path : IsPath link first rest unit

-- ---- flags

-- a bit of a symbol's flags is handed in
pub record IsHandedIn (link : LinkInput) (s i : ℕ) : Type 0 where
  pub symbol : InputSymbol
  pub there : symbol_at link.groups s ≡ Some symbol
  pub bit : bit_at symbol.flags.0 i ≡ 1

-- a unit that is reached sets a bit of a symbol's flags
pub record IsSetByUnit (link : LinkInput) (s i : ℕ) : Type 0 where
  pub unit : LinkUnit
  pub reached : IsReached link unit
  pub asks : AskFlag (follows link unit) s i

-- a bit of a symbol's flags is handed in, or set by a root or by a unit that is reached (libwild: `per_symbol_flags`)
abbrev pub HasFlag : LinkInput → ℕ → ℕ → Type 0
HasFlag link s i = IsHandedIn link s i ⊎ (AskFlag (roots link) s i ⊎ IsSetByUnit link s i)
