-- What a graph reaches, and which flags symbols have.
use Rattle.std.specs.Prelude.{◌≡◌, ◌⊎◌, ℕ, ◌<◌, true, false, Contains, bit_or}
use Rattle.std.specs.Int.{bit_at}
use Rattle.lk_slots.specs.Machine.{Export, Graph, Load, Mark, Refer, Request, Task, unit_of}

-- the unit that a task asks for
abbrev pub Asks : Task → ℕ → Type 0
Asks (Refer s flags) u = s ≡ u
Asks (Mark s flags) u = ⊥
Asks (Request x) u = unit_of x ≡ u

-- a task sets a bit of a symbol's flags
abbrev pub Sets : Graph → Task → ℕ → ℕ → Type 0
Sets graph (Refer t flags) s i = (t ≡ s) × (bit_at flags i ≡ 1)
Sets graph (Mark t flags) s i = (t ≡ s) × (bit_at flags i ≡ 1)
Sets graph (Request (Load u)) s i = ⊥
Sets graph (Request (Export t)) s i = (t ≡ s) × (bit_at graph.export_flags i ≡ 1)

-- a unit that a group's roots ask for, or that a unit asks for that is reached
pub data IsReached (graph : Graph) : ℕ → Type 0 where
  by_root : (g : ℕ) (t : Task) (u : ℕ) → g < graph.groups → Contains (graph.roots g) t → Asks t u → IsReached graph u
  by_unit : (v : ℕ) (t : Task) (u : ℕ) → IsReached graph v → Contains (graph.follows v) t → Asks t u → IsReached graph u

-- a task of a group's roots, or of a unit that is reached
abbrev pub IsTask : Graph → Task → Type 0
IsTask graph t = ((g : ℕ) × (g < graph.groups) × Contains (graph.roots g) t)
    ⊎ ((v : ℕ) × IsReached graph v × Contains (graph.follows v) t)

-- a bit of a symbol's flags was handed in, or a task sets it
abbrev pub HasFlag : Graph → ℕ → ℕ → Type 0
HasFlag graph s i = (bit_at (graph.handed_in s) i ≡ 1) ⊎ ((t : Task) × IsTask graph t × Sets graph t s i)

-- what is reached belongs to a group; joined words give a resolution only if one of them does; marks and what is handed in do not
pub record IsWhole (graph : Graph) : Type 0 where
  pub inside : (u : ℕ) → IsReached graph u → graph.group_of u < graph.groups
  pub joins : (a b : ℕ) → graph.resolves (bit_or a b) ≡ true → (graph.resolves a ≡ true) ⊎ (graph.resolves b ≡ true)
  pub unresolved : (s : ℕ) → graph.resolves (graph.handed_in s) ≡ false
  pub marks : (s flags : ℕ) → IsTask graph (Mark s flags) → graph.resolves flags ≡ false
