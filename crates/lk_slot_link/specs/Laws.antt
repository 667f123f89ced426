-- Laws on the slot machine over a link.
use Rattle.std.specs.Prelude.{◌≡◌, ◌↔◌, ℕ, true, List, [], Some}
use Rattle.lk_link.specs.declared.link.LinkInput.{LinkInput}
use Rattle.lk_link.specs.WellFormed.{IsWellFormed}
use Rattle.lk_reach.specs.declared.units.Unit.{Unit as LinkUnit}
use Rattle.lk_reach.specs.Marks.{IsUnit, unit_at, unit_number}
use Rattle.lk_reach.specs.Reach.{HasFlag, IsReached}
use Rattle.lk_slots.specs.Laws.{NothingGivenUp}
use Rattle.lk_slots.specs.Machine.{LeadTo, State, Step}
use Rattle.lk_slots.specs.Reach as graph
use Rattle.lk_slots.specs.States.{HasBit, IsDone, IsQuiet}
use Rattle.lk_slot_link.specs.LinkGraphs.{graph_of, unit_group}

-- the graph of a well-formed link is whole
abbrev pub GraphsAreWhole : Type 0
GraphsAreWhole = (link : LinkInput) → IsWellFormed link → graph.IsWhole (graph_of link)

-- what is reached in the graph, and which flags symbols have there, is what is reached in the link, with its flags
pub record IsSameReach : Type 0 where
  pub units : (link : LinkInput) (unit : LinkUnit) → IsWellFormed link → IsUnit link.groups unit
      → graph.IsReached (graph_of link) (unit_number link.groups unit) ↔ IsReached link unit
  pub numbers : (link : LinkInput) (n : ℕ) → IsWellFormed link → graph.IsReached (graph_of link) n
      → (unit : LinkUnit) × (unit_at link.groups n ≡ Some unit) × IsReached link unit
  pub flags : (link : LinkInput) (s i : ℕ) → IsWellFormed link → graph.HasFlag (graph_of link) s i ↔ HasFlag link s i

-- whatever the steps and their order: what a group has done are units of its own that are reached, what is in words are flags, and
-- no group is parked with something waiting
pub record IsSoundIn (link : LinkInput) (st : State) : Type 0 where
  pub reached : (g n : ℕ) → (st.groups g).done n ≡ true
      → (unit : LinkUnit) × (unit_at link.groups n ≡ Some unit) × IsReached link unit × (unit_group link.groups (Some unit) ≡ g)
  pub flags : (s i : ℕ) → HasBit st s i → HasFlag link s i
  pub awake : (g : ℕ) → (st.slots g).parked ≡ true → (st.slots g).inbox ≡ []

abbrev pub StepsAreSoundIn : Type 0
StepsAreSoundIn = (link : LinkInput) (steps : List Step) (st : State) → IsWellFormed link → LeadTo (graph_of link) steps st → IsSoundIn link st

-- a state has just what is reached, with just its flags
pub record IsAllOf (link : LinkInput) (st : State) : Type 0 where
  pub done : (unit : LinkUnit) → IsUnit link.groups unit → IsDone (graph_of link) st (unit_number link.groups unit) ↔ IsReached link unit
  pub flags : (s i : ℕ) → HasBit st s i ↔ HasFlag link s i

-- whatever the steps and their order, where nothing was given up: a quiet state has just what is reached
abbrev pub QuietStatesAreAll : Type 0
QuietStatesAreAll = (link : LinkInput) (steps : List Step) (st : State) → IsWellFormed link → NothingGivenUp steps
    → LeadTo (graph_of link) steps st → IsQuiet (graph_of link) st → IsAllOf link st
