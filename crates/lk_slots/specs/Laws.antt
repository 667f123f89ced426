-- Laws on the slot machine.
use Rattle.std.specs.Prelude.{◌≡◌, ◌↔◌, ℕ, true, List, [], Contains}
use Rattle.lk_slots.specs.Machine.{Drop, Graph, LeadTo, State, Step, Task}
use Rattle.lk_slots.specs.Reach.{Asks, HasFlag, IsReached, IsWhole}
use Rattle.lk_slots.specs.States.{HasBit, IsDone, IsMet, IsQuiet}

-- what is done is reached and in its own group, what is in words are flags, and no group is parked with something waiting
pub record IsSound (graph : Graph) (st : State) : Type 0 where
  pub reached : (g u : ℕ) → (st.groups g).done u ≡ true → IsReached graph u × (graph.group_of u ≡ g)
  pub flags : (s i : ℕ) → HasBit st s i → HasFlag graph s i
  pub awake : (g : ℕ) → (st.slots g).parked ≡ true → (st.slots g).inbox ≡ []

-- whatever the steps and their order, also where something was given up
abbrev pub StepsAreSound : Type 0
StepsAreSound = (graph : Graph) (steps : List Step) (st : State) → LeadTo graph steps st → IsSound graph st

-- what roots of activated groups and units that are done ask for is met; a quiet state has all that is reached, with all flags
pub record IsComplete (graph : Graph) (st : State) : Type 0 where
  pub roots : (g : ℕ) (t : Task) (u : ℕ) → (st.groups g).active ≡ true → Contains (graph.roots g) t → Asks t u → IsMet graph st u
  pub follows : (v : ℕ) (t : Task) (u : ℕ) → IsDone graph st v → Contains (graph.follows v) t → Asks t u → IsMet graph st u
  pub done : IsQuiet graph st → (u : ℕ) → IsDone graph st u ↔ IsReached graph u
  pub flags : IsQuiet graph st → (s i : ℕ) → HasBit st s i ↔ HasFlag graph s i

-- none of the steps gave anything up
abbrev pub NothingGivenUp : List Step → Type 0
NothingGivenUp steps = (g : ℕ) → Contains steps (Drop g) → ⊥

-- whatever the steps and their order, in a graph that is whole, where nothing was given up
abbrev pub StepsAreComplete : Type 0
StepsAreComplete = (graph : Graph) (steps : List Step) (st : State) → IsWhole graph → NothingGivenUp steps → LeadTo graph steps st
    → IsComplete graph st
