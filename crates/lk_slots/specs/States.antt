-- What is done in a state, and what still stands there.
use Rattle.std.specs.Prelude.{◌≡◌, ◌⊎◌, ℕ, ◌<◌, true, [], Contains}
use Rattle.std.specs.Int.{bit_at}
use Rattle.lk_slots.specs.Machine.{Graph, Item, Request, State, Task}
use Rattle.lk_slots.specs.Reach.{Asks}

-- a unit is done, in its own group
abbrev pub IsDone : Graph → State → ℕ → Type 0
IsDone graph st u = (st.groups (graph.group_of u)).done u ≡ true

-- a bit of a symbol's word is set
abbrev pub HasBit : State → ℕ → ℕ → Type 0
HasBit st s i = bit_at (st.words s) i ≡ 1

-- a task stands in some group's hand, or an item in its list or its slot
pub data Stands (st : State) : Task → Type 0 where
  in_hand : (g : ℕ) (t : Task) → Contains (st.groups g).hand t → Stands st t
  in_list : (g : ℕ) (x : Item) → Contains (st.groups g).items x → Stands st (Request x)
  in_slot : (g : ℕ) (x : Item) → Contains (st.slots g).inbox x → Stands st (Request x)

-- a unit is done, or a task stands that asks for it
abbrev pub IsMet : Graph → State → ℕ → Type 0
IsMet graph st u = IsDone graph st u ⊎ ((t : Task) × Stands st t × Asks t u)

-- every group is activated and parked, with nothing in hand and nothing of its own
pub record IsQuiet (graph : Graph) (st : State) : Type 0 where
  pub active : (g : ℕ) → g < graph.groups → (st.groups g).active ≡ true
  pub parked : (g : ℕ) → g < graph.groups → (st.slots g).parked ≡ true
  pub hand : (g : ℕ) → g < graph.groups → (st.groups g).hand ≡ []
  pub items : (g : ℕ) → g < graph.groups → (st.groups g).items ≡ []
