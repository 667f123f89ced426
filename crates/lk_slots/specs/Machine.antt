-- The slot machine by which workers walk a graph of units in groups, step by step.
use Rattle.std.specs.Prelude.{◌≡◌, ◌≢◌, ◌⊎◌, ℕ, ◌<◌, ◌==◌, ◌||◌, Bool, true, false, if◌then◌else◌, not, List, [], ◌∷◌, ◌++◌, bit_or}

-- ---- what is walked

-- what goes from group to group: a unit to be loaded, or a symbol, the unit of its number, to be exported (libwild: `WorkItem`)
pub data Item : Type 0 where
  Load : ℕ → Item
  Export : ℕ → Item

-- what is to be done: a symbol is referred to with flags, gets flags by a mark, or an item is handed on
pub data Task : Type 0 where
  Refer : ℕ → ℕ → Task
  Mark : ℕ → ℕ → Task
  Request : Item → Task

-- so many groups, the group of each unit, the tasks of each group's roots and of each unit, the flags handed in for each symbol,
-- which words of flags give a resolution, and the flags of an export
pub record Graph : Type 0 where
  pub groups : ℕ
  pub group_of : ℕ → ℕ
  pub roots : ℕ → List Task
  pub follows : ℕ → List Task
  pub handed_in : ℕ → ℕ
  pub resolves : ℕ → Bool
  pub export_flags : ℕ

-- the unit of an item
abbrev pub unit_of : Item → ℕ
unit_of (Load u) = u
unit_of (Export s) = s

-- the group that an item goes to
abbrev pub home_of : Graph → Item → ℕ
home_of graph x = graph.group_of (unit_of x)

-- ---- states

-- what lies behind the lock of a group's state: whether it is activated, the tasks in hand, its own items, and the units that are
-- done (libwild: `GroupState`)
pub record Group : Type 0 where
  pub active : Bool
  pub hand : List Task
  pub items : List Item
  pub done : ℕ → Bool

-- what lies behind the lock of a group's slot: whether the group is parked, and what others left for it (libwild: `WorkerSlot`)
pub record Slot : Type 0 where
  pub parked : Bool
  pub inbox : List Item

-- the groups, their slots, and a word of flags for each symbol
pub record State : Type 0 where
  pub groups : ℕ → Group
  pub slots : ℕ → Slot
  pub words : ℕ → ℕ

-- at first nothing is activated, parked, done or waiting, and words are the flags that were handed in
pub record IsStart (graph : Graph) (st : State) : Type 0 where
  pub active : (g : ℕ) → (st.groups g).active ≡ false
  pub hand : (g : ℕ) → (st.groups g).hand ≡ []
  pub items : (g : ℕ) → (st.groups g).items ≡ []
  pub done : (g u : ℕ) → (st.groups g).done u ≡ false
  pub parked : (g : ℕ) → (st.slots g).parked ≡ false
  pub inbox : (g : ℕ) → (st.slots g).inbox ≡ []
  pub words : (s : ℕ) → st.words s ≡ graph.handed_in s

-- ---- what a step does to a group, or to a slot

-- one element is gone, wherever it stood
pub record TakesOut {X : Type 0} (old : List X) (x : X) (new : List X) : Type 0 where
  pub before : List X
  pub after : List X
  pub is : old ≡ before ++ x ∷ after
  pub left : new ≡ before ++ after

-- the hand becomes another, and nothing else of the group changes
pub record Turns (tasks : List Task) (old new : Group) : Type 0 where
  pub hand : new.hand ≡ tasks
  pub active : new.active ≡ old.active
  pub items : new.items ≡ old.items
  pub done : (u : ℕ) → new.done u ≡ old.done u

-- a group is activated once: its hand is what its roots ask for
pub record Activates (graph : Graph) (g : ℕ) (old new : Group) : Type 0 where
  pub fresh : old.active ≡ false
  pub active : new.active ≡ true
  pub hand : new.hand ≡ graph.roots g
  pub items : new.items ≡ old.items
  pub done : (u : ℕ) → new.done u ≡ old.done u

-- what an item that is taken gives to do: a unit's tasks, if it isn't done, or the reference of an export
abbrev pub work_of : Graph → Group → Item → List Task
work_of graph group (Load u) = if group.done u then [] else graph.follows u
work_of graph group (Export s) = Refer s graph.export_flags ∷ []

-- whether a unit is done behind that
abbrev pub done_after : Group → Item → ℕ → Bool
done_after group (Load v) u = group.done u || (u == v)
done_after group (Export s) u = group.done u

-- with an empty hand a group takes an item of its own
pub record Takes (graph : Graph) (old new : Group) : Type 0 where
  pub item : Item
  pub idle : old.hand ≡ []
  pub out : TakesOut old.items item new.items
  pub hand : new.hand ≡ work_of graph old item
  pub active : new.active ≡ old.active
  pub done : (u : ℕ) → new.done u ≡ done_after old item u

-- the first task in hand puts an item into the group's own list
pub record Keeps (x : Item) (rest : List Task) (old new : Group) : Type 0 where
  pub hand : new.hand ≡ rest
  pub active : new.active ≡ old.active
  pub items : new.items ≡ old.items ++ x ∷ []
  pub done : (u : ℕ) → new.done u ≡ old.done u

-- a slot gets an item, and its group isn't parked any more
pub record Receives (x : Item) (old new : Slot) : Type 0 where
  pub parked : new.parked ≡ false
  pub inbox : new.inbox ≡ old.inbox ++ x ∷ []

-- a slot in which nothing waits parks its group
pub record Parks (old new : Slot) : Type 0 where
  pub nothing : old.inbox ≡ []
  pub parked : new.parked ≡ true
  pub inbox : new.inbox ≡ []

-- where something waits in a slot, it and a group's own list change places
pub record Swaps (old new : List Item) (before after : Slot) : Type 0 where
  pub something : before.inbox ≢ []
  pub items : new ≡ before.inbox
  pub inbox : after.inbox ≡ old
  pub parked : after.parked ≡ before.parked

-- all of a group but its own list is as it was
pub record SameButItems (old new : Group) : Type 0 where
  pub hand : new.hand ≡ old.hand
  pub active : new.active ≡ old.active
  pub done : (u : ℕ) → new.done u ≡ old.done u

-- an item or a task in hand is given up
pub record Drops (old new : Group) : Type 0 where
  pub gone : ((x : Item) × TakesOut old.items x new.items × (new.hand ≡ old.hand))
      ⊎ ((t : Task) × TakesOut old.hand t new.hand × (new.items ≡ old.items))
  pub active : new.active ≡ old.active
  pub done : (u : ℕ) → new.done u ≡ old.done u

-- ---- steps

-- a step is one of a group
pub data Step : Type 0 where
  Activate : ℕ → Step
  Take : ℕ → Step
  Or : ℕ → Step
  Deposit : ℕ → Step
  ParkOrSwap : ℕ → Step
  Drop : ℕ → Step

-- all but the one at a number are as they were
abbrev pub SameBut : {X : Type 0} → ℕ → (ℕ → X) → (ℕ → X) → Type 0
SameBut g old new = (h : ℕ) → h ≢ g → new h ≡ old h

-- all are as they were
abbrev pub Same : {X : Type 0} → (ℕ → X) → (ℕ → X) → Type 0
Same old new = (h : ℕ) → new h ≡ old h

-- a step that changes one group alone
pub record ChangesGroup (g : ℕ) (Change : Group → Group → Type 0) (old new : State) : Type 0 where
  pub change : Change (old.groups g) (new.groups g)
  pub groups : SameBut g old.groups new.groups
  pub slots : Same old.slots new.slots
  pub words : Same old.words new.words

-- a task that sets flags of a symbol
abbrev pub SetsFlags : Task → ℕ → ℕ → Type 0
SetsFlags (Refer t f) s flags = (t ≡ s) × (f ≡ flags)
SetsFlags (Mark t f) s flags = (t ≡ s) × (f ≡ flags)
SetsFlags (Request x) s flags = ⊥

-- a reference asks for its symbol where it has no flags, or the word that it found gives the symbol no resolution
abbrev pub request_for : Graph → ℕ → ℕ → ℕ → List Task
request_for graph word s flags = if (flags == 0) || not (graph.resolves word) then Request (Load s) ∷ [] else []

-- what is left to do of a task that set its flags, by the word that it found
abbrev pub left_of : Graph → ℕ → Task → List Task
left_of graph word (Refer s flags) = request_for graph word s flags
left_of graph word _ = []

-- the first task in hand sets its flags in its symbol's word, and what is left of it stays in hand
pub record Joins (graph : Graph) (g : ℕ) (old new : State) : Type 0 where
  pub task : Task
  pub rest : List Task
  pub symbol : ℕ
  pub flags : ℕ
  pub sets : SetsFlags task symbol flags
  pub begins : (old.groups g).hand ≡ task ∷ rest
  pub turns : Turns (left_of graph (old.words symbol) task ++ rest) (old.groups g) (new.groups g)
  pub word : new.words symbol ≡ bit_or (old.words symbol) flags
  pub words : SameBut symbol old.words new.words
  pub groups : SameBut g old.groups new.groups
  pub slots : Same old.slots new.slots

-- a task that puts an item down: a request, or a reference that exports its symbol
abbrev pub PutsDown : Graph → Task → Item → Type 0
PutsDown graph (Request x) y = x ≡ y
PutsDown graph (Refer s flags) y = (flags ≡ graph.export_flags) × (Export s ≡ y)
PutsDown graph (Mark s flags) y = ⊥

-- an item is handed on to the slot of another group, the one that it belongs to
pub record HandsOn (graph : Graph) (g : ℕ) (x : Item) (rest : List Task) (old new : State) : Type 0 where
  pub other : home_of graph x ≢ g
  pub turns : Turns rest (old.groups g) (new.groups g)
  pub receives : Receives x (old.slots (home_of graph x)) (new.slots (home_of graph x))
  pub groups : SameBut g old.groups new.groups
  pub slots : SameBut (home_of graph x) old.slots new.slots
  pub words : Same old.words new.words

-- the first task in hand puts its item down: into the group's own list if it belongs there, else it is handed on
pub record Deposits (graph : Graph) (g : ℕ) (old new : State) : Type 0 where
  pub task : Task
  pub rest : List Task
  pub item : Item
  pub puts : PutsDown graph task item
  pub begins : (old.groups g).hand ≡ task ∷ rest
  pub goes : ((home_of graph item ≡ g) × ChangesGroup g (Keeps item rest) old new) ⊎ HandsOn graph g item rest old new

-- an activated group with nothing left to do parks, or goes on with what waits in its slot
pub record Rests (g : ℕ) (old new : State) : Type 0 where
  pub active : (old.groups g).active ≡ true
  pub hand : (old.groups g).hand ≡ []
  pub items : (old.groups g).items ≡ []
  pub groups : SameBut g old.groups new.groups
  pub slots : SameBut g old.slots new.slots
  pub words : Same old.words new.words
  pub goes : ((new.groups g ≡ old.groups g) × Parks (old.slots g) (new.slots g))
      ⊎ (SameButItems (old.groups g) (new.groups g) × Swaps (old.groups g).items (new.groups g).items (old.slots g) (new.slots g))

-- what a step does
abbrev pub Does : Graph → Step → State → State → Type 0
Does graph (Activate g) old new = (g < graph.groups) × ChangesGroup g (Activates graph g) old new
Does graph (Take g) old new = ChangesGroup g (Takes graph) old new
Does graph (Or g) old new = Joins graph g old new
Does graph (Deposit g) old new = Deposits graph g old new
Does graph (ParkOrSwap g) old new = Rests g old new
Does graph (Drop g) old new = ChangesGroup g Drops old new

-- some steps, the last one first, lead from the start to a state
unfoldable pub LeadTo : Graph → List Step → State → Type 0
LeadTo graph [] st = IsStart graph st
LeadTo graph (step ∷ steps) st = (before : State) × LeadTo graph steps before × Does graph step before st
