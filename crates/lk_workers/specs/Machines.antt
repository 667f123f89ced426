-- A step of a group is, on the group's own side and by the words that its pass has as found, steps of the slot machine.
use Rattle.std.specs.Prelude.{◌≡◌, ◌≢◌, ◌⊎◌, ◌<◌, ℕ, zero, suc, List, [], ◌∷◌, ◌++◌, All, length, map}
use Rattle.lk_link.specs.declared.file.InputFile.{InputFile}
use Rattle.lk_link.specs.declared.link.LinkInput.{LinkInput}
use Rattle.lk_link.specs.WellFormed.{IsWellFormed}
use Rattle.lk_flags.specs.declared.flags.FlagSet.{FlagSet}
use Rattle.lk_reach.specs.declared.units.Ask.{Ask}
use Rattle.lk_reach.specs.Marks.{IsInside, IsUnit, word_of}
use Rattle.lk_slot_link.specs.LinkGraphs.{graph_of, task_of}
use Rattle.lk_slots.specs.Machine.{Activates, Drops, Graph, Group, Item, Keeps, PutsDown, SetsFlags, Takes, Task, Turns, home_of, left_of}
use Rattle.lk_workers.specs.Items.{machine_items, unit_of}
use Rattle.lk_workers.specs.States.{StateValue, group_of}
use Rattle.lk_workers.specs.Steps.{DoesAsks, IsStep, IsStepGivenUp}

-- what is seen of steps on a group's own side: the group, what its worker has set and found in words of flags, and what the group
-- has noted as left
pub record Side : Type 0 where
  pub group : Group
  pub sets : List FlagSet
  pub sent : List Item

-- the same of a state, with these tasks in hand
abbrev pub side_of : List (List InputFile) → List Task → StateValue → List FlagSet → Side
side_of groups hand v sets = record { group = group_of groups hand v; sets = sets; sent = machine_items groups v.sent }

-- the first task in hand sets its flags, and what is left of it, by the word that was found there, stays in hand
pub record TurnsFlags (graph : Graph) (old new : Side) : Type 0 where
  pub task : Task
  pub rest : List Task
  pub symbol : ℕ
  pub flags : ℕ
  pub found : ℕ
  pub does : SetsFlags task symbol flags
  pub begins : old.group.hand ≡ task ∷ rest
  pub sets : new.sets ≡ old.sets ++ record { word = word_of symbol; bits = flags; found = found } ∷ []
  pub sent : new.sent ≡ old.sent
  pub turns : Turns (left_of graph found task ++ rest) old.group new.group

-- the first task in hand puts its item down: into the group's own list if it belongs there, else it is noted as left, once
pub record TurnsItem (graph : Graph) (g : ℕ) (old new : Side) : Type 0 where
  pub task : Task
  pub rest : List Task
  pub item : Item
  pub puts : PutsDown graph task item
  pub begins : old.group.hand ≡ task ∷ rest
  pub sets : new.sets ≡ old.sets
  pub goes : ((home_of graph item ≡ g) × Keeps item rest old.group new.group × (new.sent ≡ old.sent))
      ⊎ ((home_of graph item ≢ g) × Turns rest old.group new.group × (new.sent ≡ old.sent ++ item ∷ []))

-- so many of the machine's steps with tasks in hand, on the group that they are of
unfoldable pub AreTurns : Graph → ℕ → ℕ → Side → Side → Type 0
AreTurns graph g zero old new = new ≡ old
AreTurns graph g (suc n) old new = (mid : Side) × (TurnsFlags graph old mid ⊎ TurnsItem graph g old mid) × AreTurns graph g n mid new

-- asks that are done one after the other are steps of the machine, in which the hand begins with their tasks and ends without them
abbrev pub AsksAreTurns : Type 0
AsksAreTurns = (link : LinkInput) (asks : List Ask) (rest : List Task) (old new : StateValue) (before after : List FlagSet) → All (IsInside link.groups) asks
    → DoesAsks link.groups asks old new before after
    → (n : ℕ) × AreTurns (graph_of link) old.group n (side_of link.groups (map (task_of link) asks ++ rest) old before) (side_of link.groups rest new after)

-- a step is one of the machine that gives a hand, and then others until nothing is in hand
pub record IsMachineStep (link : LinkInput) (old new : StateValue) (before after : List FlagSet) : Type 0 where
  pub start : Group
  pub begins : ((old.group < (graph_of link).groups) × Activates (graph_of link) old.group (group_of link.groups [] old) start)
      ⊎ Takes (graph_of link) (group_of link.groups [] old) start
  pub count : ℕ
  pub turns : AreTurns (graph_of link) old.group count (record { group = start; sets = before; sent = machine_items link.groups old.sent }) (side_of link.groups [] new after)

-- every step of a group of the link whose items are units of it
abbrev pub StepsAreMachineSteps : Type 0
StepsAreMachineSteps = (link : LinkInput) (old new : StateValue) (before after : List FlagSet) → IsWellFormed link → old.group < length link.groups
    → All (λ item. IsUnit link.groups (unit_of item)) old.items → IsStep link.groups link old new before after → IsMachineStep link old new before after

-- ---- a step that finds no memory

-- a task in hand is dropped
pub record DropsTask (old new : Side) : Type 0 where
  pub drops : Drops old.group new.group
  pub items : new.group.items ≡ old.group.items
  pub sets : new.sets ≡ old.sets
  pub sent : new.sent ≡ old.sent

-- so many tasks in hand are dropped
unfoldable pub AreDropped : ℕ → Side → Side → Type 0
AreDropped zero old new = new ≡ old
AreDropped (suc n) old new = (mid : Side) × DropsTask old mid × AreDropped n mid new

-- a step is one of the machine that gives a hand, or drops an item, and then others, until all that is still in hand is dropped
pub record IsMachineStepGivenUp (link : LinkInput) (old new : StateValue) (before after : List FlagSet) : Type 0 where
  pub start : Group
  pub begins : ((old.group < (graph_of link).groups) × Activates (graph_of link) old.group (group_of link.groups [] old) start)
      ⊎ Takes (graph_of link) (group_of link.groups [] old) start ⊎ Drops (group_of link.groups [] old) start
  pub mid : Side
  pub count : ℕ
  pub turns : AreTurns (graph_of link) old.group count (record { group = start; sets = before; sent = machine_items link.groups old.sent }) mid
  pub gone : ℕ
  pub drops : AreDropped gone mid (side_of link.groups [] new after)

-- every step without memory of a group of the link whose items are units of it
abbrev pub StepsGivenUpAreMachineSteps : Type 0
StepsGivenUpAreMachineSteps = (link : LinkInput) (old new : StateValue) (before after : List FlagSet) → IsWellFormed link → old.group < length link.groups
    → All (λ item. IsUnit link.groups (unit_of item)) old.items → IsStepGivenUp link.groups link old new before after → IsMachineStepGivenUp link old new before after
