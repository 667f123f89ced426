-- The state of a group: its own items, and what of its units is done.
use Rattle.std.specs.Prelude.{◌≡◌, ℕ, ◌+◌, ◌-◌, ◌==◌, ◌&&◌, ◌||◌, not, Bool, true, false, if◌then◌else◌, List, length, nat_lt}
use Rattle.lk_flags.specs.Lists.{Lists}
use Rattle.lk_link.specs.declared.file.InputFile.{InputFile}
use Rattle.lk_link.specs.Marks.{is_marked}
use Rattle.lk_reach.specs.Marks.{IsMarked, unit_at}
use Rattle.lk_slot_link.specs.LinkGraphs.{unit_group}
use Rattle.lk_slots.specs.Machine.{Group, Task}
use Rattle.lk_workers.specs.declared.work.WorkItem.{WorkItem}
use Rattle.lk_workers.specs.Items.{machine_items}

-- marks of numbers that follow each other, from the first on
pub record Ranged : Type 0 where
  pub first : ℕ
  pub marks : List Bool

-- whether a number has a mark
abbrev pub is_in : Ranged → ℕ → Bool
is_in r n = if nat_lt n r.first then false else is_marked r.marks (n - r.first)

-- whether there is a mark for a number
abbrev pub has_number : Ranged → ℕ → Bool
has_number r n = not (nat_lt n r.first) && nat_lt n (r.first + length r.marks)

-- what a state shows: its group, whether that is activated, its own items, which of its symbols and sections are done, and the items
-- that its steps noted as left for other groups
pub record StateValue : Type 0 where
  pub group : ℕ
  pub active : Bool
  pub items : List WorkItem
  pub symbols : Ranged
  pub sections : Ranged
  pub sent : List WorkItem

-- whether a unit is done, by its number
abbrev pub is_done : StateValue → ℕ → Bool
is_done v n = is_in v.symbols n || is_in v.sections n

-- what is done is reached, and the group's own
abbrev pub AreDone : Lists → ℕ → Ranged → Type 0
AreDone l g r = (n : ℕ) → is_in r n ≡ true → IsMarked l.units n × (unit_group l.groups (unit_at l.groups n) ≡ g)

-- the machine's group, with these tasks in hand
abbrev pub group_of : List (List InputFile) → List Task → StateValue → Group
group_of groups hand v = record { active = v.active; hand = hand; items = machine_items groups v.items; done = is_done v }

-- the same state with other items
abbrev pub with_items : StateValue → List WorkItem → StateValue
with_items v items = record { group = v.group; active = v.active; items = items; symbols = v.symbols; sections = v.sections; sent = v.sent }

-- the same state, which left other items
abbrev pub with_sent : StateValue → List WorkItem → StateValue
with_sent v items = record { group = v.group; active = v.active; items = v.items; symbols = v.symbols; sections = v.sections; sent = items }

-- the same state, activated
abbrev pub activated : StateValue → StateValue
activated v = record { group = v.group; active = true; items = v.items; symbols = v.symbols; sections = v.sections; sent = v.sent }

-- one number more has a mark
abbrev pub MarksOne : Ranged → ℕ → Ranged → Type 0
MarksOne old n new = (u : ℕ) → is_in new u ≡ is_in old u || (u == n)

-- there are marks for the same numbers
abbrev pub HasSameNumbers : Ranged → Ranged → Type 0
HasSameNumbers old new = (new.first ≡ old.first) × (length new.marks ≡ length old.marks)

-- one unit more is done, there are marks for the same numbers, and else all is as it was
pub record DoesOne (old : StateValue) (n : ℕ) (new : StateValue) : Type 0 where
  pub group : new.group ≡ old.group
  pub active : new.active ≡ old.active
  pub items : new.items ≡ old.items
  pub sent : new.sent ≡ old.sent
  pub symbols : HasSameNumbers old.symbols new.symbols
  pub sections : HasSameNumbers old.sections new.sections
  pub done : (u : ℕ) → is_done new u ≡ is_done old u || (u == n)
