-- Items that go from group to group, and what is known of them.
use Rattle.std.specs.Prelude.{◌≡◌, ℕ, Bool, List, All, Some, map, slice_index}
use Rattle.lk_link.specs.declared.file.InputFile.{InputFile}
use Rattle.lk_link.specs.declared.flags.TheConstants.ValueFlags as flag
use Rattle.lk_flags.specs.Flags.{Within}
use Rattle.lk_flags.specs.Lists.{Lists}
use Rattle.lk_reach.specs.declared.units.Unit.{Unit as LinkUnit}
use Rattle.lk_reach.specs.declared.units.Unit.TheVariants.{Sec, Sym}
use Rattle.lk_reach.specs.Marks.{IsMarked, IsUnit, unit_number, word_of}
use Rattle.lk_slot_link.specs.LinkGraphs.{unit_group}
use Rattle.lk_slots.specs.Machine.{Export, Item, Load, Slot}
use Rattle.lk_workers.specs.declared.work.WorkItem.{WorkItem}
use Rattle.lk_workers.specs.declared.work.WorkItem.TheVariants.{ExportDynamic, LoadGcUnit, LoadGlobalSymbol}

-- the unit of an item
abbrev pub unit_of : WorkItem → LinkUnit
unit_of (LoadGlobalSymbol s) = Sym s
unit_of (LoadGcUnit r) = Sec r.file_id r.gc_unit
unit_of (ExportDynamic s) = Sym s

-- an item of the machine, by its number
abbrev pub machine_item : List (List InputFile) → WorkItem → Item
machine_item groups (LoadGlobalSymbol s) = Load s
machine_item groups (LoadGcUnit r) = Load (unit_number groups (Sec r.file_id r.gc_unit))
machine_item groups (ExportDynamic s) = Export s

abbrev pub machine_items : List (List InputFile) → List WorkItem → List Item
machine_items groups items = map (machine_item groups) items

-- an item that exports a symbol does so only where the symbol's flags have that
abbrev pub MayExport : Lists → WorkItem → Type 0
MayExport l (LoadGlobalSymbol s) = Unit {0}
MayExport l (LoadGcUnit r) = Unit {0}
MayExport l (ExportDynamic s) = Within flag.EXPORT_DYNAMIC.0 (slice_index l.words (word_of s))

-- an item that there is reason for: its unit is one of the link's and reached
pub record IsMeant (l : Lists) (item : WorkItem) : Type 0 where
  pub there : IsUnit l.groups (unit_of item)
  pub reached : IsMarked l.units (unit_number l.groups (unit_of item))
  pub exported : MayExport l item

-- an item of a group that there is reason for
pub record IsOwn (l : Lists) (g : ℕ) (item : WorkItem) : Type 0 where
  pub meant : IsMeant l item
  pub own : unit_group l.groups (Some (unit_of item)) ≡ g

abbrev pub AreOwn : Lists → ℕ → List WorkItem → Type 0
AreOwn l g items = All (IsOwn l g) items

-- what a slot shows: its group, whether that is parked, and what was left for it
pub record SlotValue : Type 0 where
  pub group : ℕ
  pub parked : Bool
  pub work : List WorkItem

-- the machine's slot
abbrev pub slot_of : List (List InputFile) → SlotValue → Slot
slot_of groups v = record { parked = v.parked; inbox = machine_items groups v.work }
