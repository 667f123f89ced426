-- What waits to be loaded, and what the loading of a symbol adds to it.
use Rattle.std.specs.Prelude.{ℕ, ◌==◌, if◌then◌else◌, List, Option, Some, None}
use Rattle.std.specs.List.{filter_map}
use Rattle.lk_link.specs.declared.flags.TheConstants.ValueFlags as flag
use Rattle.lk_link.specs.declared.flags.ValueFlags.{ValueFlags}
use Rattle.lk_reach.specs.declared.units.Ask.{Ask}
use Rattle.lk_reach.specs.declared.units.Ask.TheVariants.{Reference, Section, Mark}
use Rattle.lk_workers.specs.declared.work.WorkItem.{WorkItem}
use Rattle.lk_workers.specs.declared.work.WorkItem.TheVariants.{LoadGlobalSymbol, LoadGcUnit, ExportDynamic}

-- what waits for a symbol that is referred to with these flags: that it is exported, else that it is loaded
abbrev pub symbol_item : ℕ → ValueFlags → WorkItem
symbol_item s flags = if flags.0 == flag.EXPORT_DYNAMIC.0 then ExportDynamic s else LoadGlobalSymbol s

-- what waits for an ask; a mark loads nothing
abbrev pub item_of : Ask → Option WorkItem
item_of (Reference s flags) = Some (symbol_item s flags)
item_of (Section id i) = Some (LoadGcUnit (record { file_id = id; gc_unit = i }))
item_of (Mark s flags) = None

-- the same for asks, in order
abbrev pub items_of : List Ask → List WorkItem
items_of asks = filter_map item_of asks
