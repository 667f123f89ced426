-- What becomes of input sections.
use Rattle.std.specs.Prelude.{ℕ, Bool, true, false, if◌then◌else◌, ◌&&◌, Option, option_and_then, option_map, slice_get}
use Rattle.lk_link.specs.declared.ids.FileId.{FileId}
use Rattle.lk_link.specs.declared.link.LinkInput.{LinkInput}
use Rattle.lk_link.specs.declared.section.InputSection.{InputSection}
use Rattle.lk_link.specs.declared.section.InputSlot.{InputSlot}
use Rattle.lk_link.specs.declared.section.InputSlot.TheVariants as slot
use Rattle.lk_link.specs.declared.section.Section.{Section}
use Rattle.lk_link.specs.declared.section.SectionSlot.{SectionSlot}
use Rattle.lk_link.specs.declared.section.SectionSlot.TheVariants as after
use Rattle.lk_link.specs.declared.section.UnloadedSection.{UnloadedSection}
use Rattle.lk_link.specs.Files.{file_in}
use Rattle.lk_link.specs.Inputs.{input_number}
use Rattle.lk_link.specs.Marks.{is_marked}
use Rattle.lk_link.specs.OutputKinds.{is_partial}
use Rattle.lk_link.specs.PartRules.{is_singleton_part}
use Rattle.lk_live.specs.declared.live.Live.{Live}

-- a section that is kept, and one that isn't kept yet
abbrev pub kept_section : InputSection → Section
kept_section s = record { size = s.size }

abbrev pub waiting_section : InputSection → UnloadedSection
waiting_section s = record { needs_sorting = s.sorted }

-- whether a section stays an output section of its own: in partial output one in the section of the singletons
abbrev pub is_singleton : LinkInput → InputSection → Bool
is_singleton link s = is_partial link.options.output && is_singleton_part link.plan s.part

-- what becomes of a section that is loaded for what it holds
abbrev pub loaded_slot : LinkInput → InputSection → SectionSlot
loaded_slot link s =
    if is_singleton link s then after.PartialLinkSingleton (kept_section s)
    else if s.sorted then after.Sorted (kept_section s)
    else after.Loaded (kept_section s)

-- what becomes of a section, which is live or isn't, by what the description says of it
abbrev pub slot_by : LinkInput → Bool → InputSection → InputSlot → SectionSlot
slot_by link live s slot.Discard = after.Discard
slot_by link live s slot.Merge = after.MergeStrings
slot_by link live s slot.Unloaded = if live then loaded_slot link s else after.Unloaded (waiting_section s)
slot_by link live s slot.MustLoad = if live then loaded_slot link s else after.MustLoad (waiting_section s)
slot_by link live s slot.DebugInfo = if live then after.LoadedDebugInfo (kept_section s) else after.UnloadedDebugInfo false
slot_by link live s slot.MustLoadDebugInfo = if live then after.LoadedDebugInfo (kept_section s) else after.UnloadedDebugInfo true

abbrev pub slot_after : LinkInput → Bool → InputSection → SectionSlot
slot_after link live s = slot_by link live s s.slot

-- so many bytes long
abbrev pub sized_slot : LinkInput → Bool → InputSection → ℕ → SectionSlot
sized_slot link live s size = slot_after link live (record s { size = size })

-- what becomes of the section of a file with an index, if there is one (libwild: `SectionSlot`)
abbrev pub live_slot : LinkInput → Live → FileId → ℕ → Option SectionSlot
live_slot link live id i =
    option_map (slot_after link (is_marked live.marks (input_number link.groups id i)))
    (option_and_then (λ f. slice_get f.sections i) (file_in link.groups id))
