-- What became of the input sections of a file.
use Rattle.std.specs.Prelude.{ℕ, Bool, List, Option, option_and_then, option_map, slice_get}
use Rattle.lk_link.specs.declared.link.LinkInput.{LinkInput}
use Rattle.lk_link.specs.declared.section.InputSection.{InputSection}
use Rattle.lk_link.specs.declared.section.SectionSlot.{SectionSlot}
use Rattle.lk_link.specs.Marks.{is_marked}
use Rattle.lk_live.specs.Slots.{sized_slot}
use Rattle.lk_deltas.specs.DeltaMaps.{deltas_at}
use Rattle.lk_deltas.specs.Deletions.{mapped_by}

-- a file's sections, whether each is live, and what is deleted of each by its index, if anything is told of that
pub record SlotsRecord : Type 0 where
  pub link : LinkInput
  pub sections : List InputSection
  pub marks : List Bool
  pub deleted : Option (List (ℕ × List (ℕ × ℕ)))

-- how long a section with this index is, of this size, without what is deleted of it
abbrev pub size_left : SlotsRecord → ℕ → ℕ → ℕ
size_left slots index size = mapped_by (option_and_then (λ entries. deltas_at entries index) slots.deleted) size

-- what became of the section with this index, if there is one
abbrev pub slot_left : SlotsRecord → ℕ → Option SectionSlot
slot_left slots index = option_map (λ s. sized_slot slots.link (is_marked slots.marks index) s (size_left slots index s.size)) (slice_get slots.sections index)
