-- Sorted sections as they are told: each with its part, and the bytes that it takes there.
use Rattle.std.specs.Prelude.{◌≡◌, ℕ, ◌^◌, ◌<◌, List, Some, map, slice_get, slice_index}
use Rattle.lk_link.specs.declared.link.LinkInput.{LinkInput}
use Rattle.lk_link.specs.Inputs.{Input, input_number}
use Rattle.lk_link.specs.Parts.{part_at}
use Rattle.lk_link.specs.Sizes.{capacity}
use Rattle.lk_live.specs.declared.live.Live.{Live}
use Rattle.lk_sizes.specs.declared.sorted.InputSortedSection.{InputSortedSection}
use Rattle.lk_sizes.specs.Sorted.{sorted_inputs}

-- the bytes that an input section takes in its part, by the sizes of all input sections
abbrev pub capacity_by : LinkInput → List ℕ → Input → ℕ
capacity_by link sizes x =
    capacity (part_at link.plan.sections x.section.part) (slice_index sizes (input_number link.groups x.file x.index))

-- a section with its part, what it takes there, and the part's alignment
abbrev pub sorted_section : LinkInput → List ℕ → Input → InputSortedSection
sorted_section link sizes x = record {
  file_id = x.file;
  section_index = x.index;
  part_id = x.section.part;
  size = capacity_by link sizes x;
  alignment = (part_at link.plan.sections x.section.part).alignment;
}

-- the live sorted sections so, in the order in which they stand in their parts (libwild: `harvest_and_sort_script_sections`)
abbrev pub sorted_sections : LinkInput → Live → List ℕ → List InputSortedSection
sorted_sections link live sizes = map (sorted_section link sizes) (sorted_inputs link live)

-- what each of them takes fits in 64 bits
abbrev pub SortedFit : LinkInput → Live → List ℕ → Type 0
SortedFit link live sizes = (k : ℕ) (x : Input) → slice_get (sorted_inputs link live) k ≡ Some x → capacity_by link sizes x < 2 ^ 64
