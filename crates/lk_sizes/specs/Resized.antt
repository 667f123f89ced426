-- What was found, where input sections have other sizes. Contracts of private functions speak of these.
use Rattle.std.specs.Prelude.{◌≡◌, ℕ, ◌-◌, ◌<◌, ◌≤◌, List, length, map, false, slice_index}
use Rattle.std.specs.List.{enumerate_from, slice_index_or}
use Rattle.lk_link.specs.declared.link.LinkInput.{LinkInput}
use Rattle.lk_link.specs.Inputs.{input_number}
use Rattle.lk_link.specs.Parts.{part_at}
use Rattle.lk_link.specs.Sizes.{capacity}
use Rattle.lk_sizes.specs.declared.owners.PartContents.{PartContents}
use Rattle.lk_sizes.specs.declared.owners.PartTotal.{PartTotal}
use Rattle.lk_sizes.specs.declared.sorted.InputSortedSection.{InputSortedSection}

-- the bytes of the total with a number
abbrev pub total_at : List PartTotal → ℕ → ℕ
total_at totals p = (slice_index_or totals p (record { bytes = 0; has_image = false; attrs = 0 })).bytes

-- by totals before and after, each part loses bytes that it has
pub record Fall (contents : List PartContents) (before after : List PartTotal) : Type 0 where
  pub count_before : length before ≡ length contents
  pub count_after : length after ≡ length contents
  pub falls : (p : ℕ) → p < length contents → total_at after p ≤ total_at before p
  pub has : (p : ℕ) (c : PartContents) → p < length contents → total_at before p ≤ (slice_index_or contents p c).bytes

-- what comes into the part with a number, less what is lost there
abbrev pub less_at : List PartTotal → List PartTotal → ℕ × PartContents → PartContents
less_at before after q = record q.1 { bytes = q.1.bytes - (total_at before q.0 - total_at after q.0) }

-- that of all parts
abbrev pub less_bytes : List PartTotal → List PartTotal → List PartContents → List PartContents
less_bytes before after contents = map (less_at before after) (enumerate_from 0 contents)

-- a sorted section with what it takes by some sizes of input sections
abbrev pub resized_section : LinkInput → List ℕ → InputSortedSection → InputSortedSection
resized_section link sizes s = record s {
  size = capacity (part_at link.plan.sections s.part_id) (slice_index sizes (input_number link.groups s.file_id s.section_index));
}

abbrev pub resized_sections : LinkInput → List ℕ → List InputSortedSection → List InputSortedSection
resized_sections link sizes ss = map (resized_section link sizes) ss
