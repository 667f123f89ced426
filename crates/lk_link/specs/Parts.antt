-- The parts of output sections, numbered over all sections in order.
use Rattle.std.specs.Prelude.{◌≡◌, ℕ, ◌+◌, ◌≤◌, List, length, map, take, false, slice_index}
use Rattle.std.specs.List.{enumerate_from, flat_map, slice_index_or}
use Rattle.lk_link.specs.declared.plan.PlanPart.{PlanPart}
use Rattle.lk_link.specs.declared.plan.PlanSection.{PlanSection}

-- all parts, in order
abbrev pub all_parts : List PlanSection → List PlanPart
all_parts sections = flat_map (λ s. s.parts) sections

-- the part with this number; one of alignment 1 where there is none
abbrev pub part_at : List PlanSection → ℕ → PlanPart
part_at sections p = slice_index_or (all_parts sections) p (record { alignment = 1; packed = false })

-- how many parts stand before a section: the number of its first part
abbrev pub first_part : List PlanSection → ℕ → ℕ
first_part sections k = length (all_parts (take k sections))

-- the output section of each part, by the part's number: each section's number, once for each of its parts
abbrev pub part_sections : List PlanSection → List ℕ
part_sections sections = flat_map (λ q. map (λ p. q.0) q.1.parts) (enumerate_from 0 sections)

-- parts and starts are the index of the sections
pub record IsIndexed (sections : List PlanSection) (parts : List PlanPart) (starts : List ℕ) : Type 0 where
  pub all : parts ≡ all_parts sections
  pub count : length starts ≡ length sections + 1
  pub each : (k : ℕ) → k ≤ length sections → slice_index starts k ≡ first_part sections k
