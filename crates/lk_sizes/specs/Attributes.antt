-- The attributes that output sections have in the output.
use Rattle.std.specs.Prelude.{ℕ, ◌+◌, ◌-◌, if◌then◌else◌, List, bit_or, fold, map}
use Rattle.std.specs.List.{enumerate_from, range_with_len}
use Rattle.lk_link.specs.declared.link.LinkInput.{LinkInput}
use Rattle.lk_link.specs.declared.plan.PlanSection.{PlanSection}
use Rattle.lk_link.specs.Parts.{first_part}
use Rattle.lk_link.specs.PlanSections.{is_singletons, own_attributes}
use Rattle.lk_live.specs.declared.live.Live.{Live}
use Rattle.lk_sizes.specs.Kept.{kept_inputs}
use Rattle.lk_sizes.specs.Owners.{into}

-- the numbers of a section's parts
abbrev pub parts_of : List PlanSection → ℕ → List ℕ
parts_of sections s = range_with_len (first_part sections s) (first_part sections (s + 1) - first_part sections s)

-- the attributes of the live and merged sections that go to a part, together
abbrev pub part_attributes : LinkInput → Live → ℕ → ℕ
part_attributes link live p = fold bit_or 0 (map (λ x. x.section.attrs) (into p (kept_inputs link live)))

-- an output section has the attributes that the plan gives it, and those of the live and merged sections that go to its parts; the
-- section of singletons has none (libwild: `propagate_section_attributes`)
abbrev pub section_attributes : LinkInput → Live → ℕ → ℕ
section_attributes link live s =
    if is_singletons link.plan s then 0
    else fold bit_or (own_attributes link.plan s) (map (part_attributes link live) (parts_of link.plan.sections s))

-- what is made for each output section by its number
abbrev pub by_section : {X : Type 0} → (ℕ → X) → LinkInput → List X
by_section f link = map (λ q. f q.0) (enumerate_from 0 link.plan.sections)

-- the attributes of all output sections
abbrev pub all_section_attributes : LinkInput → Live → List ℕ
all_section_attributes link live = by_section (section_attributes link live) link
