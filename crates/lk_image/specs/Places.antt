-- Where sections and merged data stand in the file.
use Rattle.std.specs.Prelude.{ℕ, ◌+◌, ◌==◌, ◌&&◌, Bool, false, List, None, Option, fold, if◌then◌else◌, map, max, option_map, position, slice_get, slice_index}
use Rattle.std.specs.Option.{option_map_or}
use Rattle.lk_link.specs.declared.link.LinkInput.{LinkInput}
use Rattle.lk_link.specs.declared.plan.Plan.{Plan}
use Rattle.lk_link.specs.declared.plan.PlanSection.{PlanSection}
use Rattle.lk_link.specs.Inputs.{Input}
use Rattle.lk_link.specs.Marks.{is_marked}
use Rattle.lk_link.specs.Parts.{first_part, part_sections}
use Rattle.lk_link.specs.PlanSections.{is_file_backed, section_at}
use Rattle.lk_expressions.specs.Records.{file_end}
use Rattle.lk_merge.specs.Addresses.{image_start}
use Rattle.lk_soundness.specs.FileBytes.{file_place}
use Rattle.lk_layout.specs.LayoutRecord.{LayoutRecord}
use Rattle.lk_soundness.specs.Sound.{part_record}

-- the image ends where the last output section ends in the file
unfoldable pub image_length : LayoutRecord → ℕ
image_length layout = fold max 0 (map file_end layout.section_layouts)

-- ---- live sections

-- whether the bytes of a part stand in the file
abbrev pub is_backed_part : Plan → ℕ → Bool
is_backed_part plan p = option_map_or (is_file_backed plan) (slice_get (part_sections plan.sections) p) false

-- whether an input section, with its number over all files, is live, and its bytes stand in the file
unfoldable pub is_in_file : LinkInput → LayoutRecord → ℕ × Input → Bool
is_in_file link layout q = is_marked layout.live_marks q.0 && is_backed_part link.plan q.1.section.part

-- where they do
unfoldable pub section_place : LinkInput → LayoutRecord → ℕ × Input → ℕ
section_place link layout q = file_place (part_record layout q.1.section.part) (slice_index layout.section_addresses q.0)

-- ---- merged data

-- the part of an output section where merged data stand: the one of alignment 1, if there is one
unfoldable pub merged_part : List PlanSection → ℕ → Option ℕ
merged_part sections s = option_map (λ k. first_part sections s + k) (position (λ p. p.alignment == 1) (section_at sections s).parts)

-- the same, if the section's bytes stand in the file
unfoldable pub merged_file_part : Plan → ℕ → Option ℕ
merged_file_part plan s = if is_file_backed plan s then merged_part plan.sections s else None

-- where they do in that part
unfoldable pub merged_place : LayoutRecord → ℕ → ℕ → ℕ
merged_place layout s p = file_place (part_record layout p) (image_start layout.merged_string_start_addresses s)
