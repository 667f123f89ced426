-- Laws of the definition of placement: parts take their bytes in the file, sections overflow by their parts, and load addresses go by what stands.
use Rattle.std.specs.Prelude.{◌≡◌, ◌<◌, ◌↔◌, ℕ, ◌+◌, List, None, Some, length, slice_get, if◌then◌else◌}
use Rattle.lk_link.specs.declared.plan.OrderEvent.TheVariants.{Section}
use Rattle.lk_link.specs.Parts.{all_parts}
use Rattle.lk_link.specs.PlanSections.{is_file_backed, section_at}
use Rattle.lk_place.specs.declared.cursors.Cursors.{Cursors}
use Rattle.lk_place.specs.PlacedBefore.{standing_before}
use Rattle.lk_place.specs.Placement.{IsPlaced, load_by, load_given, placement_refusal, section_overflow}
use Rattle.lk_place.specs.CarriedOut.{PlacesSection}
use Rattle.lk_expressions.specs.Records.{Fits, Record, record_at}
use Rattle.lk_place.specs.Setting.{IsReady, Setting, part_count, part_number, size_at}

-- where nothing is refused, the record of each part takes exactly its bytes in the file, where the section's stand there, else none
abbrev pub PartsTakeFileBytes : Type 0
PartsTakeFileBytes = (setting : Setting) (states : List Cursors) (records : List Record) → IsReady setting
    → IsPlaced setting states records → placement_refusal setting states records ≡ None
    → (s j : ℕ) → s < length setting.plan.sections → j < part_count setting.plan.sections s
    → (record_at records (part_number setting.plan.sections s j)).file_size
    ≡ (if is_file_backed setting.plan s then size_at setting.sizes (part_number setting.plan.sections s j) else 0)

-- a section whose parts are placed from the cursors on overflows there exactly where one of them ends past 2^64 - 1
abbrev pub RefusedExactlyPast : Type 0
RefusedExactlyPast = (setting : Setting) (s : ℕ) (from : Cursors) (records : List Record) (to : Cursors)
    → IsReady setting → s < length setting.plan.sections → PlacesSection setting s from records to
    → (section_overflow setting s from ≡ None) ↔ ((j : ℕ) → j < part_count setting.plan.sections s
    → Fits (record_at records (part_number setting.plan.sections s j)))

-- a section that event k places is loaded from the value of its expression by all that stands behind that event, the section itself with
-- it, and by the cursors there
abbrev pub LoadsGoByWhatStands : Type 0
LoadsGoByWhatStands = (setting : Setting) (k s : ℕ) (from to : Cursors) (records : List Record) → IsReady setting
    → length records ≡ length (all_parts setting.plan.sections) → slice_get setting.plan.events k ≡ Some (Section s) → PlacesSection setting s from records to
    → load_given setting (standing_before setting.plan records k) s from
    ≡ load_by setting s (standing_before setting.plan records (k + 1)) to (section_at setting.plan.sections s).at
