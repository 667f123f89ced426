-- Output sections that are moved in the file: what their records and those of their parts are then.
use Rattle.std.specs.Prelude.{◌≤◌, ◌<◌, ℕ, ◌+◌, ◌^◌, ◌++◌, List, [], ◌∷◌, None, Option, Some, drop, if◌then◌else◌, length, nat_lt, slice_set, sum_by, take}
use Rattle.lk_link.specs.declared.plan.PlanSection.{PlanSection}
use Rattle.lk_link.specs.Parts.{first_part}
use Rattle.lk_expressions.specs.Records.{Record, record_at}
use Rattle.lk_place.specs.Segments.{part_records}

-- the bytes of the file that these take together
abbrev pub file_bytes : List Record → ℕ
file_bytes records = sum_by (λ r. r.file_size) records

-- the same records one behind the other in the file, from this start on and without padding
abbrev pub run_on : ℕ → List Record → List Record
run_on start [] = []
run_on start (r ∷ rs) = record r { file_offset = start } ∷ run_on (start + r.file_size) rs

-- a record that starts here in the file, where it takes what these parts take
abbrev pub starting_at : ℕ → List Record → Record → Record
starting_at start parts r = record r { file_offset = start; file_size = file_bytes parts }

-- the records of all sections, where section s starts here
abbrev pub moved_sections : List PlanSection → List Record → List Record → ℕ → ℕ → List Record
moved_sections sections records parts s start =
    slice_set records s (starting_at start (part_records sections parts s) (record_at records s))

-- the records of all parts, where those of section s stand one behind the other from here on
abbrev pub moved_parts : List PlanSection → List Record → ℕ → ℕ → List Record
moved_parts sections parts s start =
    take (first_part sections s) parts ++ (run_on start (part_records sections parts s) ++ drop (first_part sections (s + 1)) parts)

-- where the parts of section s end then; none where the bytes of all sections wouldn't fit behind the start
abbrev pub moved_end : List PlanSection → List Record → List Record → ℕ → ℕ → Option ℕ
moved_end sections records parts s start =
    if nat_lt (start + file_bytes records) (2 ^ 64) then Some (start + file_bytes (part_records sections parts s)) else None

-- each section takes at least the bytes of the file that its parts take
abbrev pub AreHeld : List PlanSection → List Record → List Record → Type 0
AreHeld sections records parts = (s : ℕ) → s < length sections → file_bytes (part_records sections parts s) ≤ (record_at records s).file_size
