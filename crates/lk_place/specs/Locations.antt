-- Moves of the location, and the section or the segment that takes one.
use Rattle.std.specs.Prelude.{ℕ, ◌+◌, ◌-◌, ◌^◌, ◌&&◌, not, Bool, if◌then◌else◌, is_some, nat_lt, Option, Some, None, Result, Ok, Err}
use Rattle.lk_link.specs.declared.plan.Plan.{Plan}
use Rattle.lk_link.specs.Alignments.{next_congruent}
use Rattle.lk_link.specs.PlanSections.{is_allocated, is_file_backed, section_at}
use Rattle.lk_place.specs.declared.cursors.Cursors.{Cursors}
use Rattle.lk_place.specs.declared.error.Refusal.{Refusal}
use Rattle.lk_place.specs.declared.error.Refusal.TheVariants.{Backwards, Overflow}
use Rattle.lk_expressions.specs.Records.{Record}

-- cursors, unless one is past 2^64 - 1
abbrev pub within_64 : Cursors → Result Cursors Refusal
within_64 c = if nat_lt c.file (2 ^ 64) && nat_lt c.memory (2 ^ 64) then Ok c else Err Overflow

-- ---- events that move the location

-- a location that waits for a section
abbrev pub awaiting : Cursors → Result ℕ Refusal → Result Cursors Refusal
awaiting from (Ok l) = Ok (record from { pending = Some l })
awaiting from (Err refusal) = Err refusal

-- a location that isn't to be before the start of what is placed, if it is placed
abbrev pub behind_start : Option Record → Result ℕ Refusal → Result ℕ Refusal
behind_start None l = l
behind_start (Some r) (Err refusal) = Err refusal
behind_start (Some r) (Ok l) = if nat_lt l r.mem_offset then Err (Backwards r.mem_offset l) else Ok l

-- ---- a load segment opens behind a location

-- memory becomes the location, and the file goes on at the least offset that is congruent to it; the location goes on waiting
abbrev pub opened_at : ℕ → Cursors → ℕ → Result Cursors Refusal
opened_at a from l = within_64 (record from { file = next_congruent a l from.file; memory = l })

-- ---- a section takes a location

-- whether a section is secondary, and stays on top of its primary in the file
abbrev pub stays_on_top : Plan → ℕ → Bool
stays_on_top plan s = is_some (section_at plan.sections s).primary && (section_at plan.sections s).top

-- whether the file moves along: of an allocated section with bytes in the file, unless it stays on top
abbrev pub moves_file : Plan → ℕ → Bool
moves_file plan s = not (stays_on_top plan s) && is_allocated plan s && is_file_backed plan s

-- the file moves as far as memory does, which isn't to go back then
abbrev pub moved_along : Cursors → ℕ → Result Cursors Refusal
moved_along from l = if nat_lt l from.memory then Err (Backwards from.memory l) else within_64 (record from { file = from.file + (l - from.memory); memory = l; pending = None })

-- a section takes the location that waits, if one does
abbrev pub taken : Plan → ℕ → Cursors → Option ℕ → Result Cursors Refusal
taken plan s from None = Ok from
taken plan s from (Some l) = if moves_file plan s then moved_along from l else Ok (record from { memory = l; pending = None })
