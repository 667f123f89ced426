-- What thread-local sections do to memory: behind zero-fill ones it goes on where it stood before them, and each run of thread-local
-- ones begins at the greatest alignment of all.
use Rattle.std.specs.Prelude.{ℕ, ◌+◌, ◌-◌, ◌&&◌, not, Bool, false, if◌then◌else◌, Option, Some, None, Result, Ok, unwrap_or}
use Rattle.std.specs.Int.{next_multiple_of}
use Rattle.std.specs.Option.{option_map_or}
use Rattle.lk_link.specs.declared.plan.Plan.{Plan}
use Rattle.lk_link.specs.OutputKinds.{is_partial}
use Rattle.lk_link.specs.PlanSections.{is_file_backed, is_thread_local, is_zero_fill_thread_local}
use Rattle.lk_place.specs.declared.cursors.Cursors.{Cursors}
use Rattle.lk_place.specs.declared.error.Refusal.{Refusal}
use Rattle.lk_place.specs.Alignments.{thread_local_alignment}
use Rattle.lk_place.specs.Locations.{within_64}
use Rattle.lk_place.specs.Setting.{Setting}

-- ---- what is saved

-- where memory goes on for what takes addresses: where it was saved, else where the cursor stands
abbrev pub free_memory : Cursors → ℕ
free_memory c = unwrap_or c.saved c.memory

-- behind zero-fill thread-local data memory goes on where it stood before: a section of it saves memory, if nothing is saved
abbrev pub saving : Cursors → Cursors
saving from = record from { saved = Some (free_memory from) }

-- any other section goes on where memory was saved, and clears that; so does a load segment that opens
abbrev pub restoring : Cursors → Cursors
restoring from = record from { memory = free_memory from; saved = None }

abbrev pub saved_or_restored : Plan → ℕ → Cursors → Cursors
saved_or_restored plan s from = if is_zero_fill_thread_local plan s then saving from else restoring from

-- ---- runs

-- a run of thread-local sections goes on: the one that was placed last is thread-local, if there is one
abbrev pub is_in_run : Plan → Option ℕ → Bool
is_in_run plan last = option_map_or (is_thread_local plan) last false

-- a section begins a run: it is thread-local, and none goes on; in partial output none begins
abbrev pub begins_run : Setting → Bool → ℕ → Bool
begins_run setting in_run s = is_thread_local setting.plan s && not in_run && not (is_partial setting.output)

-- memory is rounded up, and the file grows by as much where the section takes bytes of it
abbrev pub padded : Bool → ℕ → Cursors → Cursors
padded backed a from =
    let memory = next_multiple_of from.memory a in
    record from { file = if backed then from.file + (memory - from.memory) else from.file; memory = memory }

-- the first section of a run begins at the greatest alignment of all thread-local sections, but where it took a location
abbrev pub run_begun : Setting → Bool → ℕ → Bool → Cursors → Result Cursors Refusal
run_begun setting in_run s took from =
    let alignment = thread_local_alignment setting.plan setting.sizes in
    if begins_run setting in_run s && not took then within_64 (padded (is_file_backed setting.plan s) alignment from) else Ok from
