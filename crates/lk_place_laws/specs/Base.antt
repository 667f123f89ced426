-- A law on where memory begins.
use Rattle.std.specs.Prelude.{◌≡◌, ℕ, ◌-◌, ◌<◌, ◌≤◌, ◌||◌, true}
use Rattle.lk_link.specs.declared.plan.Plan.{Plan}
use Rattle.lk_link.specs.Alignments.{IsGreatestMultiple}
use Rattle.lk_place.specs.Base.{memory_start}

-- where headers are to stand below the base and have room there, memory begins at the last page that leaves it to them
abbrev pub MemoryLeavesRoom : Type 0
MemoryLeavesRoom = (plan : Plan) (headers base : ℕ) → 0 < plan.page → (plan.custom_base || plan.phdrs_headers) ≡ true → headers ≤ base
    → IsGreatestMultiple plan.page (base - headers) (memory_start plan headers base)
