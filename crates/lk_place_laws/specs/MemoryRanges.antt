-- The ranges of memory that parts take.
use Rattle.std.specs.Prelude.{◌≡◌, ◌≢◌, ℕ, ◌<◌, ◌≤◌, true, List}
use Rattle.lk_link.specs.declared.plan.Plan.{Plan}
use Rattle.lk_link.specs.PlanSections.{has_memory}
use Rattle.lk_expressions.specs.Records.{Record, mem_end, record_at}
use Rattle.lk_place.specs.Ranges.{HasPart}

-- part p is one of a section that takes addresses
pub record TakesMemory (plan : Plan) (p : ℕ) : Type 0 where
  pub section : ℕ
  pub part : HasPart plan section p
  pub memory : has_memory plan section ≡ true

-- an address lies in the memory of a record
pub record IsInMemory (address : ℕ) (r : Record) : Type 0 where
  pub begins : r.mem_offset ≤ address
  pub ends : address < mem_end r

-- no two parts of sections that take addresses share one
abbrev pub MemoryIsDisjoint : Plan → List Record → Type 0
MemoryIsDisjoint plan records = (p q address : ℕ) → p ≢ q → TakesMemory plan p → TakesMemory plan q
    → IsInMemory address (record_at records p) → IsInMemory address (record_at records q) → ⊥
