-- The ranges of the file that parts take.
use Rattle.std.specs.Prelude.{◌≢◌, ℕ, ◌+◌, ◌<◌, ◌≤◌, List}
use Rattle.lk_link.specs.declared.plan.Plan.{Plan}
use Rattle.lk_link.specs.Parts.{first_part}
use Rattle.lk_expressions.specs.Records.{Record, file_end, record_at}

-- part p is one of section s
pub record HasPart (plan : Plan) (s p : ℕ) : Type 0 where
  pub from : first_part plan.sections s ≤ p
  pub below : p < first_part plan.sections (s + 1)

-- an offset of the file lies in the range of a record
pub record IsInFile (offset : ℕ) (r : Record) : Type 0 where
  pub begins : r.file_offset ≤ offset
  pub ends : offset < file_end r

-- no two parts share a byte of the file, by the records of all
abbrev pub FileIsDisjoint : List Record → Type 0
FileIsDisjoint records = (p q offset : ℕ) → p ≢ q → IsInFile offset (record_at records p) → IsInFile offset (record_at records q) → ⊥
