-- The bytes that sections take in parts.
use Rattle.std.specs.Prelude.{ℕ, if◌then◌else◌}
use Rattle.std.specs.Int.{next_multiple_of}
use Rattle.lk_link.specs.declared.plan.PlanPart.{PlanPart}

-- the bytes that a size takes in a part (libwild: `Section::capacity`)
abbrev pub capacity : PlanPart → ℕ → ℕ
capacity part size = if part.packed then size else next_multiple_of size part.alignment
