-- Parts of a section that follow each other in the file.
use Rattle.std.specs.Prelude.{ℕ, ◌+◌, List, take, sum_by}
use Rattle.lk_expressions.specs.Records.{Record, record_at}

-- the record of part p of a section whose parts follow each other in the file from this start on: it stands behind those before it
abbrev pub ran_on : ℕ → List Record → ℕ → Record
ran_on start parts p = record (record_at parts p) { file_offset = start + sum_by (λ r. r.file_size) (take p parts) }
