-- Words of private contracts: the least start of thread-local data so far.
use Rattle.std.specs.Prelude.{ℕ, if◌then◌else◌, Option, Some, min}
use Rattle.std.specs.Option.{option_map_or}
use Rattle.lk_link.specs.declared.plan.attributes.TheConstants.{TLS}
use Rattle.lk_link.specs.PlanSections.{is_set}
use Rattle.lk_expressions.specs.Records.{Record}

-- the lesser of a start and that of a section, by its attributes and its record, if it has thread-local data
abbrev pub with_start : Option ℕ → ℕ → Record → Option ℕ
with_start so_far attributes r =
    if is_set TLS attributes then Some (option_map_or (λ n. min n r.mem_offset) so_far r.mem_offset) else so_far
