use Rattle.std.proofs.Common.{◌≡◌, drop}
use Rattle.std.specs.List.{enumerate_from}
use Rattle.lk_link.specs.PartRules.{table_parts}
use Rattle.lk_check.specs.FirstAnswer.{first_of}
use Rattle.lk_check.proofs.TableLemmas.{bad_table}
use Rattle.lk_check.proofs.part_fields.bad_table.Given as goal

-- the table parts that are left have the first bad one of all
abbrev pub invariant-loop-place : goal.invariant-loop-place
invariant-loop-place l =
    first_of (bad_table l.plan) (enumerate_from l.place (drop l.place (table_parts l.plan.named)))
    ≡ first_of (bad_table l.plan) (enumerate_from 0 (table_parts l.plan.named))
