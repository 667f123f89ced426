use Rattle.std.proofs.Common.{◌≡◌, sum_by, take}
use Rattle.std.specs.List.{zip}
use Rattle.lk_link.specs.PartRules.{table_parts}
use Rattle.lk_tables.specs.HeaderParts.{told_sum}
use Rattle.lk_tables.specs.TotalSteps.{all_totals, bytes_if}
use Rattle.lk_tables.proofs.totals.bytes_in_part.Given as goal

-- those of the tables so far
abbrev pub invariant-loop-table : goal.invariant-loop-table
invariant-loop-table l = l.sum ≡ told_sum (sum_by (bytes_if l.part) (take l.table (zip (table_parts l.named) (all_totals l.totals))))
