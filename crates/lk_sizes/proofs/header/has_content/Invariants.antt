use Rattle.std.proofs.Common.{◌≡◌, ◌-◌, ◌≤◌, false}
use Rattle.std.specs.Prelude.{not}
use Rattle.std.specs.List.{list_any, range_with_len}
use Rattle.lk_link.specs.PartRules.{is_table_part}
use Rattle.lk_sizes.proofs.header.has_content.Given as goal

-- the parts so far are tables
abbrev pub invariant-loop-part : goal.invariant-loop-part
invariant-loop-part l =
    (l.first ≤ l.part) × (list_any (λ p. not (is_table_part l.plan.named p)) (range_with_len l.first (l.part - l.first)) ≡ false)
