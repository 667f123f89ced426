-- The first named part at which the rule on named parts is broken, by its place among them.
use Rattle.std.specs.Prelude.{ℕ, Option}
use Rattle.lk_link.specs.declared.link.LinkInput.{LinkInput}
use Rattle.lk_link.specs.declared.plan.Plan.{Plan}
use Rattle.lk_link.specs.Files.{first_some}
use Rattle.lk_link.specs.PartFieldRules.{is_good_table, has_good_comment, has_good_primary}
use Rattle.lk_link.specs.PartRules.{table_parts}
use Rattle.lk_check.specs.FirstAnswer.{first_bad_at, where_not}

-- the first table part that isn't good, by its place among them
abbrev pub first_bad_table : Plan → Option ℕ
first_bad_table plan = first_bad_at (is_good_table plan) (table_parts plan.named)

-- behind the table parts, 0 to 10, stand the comment's part and the primary part
abbrev pub first_bad_part_field : LinkInput → Option ℕ
first_bad_part_field link =
    first_some (first_bad_table link.plan) (first_some (where_not (has_good_comment link.plan) 11) (where_not (has_good_primary link) 12))
