-- The first expression at which the rule on expressions is broken: those of the plan, and then those of symbols.
use Rattle.std.specs.Prelude.{ℕ, Option, option_map}
use Rattle.lk_link.specs.declared.fault.Place.{Place}
use Rattle.lk_link.specs.declared.fault.Place.TheVariants as place
use Rattle.lk_link.specs.declared.ids.FileId.{FileId}
use Rattle.lk_link.specs.declared.link.LinkInput.{LinkInput}
use Rattle.lk_link.specs.ExpressionRules.{is_good_expression, is_good_region, has_good_address, has_good_move, is_good_redirect}
use Rattle.lk_link.specs.Files.{first_some}
use Rattle.lk_check.specs.FirstAnswer.{first_bad, where_not}
use Rattle.lk_check.specs.FirstBadFile.{first_bad_in_files}

-- where an expression of the plan is bad first: that of the base, else of a region, of a section's load address, of an event
abbrev pub first_bad_plan_expression : LinkInput → Option Place
first_bad_plan_expression link =
    first_some (where_not (is_good_expression link link.plan.base) place.Plan)
    (first_some (option_map place.Region (first_bad (is_good_region link) link.plan.regions))
    (first_some (option_map place.Section (first_bad (has_good_address link) link.plan.sections))
    (option_map place.Event (first_bad (has_good_move link) link.plan.events))))

-- the first symbol whose redirect is bad, by its file and its index there
abbrev pub first_bad_redirect : LinkInput → Option (FileId × ℕ)
first_bad_redirect link = first_bad_in_files (λ f. f.symbols) (λ f s. is_good_redirect link s.at) link.groups
