-- The sections that are told one by one in output that is linked again: output sections whose edges are told, and singletons.
use Rattle.std.specs.Prelude.{ℕ, ◌+◌, ◌==◌, Bool, if◌then◌else◌, List, Option, Some, None, filter, length, map, sum_by}
use Rattle.std.specs.List.{enumerate_from}
use Rattle.lk_link.specs.declared.link.LinkInput.{LinkInput}
use Rattle.lk_link.specs.Inputs.{Input}
use Rattle.lk_link.specs.Marks.{is_marked}
use Rattle.lk_link.specs.OutputKinds.{is_partial}
use Rattle.lk_live.specs.declared.live.Live.{Live}
use Rattle.lk_live.specs.Reach.{live_inputs}
use Rattle.lk_live.specs.Slots.{is_singleton}
use Rattle.lk_tables.specs.declared.partial_link.PartialLinkPlan.{PartialLinkPlan}

-- the live input sections that stay output sections of their own, by group, file and index
abbrev pub singletons : LinkInput → Live → List Input
singletons link live = filter (λ x. is_singleton link x.section) (live_inputs link live)

-- the bytes of the name of one, with a zero byte behind it
abbrev pub input_name_bytes : Input → ℕ
input_name_bytes x = length x.section.name + 1

-- the bytes of all their names
abbrev pub singleton_name_bytes : LinkInput → Live → ℕ
singleton_name_bytes link live = sum_by input_name_bytes (singletons link live)

-- ---- by group

-- those of a group
abbrev pub group_singletons : LinkInput → Live → ℕ → List Input
group_singletons link live g = filter (λ x. x.file.group == g) (singletons link live)

-- how many a group has, and the bytes of their names
abbrev pub group_size : LinkInput → Live → ℕ → ℕ × ℕ
group_size link live g = (length (group_singletons link live g), sum_by input_name_bytes (group_singletons link live g))

-- that of each group
abbrev pub group_sizes : LinkInput → Live → List (ℕ × ℕ)
group_sizes link live = map (λ q. group_size link live q.0) (enumerate_from 0 link.groups)

-- what is known of output that is linked again; there is none of other output (libwild: `PartialLinkPlan::build`)
abbrev pub partial_link_plan : LinkInput → Live → Option PartialLinkPlan
partial_link_plan link live =
    if is_partial link.options.output then Some (record { singletons = group_sizes link live }) else None

-- ---- output sections

-- the output sections whose edges are told, by number
abbrev pub told_sections : LinkInput → List Bool → List ℕ
told_sections link told = filter (is_marked told) (map (λ q. q.0) (enumerate_from 0 link.plan.sections))
