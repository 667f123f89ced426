-- When thunks are planned for a link, and how far their planning takes a branch to reach.
use Rattle.std.specs.Prelude.{ℕ, ◌-◌, ◌&&◌, not, if◌then◌else◌, Option, Some, None, length, nat_lt, sum_by}
use Rattle.lk_link.specs.declared.limits.TheConstants.{MOST_NEAR_BRANCH}
use Rattle.lk_link.specs.declared.link.LinkInput.{LinkInput}
use Rattle.lk_link.specs.declared.section.InputSection.{InputSection}
use Rattle.lk_link.specs.declared.plan.attributes.TheConstants.{EXEC}
use Rattle.lk_link.specs.InputSlots.{is_discarded, is_merge}
use Rattle.lk_link.specs.Inputs.{Input, all_inputs}
use Rattle.lk_link.specs.PlanSections.{is_set}
use Rattle.lk_thunks.specs.declared.arch.ThunkConfig.{ThunkConfig}

-- how long an input section is: a merge section as its data, whatever size it tells
abbrev pub length_of : InputSection → ℕ
length_of section = if is_merge section.slot then length section.bytes else section.size

-- the bytes of code in an input section: of one that isn't discarded, live or not
abbrev pub code_bytes : Input → ℕ
code_bytes x = if not (is_discarded x.section.slot) && is_set EXEC x.section.attrs then length_of x.section else 0

-- those of all input sections
abbrev pub executable_bytes : LinkInput → ℕ
executable_bytes link = sum_by code_bytes (all_inputs link.groups)

-- how far a branch is taken to reach when thunks are planned: less than it does, by what the thunks of a block may take
abbrev pub planned_range : ThunkConfig → ℕ
planned_range config = config.min_branch_range - MOST_NEAR_BRANCH

-- the planned range of a link for which thunks are planned: there are thunks on its architecture, and at least as many bytes of
-- code as a branch reaches
abbrev pub builder_of : LinkInput → Option ThunkConfig → Option ℕ
builder_of link None = None
builder_of link (Some config) = if nat_lt (executable_bytes link) config.min_branch_range then None else Some (planned_range config)
