-- What thunks are like on an architecture.
use Rattle.std.specs.Prelude.{◌≡◌, ◌<◌, ◌≤◌, ◌%◌, Option, Some, option_map}
use Rattle.lk_link.specs.declared.limits.TheConstants.{MOST_NEAR_BRANCH}
use Rattle.lk_link.specs.declared.link.LinkInput.{LinkInput}
use Rattle.lk_link.specs.declared.options.Options.{Options}
use Rattle.lk_link.specs.declared.plan.Plan.{Plan}
use Rattle.lk_link.specs.Parts.{part_at}
use Rattle.lk_thunks.specs.declared.arch.ThunkConfig.{ThunkConfig}
use Rattle.lk_thunks.specs.declared.arch.TheConstants.{MOST_THUNK}

-- thunks stand in the part that the plan names for the code; they keep its alignment and are small; and branches reach further
-- than the thunks of a block can take
pub record IsLawfulConfig (link : LinkInput) (config : ThunkConfig) : Type 0 where
  pub primary : link.plan.named.primary ≡ Some config.primary_function_part_id
  pub aligned : config.thunk_size % (part_at link.plan.sections config.primary_function_part_id).alignment ≡ 0
  pub small : config.thunk_size ≤ MOST_THUNK
  pub far : MOST_NEAR_BRANCH < config.min_branch_range

-- on the small architecture there are thunks where the plan names the part; a thunk has 16 bytes, and the options say how far
-- branches reach
abbrev pub small64_config : Options → Plan → Option ThunkConfig
small64_config options plan =
    option_map (λ p. record { primary_function_part_id = p; thunk_size = 16; min_branch_range = options.branch_range }) plan.named.primary
