-- The machine that a link is for, that of a platform and an architecture, when a machine is lawful, and the small one.
use Rattle.std.specs.Prelude.{ℕ, Option}
use Rattle.std.specs.Option.{IfSome}
use Rattle.lk_link.specs.declared.link.LinkInput.{LinkInput}
use Rattle.lk_link.specs.declared.options.Options.{Options}
use Rattle.lk_link.specs.declared.plan.Plan.{Plan}
use Rattle.lk_link.specs.TableSizes.{AreLawful, TableSizes, small64_sizes}
use Rattle.lk_link.specs.Target.{IsLawful, Target, platform_target, small64}
use Rattle.lk_link.specs.WellFormed.{IsWellFormed}
use Rattle.lk_thunks.specs.declared.arch.ThunkConfig.{ThunkConfig}
use Rattle.lk_thunks.specs.Configs.{IsLawfulConfig, small64_config}

-- all of the machine that a link is for: where its load segments start, what its tables take, and how thunks are made for options and a plan
pub record Machine : Type 0 where
  pub target : Target
  pub sizes : TableSizes
  pub thunks : Options → Plan → Option ThunkConfig

-- the machine of a platform and an architecture, by where it starts load segments, what its tables take, and how thunks are made
abbrev pub platform_machine : (ℕ → ℕ → ℕ → ℕ) → TableSizes → (Options → Plan → Option ThunkConfig) → Machine
platform_machine segment_start sizes thunks = record { target = platform_target segment_start; sizes = sizes; thunks = thunks }

-- it starts load segments lawfully, what its tables take is lawful, and so are the thunks that it makes for a well-formed link
pub record IsLawfulMachine (machine : Machine) : Type 0 where
  pub target : IsLawful machine.target
  pub sizes : AreLawful machine.sizes
  pub thunks : (link : LinkInput) → IsWellFormed link → IfSome (machine.thunks link.options link.plan) (IsLawfulConfig link)

-- the machine of the small platform
abbrev pub small64_machine : Machine
small64_machine = record { target = small64; sizes = small64_sizes; thunks = small64_config }
