-- What a layout is made of: all else of it is a function of this.
use Rattle.std.specs.Prelude.{ℕ, List}
use Rattle.lk_live.specs.declared.live.Live.{Live}
use Rattle.lk_link.specs.declared.ids.FileId.{FileId}
use Rattle.lk_link.specs.declared.link.LinkInput.{LinkInput}
use Rattle.lk_sizes.specs.Owners.{Content, Filling}
use Rattle.lk_thunk_plan.specs.ThunkPlans.{thunk_owners}
use Rattle.lk_deltas.specs.LinkDeletions.{Deletions}
use Rattle.lk_relax.specs.Stages.{Relaxing, Stage, filling_after}
use Rattle.lk_layout.specs.Headers.{header_bytes}
use Rattle.lk_layout.specs.Machines.{Machine}
use Rattle.lk_resolutions.specs.OutputContent.{output_content, output_filling, thunked_filling}

-- a link, for a machine, what is live of it, and the stage at which its relaxation ends: what is deleted of its sections, and the placement
-- that stands, as states round the events and records of all parts
pub record Made : Type 0 where
  pub machine : Machine
  pub link : LinkInput
  pub live : Live
  pub stage : Stage

abbrev pub made_of : Machine → LinkInput → Live → Stage → Made
made_of machine link live stage = record { machine = machine; link = link; live = live; stage = stage }

-- what goes into its output
abbrev pub made_content : Made → Content
made_content made = output_content made.machine.sizes made.link made.live

-- the blocks of a link's thunks on a machine, by the objects that own them
abbrev pub thunks_for : Machine → LinkInput → Live → List (FileId × ℕ)
thunks_for machine link live = thunk_owners machine.thunks (output_filling machine.sizes link live)

-- what fills the parts of its output, with these, before anything is deleted
abbrev pub filling_for : Machine → LinkInput → Live → Filling
filling_for machine link live = thunked_filling machine.sizes link live (thunks_for machine link live)

-- what relaxation goes by
abbrev pub relaxing_for : Machine → LinkInput → Live → Relaxing
relaxing_for machine link live = record { filling = filling_for machine link live; target = machine.target; headers = header_bytes machine link live }

abbrev pub made_relaxing : Made → Relaxing
made_relaxing made = relaxing_for made.machine made.link made.live

-- what is deleted of its input sections
abbrev pub made_deletions : Made → Deletions
made_deletions made = made.stage.deletions

-- what fills the parts, without thunks, and with them behind what is deleted
abbrev pub made_plain : Made → Filling
made_plain made = output_filling made.machine.sizes made.link made.live

abbrev pub made_filling : Made → Filling
made_filling made = filling_after (made_relaxing made) (made_deletions made)
