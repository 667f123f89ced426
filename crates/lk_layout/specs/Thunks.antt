-- The thunks of a layout: the definitions that each block has some for, its owner, where they begin, and what branches go by.
use Rattle.std.specs.Prelude.{ℕ, Bool, List, Option}
use Rattle.lk_thunk_plan.specs.Branches.{Branching, block_places, owners_of_blocks}
use Rattle.lk_thunk_plan.specs.ThunkPlans.{config_for, planned_sets, planned_users}
use Rattle.lk_link.specs.declared.ids.FileId.{FileId}
use Rattle.lk_sizes.specs.Addresses.{primary_address, section_addresses}
use Rattle.lk_sizes.specs.Owners.{Filling}
use Rattle.lk_layout.specs.Made.{Made, made_deletions, made_filling, made_plain}
use Rattle.lk_layout.specs.Redirects.{made_resolutions}
use Rattle.lk_resolutions.specs.Starts.{starts_of}

-- the definitions that each block has thunks for
abbrev pub made_sets : Made → List (List ℕ)
made_sets made = planned_sets made.machine.thunks (made_plain made)

-- each object with its block, and whether it owns it
abbrev pub made_users : Made → List (FileId × ℕ × Bool)
made_users made = planned_users made.machine.thunks (made_plain made)

-- the object that owns each block, if one does
abbrev pub made_owners : Made → List (Option FileId)
made_owners made = owners_of_blocks (made_sets made) (made_users made)

-- where the thunks of each block begin: where those of its owner do
abbrev pub made_places : Made → List (Option ℕ)
made_places made = block_places (primary_address (made_filling made) (starts_of made.stage.records)) (made_sets made) (made_users made)

-- what the branches of a layout go by
abbrev pub made_branching : Made → Branching
made_branching made =
    let filling : Filling = made_filling made in
    let starts = starts_of made.stage.records in
    record {
      link = made.link;
      live = made.live;
      config = config_for made.machine.thunks made.link;
      sets = made_sets made;
      users = made_users made;
      places = made_places made;
      addresses = section_addresses filling starts;
      deletions = made_deletions made;
      resolutions = made_resolutions made;
    }
