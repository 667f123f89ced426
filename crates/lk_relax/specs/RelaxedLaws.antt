-- Laws on relaxed links: what stays where nothing is deleted, what each stage keeps, and what the placement at the end stands for.
use Rattle.std.specs.Prelude.{◌≡◌, ◌≤◌, ℕ, All, IsSome, List, [], Some, slice_get, true}
use Rattle.lk_link.specs.declared.file.InputFile.{InputFile}
use Rattle.lk_link.specs.declared.ids.FileId.{FileId}
use Rattle.lk_link.specs.declared.link.LinkInput.{LinkInput}
use Rattle.lk_link.specs.Inputs.{Input, all_inputs}
use Rattle.lk_link.specs.InputSlots.{is_regular}
use Rattle.lk_link.specs.WellFormed.{IsWellFormed}
use Rattle.lk_place.specs.Placement.{IsPlaced}
use Rattle.lk_deltas.specs.Candidates.{AreOf}
use Rattle.lk_sizes.specs.Owners.{own_sizes}
use Rattle.lk_sizes.specs.PartOwners.{part_sizes}
use Rattle.lk_deltas.specs.LinkDeletions.{Deletions, deleted_of, output_offset, size_after, sizes_after}
use Rattle.lk_relax.specs.Scan.{CanBeScanned, ranges_of}
use Rattle.lk_relax.specs.Stages.{IsFirst, IsPass, IsRelaxed, Relaxing, Stage, deletions_by, fall_of, filling_after, link_of, setting_after, shrink_pass}

-- ---- nothing is deleted

-- where nothing is deleted, the sizes that are left are those of the description
abbrev pub NothingDeletedIsNothingLost : Type 0
NothingDeletedIsNothingLost = (link : LinkInput) → sizes_after link.groups [] ≡ own_sizes link

-- an empty entry for each file
abbrev pub nothing_deleted : LinkInput → Deletions
nothing_deleted link = deletions_by link (λ _. [])

-- deletions have no range for any section
abbrev pub AreEmpty : List (List InputFile) → Deletions → Type 0
AreEmpty groups deletions = (id : FileId) (index : ℕ) → ranges_of groups deletions id index ≡ []

-- input sections keep their sizes, and all in them stays where it is
pub record LeaveAll (link : LinkInput) (deletions : Deletions) : Type 0 where
  pub sizes : sizes_after link.groups deletions ≡ own_sizes link
  pub offsets : (id : FileId) (index offset : ℕ) → output_offset link.groups deletions id index offset ≡ offset

-- deletions without ranges leave all as it is, also those without an entry for any file
abbrev pub EmptyDeletionsLeaveAll : Type 0
EmptyDeletionsLeaveAll = (link : LinkInput) (deletions : Deletions) → AreEmpty link.groups deletions → LeaveAll link deletions

-- so does an empty entry for each file
abbrev pub NothingDeletedLeavesAll : Type 0
NothingDeletedLeavesAll = (link : LinkInput) → LeaveAll link (nothing_deleted link)

-- ---- what a stage keeps

-- what is deleted of each section are bytes of some of its candidates, in order; a section of which something is deleted is no debug data
-- and not merged; and what the next pass looks at can be looked at
pub record IsShrunk (by : Relaxing) (a : Stage) : Type 0 where
  pub of : (k : ℕ) (x : Input) → slice_get (all_inputs (link_of by).groups) k ≡ Some x
      → AreOf (ranges_of (link_of by).groups a.deletions x.file x.index) x.section.relax
  pub regular : (k : ℕ) (x : Input) → slice_get (all_inputs (link_of by).groups) k ≡ Some x
      → IsSome (deleted_of (link_of by).groups a.deletions x.file x.index) → is_regular x.section.slot ≡ true
  pub scan : All (λ q. CanBeScanned (link_of by).groups a.deletions q.0 q.1) a.scan

-- the first stage is so
abbrev pub FirstIsShrunk : Type 0
FirstIsShrunk = (by : Relaxing) (a : Stage) → IsFirst by a → IsShrunk by a

-- of a well-formed link a pass leads from such a stage to another, and sections only lose bytes
abbrev pub PassesStayShrunk : Type 0
PassesStayShrunk = (by : Relaxing) (a b : Stage) → IsWellFormed (link_of by) → IsPass by a b → IsShrunk by a → IsShrunk by b

abbrev pub SizesFallByPasses : Type 0
SizesFallByPasses = (by : Relaxing) (a : Stage) (k : ℕ) (x : Input) → IsShrunk by a → slice_get (all_inputs (link_of by).groups) k ≡ Some x
    → size_after (link_of by).groups (shrink_pass by a) x ≤ size_after (link_of by).groups a.deletions x

-- so the stage at the end is one
abbrev pub RelaxedIsShrunk : Type 0
RelaxedIsShrunk = (by : Relaxing) (z : Stage) → IsWellFormed (link_of by) → IsRelaxed by z → IsShrunk by z

-- ---- what the placement stands for

-- where capacities fall by nothing in a pass, each part keeps its bytes
abbrev pub StillPassesKeepParts : Type 0
StillPassesKeepParts = (by : Relaxing) (a : Stage) → IsWellFormed (link_of by) → IsShrunk by a → fall_of by a ≡ 0
    → part_sizes (filling_after by (shrink_pass by a)) ≡ part_sizes (filling_after by a.deletions)

-- the placement of a stage is of the deletions that it knew, by which parts have the bytes that they have at the stage
pub record StandsFor (by : Relaxing) (a : Stage) : Type 0 where
  pub placed : IsPlaced (setting_after by a.walked) a.states a.records
  pub parts : part_sizes (filling_after by a.walked) ≡ part_sizes (filling_after by a.deletions)

-- the first stage is so
abbrev pub FirstStands : Type 0
FirstStands = (by : Relaxing) (a : Stage) → IsFirst by a → StandsFor by a

-- so is the stage behind a pass
abbrev pub PassesStand : Type 0
PassesStand = (by : Relaxing) (a b : Stage) → IsWellFormed (link_of by) → IsPass by a b → IsShrunk by a → StandsFor by a → StandsFor by b

-- and the stage at the end
abbrev pub RelaxedStands : Type 0
RelaxedStands = (by : Relaxing) (z : Stage) → IsWellFormed (link_of by) → IsRelaxed by z → StandsFor by z
