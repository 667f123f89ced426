-- What holds of branches that were looked at, and of thunks among the bytes of the primary part.
use Rattle.std.specs.Prelude.{◌≡◌, ◌⊎◌, ℕ, ◌+◌, ◌*◌, ◌-◌, ◌<◌, ◌≤◌, true, List, [], Option, Some, length, max, min, option_and_then, slice_get, slice_index}
use Rattle.lk_link.specs.declared.file.InputFile.{InputFile}
use Rattle.lk_link.specs.declared.ids.FileId.{FileId}
use Rattle.lk_link.specs.declared.link.LinkInput.{LinkInput}
use Rattle.lk_link.specs.declared.options.Options.{Options}
use Rattle.lk_link.specs.declared.plan.Plan.{Plan}
use Rattle.lk_link.specs.declared.relocation.Relocation.{Relocation}
use Rattle.lk_link.specs.declared.section.InputSection.{InputSection}
use Rattle.lk_link.specs.Files.{file_in}
use Rattle.lk_link.specs.InputSlots.{is_regular}
use Rattle.lk_link.specs.Inputs.{input_number}
use Rattle.lk_link.specs.Marks.{is_marked}
use Rattle.lk_link.specs.Parts.{part_at}
use Rattle.lk_link.specs.Symbols.{first_symbol}
use Rattle.lk_link.specs.WellFormed.{IsWellFormed}
use Rattle.lk_live.specs.declared.live.Live.{Live}
use Rattle.lk_reach.specs.Units.{local_definition}
use Rattle.lk_deltas.specs.LinkDeletions.{output_offset}
use Rattle.lk_sizes.specs.Owners.{AreThunkOwners, Filling, ThunkOwner, owner_bytes}
use Rattle.lk_sizes.specs.PartOwners.{owners_of, thunk_number}
use Rattle.lk_thunks.specs.declared.arch.ThunkConfig.{ThunkConfig}
use Rattle.lk_thunks.specs.SetLaws.{IsRising}
use Rattle.lk_thunk_plan.specs.Branches.{Branching, branch_target, standing_of, thunk_in, unreached}
use Rattle.lk_thunk_plan.specs.ThunkPlans.{config_for, planned_sets, planned_users, thunk_owners, thunk_size, thunked}

-- ---- branches

-- a live branch, by its file, its section's index and its own: a relocation of a live section that is loaded for what it holds, for which a
-- thunk may stand in
pub record IsBranch (link : LinkInput) (live : Live) (id : FileId) (file : InputFile) (i k : ℕ) (r : Relocation) : Type 0 where
  pub there : file_in link.groups id ≡ Some file
  pub section : InputSection
  pub at : slice_get file.sections i ≡ Some section
  pub lives : is_marked live.marks (input_number link.groups id i) ≡ true
  pub regular : is_regular section.slot ≡ true
  pub relocation : slice_get section.relocs k ≡ Some r
  pub thunkable : r.thunkable ≡ true

-- two addresses are nearer to each other than the range
abbrev pub AreNear : ℕ → ℕ → ℕ → Type 0
AreNear range a b = max a b - min a b < range

-- a branch from this site to this definition is near its target, or the thunk by which it may go
abbrev pub Reaches : Branching → ThunkConfig → FileId → ℕ → InputSection → ℕ → ℕ → ℕ → Type 0
Reaches by config id i section site d target =
    AreNear config.min_branch_range site target
    ⊎ ((thunk : ℕ) × (option_and_then (thunk_in config.thunk_size d) (standing_of by id (i, section)).thunks ≡ Some thunk)
    × AreNear config.min_branch_range site thunk)

-- so does each live branch whose target is known, from where its offset goes by what is deleted of its section
abbrev pub LiveBranchesReach : Branching → Type 0
LiveBranchesReach by = (config : ThunkConfig) (id : FileId) (file : InputFile) (i k : ℕ) (r : Relocation) (target : ℕ)
    → by.config ≡ Some config → (b : IsBranch by.link by.live id file i k r)
    → branch_target by.resolutions (local_definition (first_symbol by.link.groups id) file.symbols r.symbol) ≡ Some target
    → Reaches by config id i b.section
    (slice_index by.addresses (input_number by.link.groups id i) + output_offset by.link.groups by.deletions id i r.offset)
    (local_definition (first_symbol by.link.groups id) file.symbols r.symbol) target

-- where none is named that doesn't reach, all do
abbrev pub BranchesReach : Type 0
BranchesReach = (by : Branching) → unreached by ≡ [] → LiveBranchesReach by

-- ---- thunks

-- the owners of blocks are files of the link, in their order
abbrev pub ThunkOwnersAreGood : Type 0
ThunkOwnersAreGood = (thunks : Options → Plan → Option ThunkConfig) (filling : Filling)
    → AreThunkOwners filling.content.link (thunk_owners thunks filling)

-- the thunks of a block, of so many bytes each, that a file owns in a part: they are an owner there, with all their bytes; each
-- definition of the set, in rising order, has a thunk inside; and those of two definitions have no byte in common
pub record HaveRanges (filling : Filling) (p : ℕ) (id : FileId) (size : ℕ) (set : List ℕ) : Type 0 where
  pub owner : slice_get (owners_of filling p) (thunk_number filling p id) ≡ Some (ThunkOwner id (size * length set))
  pub rising : IsRising set
  pub told : (begin rank d : ℕ) → slice_get set rank ≡ Some d → thunk_in size d (begin, set) ≡ Some (begin + rank * size)
  pub inside : (rank : ℕ) → rank < length set
      → rank * size + size ≤ owner_bytes (part_at filling.content.link.plan.sections p) (ThunkOwner id (size * length set))
  pub apart : (begin d e first second : ℕ) → d < e → thunk_in size d (begin, set) ≡ Some first → thunk_in size e (begin, set) ≡ Some second
      → first + size ≤ second

-- so stand the thunks of each block that a file owns, in the primary part of a well-formed link
abbrev pub ThunksHaveRanges : Type 0
ThunksHaveRanges = (thunks : Options → Plan → Option ThunkConfig) (filling : Filling) (j k p : ℕ) (id : FileId) (set : List ℕ)
    → IsWellFormed filling.content.link → filling.content.link.plan.named.primary ≡ Some p
    → slice_get (planned_users thunks filling) j ≡ Some (id, k, true) → slice_get (planned_sets thunks filling) k ≡ Some set
    → HaveRanges (thunked thunks filling) p id (thunk_size (config_for thunks filling.content.link)) set
