-- Which live branches reach, over final addresses, and where blocks stand.
use Rattle.std.specs.Prelude.{ℕ, ◌+◌, ◌*◌, ◌==◌, ◌&&◌, ◌||◌, not, Bool, true, if◌then◌else◌, List, [], ◌∷◌, Option, Some, None, find, map, option_and_then, option_map, position, slice_get, slice_index}
use Rattle.std.specs.List.{enumerate_from, flat_map, slice_index_or}
use Rattle.std.specs.Option.{option_map_or}
use Rattle.lk_link.specs.declared.flags.TheConstants.ValueFlags as flag
use Rattle.lk_link.specs.declared.flags.ValueFlags.{ValueFlags}
use Rattle.lk_link.specs.declared.ids.FileId.{FileId}
use Rattle.lk_link.specs.declared.link.LinkInput.{LinkInput}
use Rattle.lk_link.specs.declared.relocation.Relocation.{Relocation}
use Rattle.lk_link.specs.declared.resolution.Resolution.{Resolution}
use Rattle.lk_link.specs.declared.section.InputSection.{InputSection}
use Rattle.lk_link.specs.Files.{first_some}
use Rattle.lk_link.specs.Flags.{has_flag}
use Rattle.lk_link.specs.InputSlots.{is_regular}
use Rattle.lk_link.specs.Inputs.{NumberedFile, input_number, numbered_files}
use Rattle.lk_link.specs.Marks.{is_marked}
use Rattle.lk_link.specs.Symbols.{first_symbol}
use Rattle.lk_live.specs.declared.live.Live.{Live}
use Rattle.lk_reach.specs.Units.{is_primary_section, local_definition}
use Rattle.lk_deltas.specs.Deletions.{mapped_by}
use Rattle.lk_deltas.specs.LinkDeletions.{Deletions, deleted_of}
use Rattle.lk_thunks.specs.declared.arch.ThunkConfig.{ThunkConfig}
use Rattle.lk_thunks.specs.Reach.{reaches}
use Rattle.lk_resolution_list.specs.Lists.{resolution_at}
use Rattle.lk_thunk_plan.specs.declared.check.BranchPlace.{BranchPlace}
use Rattle.lk_thunk_plan.specs.declared.thunk_plan.ThunkPlan.{ThunkPlan}

-- ---- what branches go by

-- a link and what is live of it; how thunks are made; the definitions that each block has thunks for, each object with its block,
-- and where the thunks of each block begin, if they have addresses; the addresses of input sections, by number, and what is deleted of
-- them; and what symbols stand for
pub record Branching : Type 0 where
  pub link : LinkInput
  pub live : Live
  pub config : Option ThunkConfig
  pub sets : List (List ℕ)
  pub users : List (FileId × ℕ × Bool)
  pub places : List (Option ℕ)
  pub addresses : List ℕ
  pub deletions : Deletions
  pub resolutions : List (Option Resolution)

-- that of a plan
abbrev pub branching : LinkInput → Live → ThunkPlan → List (Option ℕ) → List ℕ → Deletions → List (Option Resolution) → Branching
branching link live plan places addresses deletions resolutions = record {
  link = link;
  live = live;
  config = plan.config;
  sets = map (λ b. b.symbols) plan.blocks;
  users = plan.users;
  places = places;
  addresses = addresses;
  deletions = deletions;
  resolutions = resolutions;
}

-- ---- where blocks stand

-- whether an object owns block k
abbrev pub owns_block : ℕ → FileId × ℕ × Bool → Bool
owns_block k u = u.2 && (u.1 == k)

-- the object that owns block k, if one does
abbrev pub block_owner : List (FileId × ℕ × Bool) → ℕ → Option FileId
block_owner users k = option_map (λ u. u.0) (find (owns_block k) users)

-- the object that owns each of some blocks, if one does
abbrev pub owners_of_blocks : List (List ℕ) → List (FileId × ℕ × Bool) → List (Option FileId)
owners_of_blocks sets users = map (λ q. block_owner users q.0) (enumerate_from 0 sets)

-- where the thunks of each block begin: where those of its owner do; nowhere without owner
abbrev pub block_places : (FileId → ℕ) → List (List ℕ) → List (FileId × ℕ × Bool) → List (Option ℕ)
block_places place sets users = map (λ q. option_map place (block_owner users q.0)) (enumerate_from 0 sets)

-- ---- targets

-- whether the value of a symbol with these flags is no address that is known at this time
abbrev pub is_given_later : ValueFlags → Bool
is_given_later flags = has_flag flag.ABSOLUTE.0 flags.0 || has_flag flag.DYNAMIC.0 flags.0

-- where a branch goes to what this resolution tells: to its entry in plt, if it has one, else to its value, if that is a known address
abbrev pub target_of : Resolution → Option ℕ
target_of r = first_some r.plt (if is_given_later r.flags then None else Some r.raw_value)

-- where a branch to a definition goes, if it is known
abbrev pub branch_target : List (Option Resolution) → ℕ → Option ℕ
branch_target resolutions d = option_and_then target_of (resolution_at resolutions d)

-- ---- thunks

-- the block of an object, if it is in one
abbrev pub block_of : List (FileId × ℕ × Bool) → FileId → Option ℕ
block_of users id = option_map (λ u. u.1) (find (λ u. u.0.group == id.group && u.0.file == id.file) users)

-- the thunks of block k: where they begin, and for which definitions they are; none without address
abbrev pub thunks_of : Branching → ℕ → Option (ℕ × List ℕ)
thunks_of by k = option_and_then (λ place. option_map (λ set. (place, set)) (slice_get by.sets k)) (slice_index_or by.places k None)

-- the block by whose thunks the branches of a section of a file may go: in the primary part that of the file, elsewhere the first
abbrev pub block_for : Branching → FileId → InputSection → Option ℕ
block_for by id section = if is_primary_section by.link section then block_of by.users id else Some 0

-- the address of the thunk for a definition among some of this size, if there is one
abbrev pub thunk_in : ℕ → ℕ → ℕ × List ℕ → Option ℕ
thunk_in size d block = option_map (λ rank. block.0 + rank * size) (position (λ s. s == d) block.1)

-- where the branches of a section stand: its address, what is deleted of it, and the thunks by which they may go
pub record BranchOrigin : Type 0 where
  pub address : ℕ
  pub deleted : Option (List (ℕ × ℕ))
  pub thunks : Option (ℕ × List ℕ)

-- that of a section of a file, with its index there
abbrev pub standing_of : Branching → FileId → ℕ × InputSection → BranchOrigin
standing_of by id q = record {
  address = slice_index by.addresses (input_number by.link.groups id q.0);
  deleted = deleted_of by.link.groups by.deletions id q.0;
  thunks = option_and_then (thunks_of by) (block_for by id q.1);
}

-- ---- branches

-- whether a branch at an offset of such a section reaches a definition, or the thunk for it, from where the offset goes by what is
-- deleted; one whose target isn't known does
abbrev pub is_reaching : ThunkConfig → List (Option Resolution) → BranchOrigin → ℕ → ℕ → Bool
is_reaching config resolutions standing offset d =
    option_map_or (λ target. reaches config.min_branch_range (record {
      site = standing.address + mapped_by standing.deleted offset;
      target = target;
      thunk = option_and_then (thunk_in config.thunk_size d) standing.thunks;
    })) (branch_target resolutions d) true

-- what stands for the symbol of a relocation of a file
abbrev pub goal_of : LinkInput → NumberedFile → Relocation → ℕ
goal_of link f r = local_definition (first_symbol link.groups f.id) f.file.symbols r.symbol

-- a relocation with its index in its section, where a thunk may stand in for it and it doesn't reach
abbrev pub relocation_unreached : Branching → ThunkConfig → NumberedFile → ℕ → BranchOrigin → ℕ × Relocation → List BranchPlace
relocation_unreached by config f section standing q =
    if q.1.thunkable && not (is_reaching config by.resolutions standing q.1.offset (goal_of by.link f q.1))
    then record { file = f.id; section = section; relocation = q.0 } ∷ []
    else []

-- those of a section with its index, if it is live and loaded for what it holds
abbrev pub section_unreached : Branching → ThunkConfig → NumberedFile → ℕ × InputSection → List BranchPlace
section_unreached by config f q =
    if is_marked by.live.marks (input_number by.link.groups f.id q.0) && is_regular q.1.slot
    then flat_map (relocation_unreached by config f q.0 (standing_of by f.id q)) (enumerate_from 0 q.1.relocs)
    else []

-- those of a file
abbrev pub file_unreached : Branching → ThunkConfig → NumberedFile → List BranchPlace
file_unreached by config f = flat_map (section_unreached by config f) (enumerate_from 0 f.file.sections)

-- all branches that reach neither their target nor their thunk, by file, section and index; none where no thunks are made
abbrev pub unreached : Branching → List BranchPlace
unreached by = option_map_or (λ config. flat_map (file_unreached by config) (numbered_files by.link.groups)) by.config []
