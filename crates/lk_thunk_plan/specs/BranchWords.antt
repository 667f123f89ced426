-- Words of contracts: what branches go by as the code has it; of private ones also what is at hand of a file, and the next object of a
-- walk over files.
use Rattle.std.specs.Prelude.{◌≡◌, ℕ, ◌<◌, ◌≤◌, ◌==◌, ◌&&◌, Bool, if◌then◌else◌, List, Option, Some, None, IfSome, option_and_then, option_map, slice_get}
use Rattle.std.specs.Option.{option_copied}
use Rattle.lk_link.specs.declared.ids.FileId.{FileId}
use Rattle.lk_link.specs.declared.link.LinkInput.{LinkInput}
use Rattle.lk_link.specs.Files.{file_in}
use Rattle.lk_link.specs.Inputs.{first_input}
use Rattle.lk_link.specs.Symbols.{file_number, first_symbol}
use Rattle.lk_thunks.specs.SetLaws.{IsRising}
use Rattle.lk_thunk_plan.specs.declared.check.Branches.{Branches}
use Rattle.lk_thunk_plan.specs.declared.check.BranchFile.{BranchFile}
use Rattle.lk_thunk_plan.specs.declared.check.Spot.{Spot}
use Rattle.lk_thunk_plan.specs.Branches.{Branching, BranchOrigin, block_of, branching}

-- what branches go by, as contracts see it
abbrev pub branching_of : Branches → Branching
branching_of by = branching by.link.now by.live.now by.plan.now by.places.now by.addresses.now by.deltas.now by.resolutions.now

-- what is at hand of a file is what the link, the plan and the deletions have of it
pub record IsAtHand (by : Branching) (x : BranchFile) : Type 0 where
  pub there : file_in by.link.groups x.file.id ≡ Some x.file.file.now
  pub start : x.start ≡ first_input by.link.groups x.file.id
  pub first : x.first ≡ first_symbol by.link.groups x.file.id
  pub block : x.block ≡ block_of by.users x.file.id
  pub entries : option_copied x.entries ≡ slice_get by.deletions (file_number by.link.groups x.file.id)

-- where the branches of a section stand, as contracts see it
abbrev pub standing_at : Spot → BranchOrigin
standing_at spot = record {
  address = spot.address;
  deleted = option_copied spot.deleted;
  thunks = option_map (λ q. (q.0, q.1.now.symbols)) spot.thunks;
}

-- the definitions there rise
abbrev pub SpotRises : Spot → Type 0
SpotRises spot = IfSome spot.thunks (λ q. IsRising q.1.now.symbols)

-- the block of the next object, if that is this file
abbrev pub block_next : List (FileId × ℕ × Bool) → ℕ → FileId → Option ℕ
block_next users next id =
    option_and_then (λ u. if u.0.group == id.group && u.0.file == id.file then Some u.1 else None) (slice_get users next)

-- the next one is the first that isn't before file n
pub record IsNextUser (link : LinkInput) (users : List (FileId × ℕ × Bool)) (n next : ℕ) : Type 0 where
  pub before : (k : ℕ) (u : FileId × ℕ × Bool) → k < next → slice_get users k ≡ Some u → file_number link.groups u.0 < n
  pub behind : (k : ℕ) (u : FileId × ℕ × Bool) → next ≤ k → slice_get users k ≡ Some u → n ≤ file_number link.groups u.0
