-- What stands in order in a plan of thunks.
use Rattle.std.specs.Prelude.{◌≡◌, ℕ, ◌<◌, Bool, List, All, Option, Some, IsSome, filter, map, slice_get}
use Rattle.lk_link.specs.declared.ids.FileId.{FileId}
use Rattle.lk_link.specs.declared.link.LinkInput.{LinkInput}
use Rattle.lk_link.specs.declared.options.Options.{Options}
use Rattle.lk_link.specs.declared.plan.Plan.{Plan}
use Rattle.lk_link.specs.Files.{file_in}
use Rattle.lk_link.specs.Symbols.{file_number}
use Rattle.lk_sizes.specs.Owners.{Filling}
use Rattle.lk_thunks.specs.declared.arch.ThunkConfig.{ThunkConfig}
use Rattle.lk_thunks.specs.SetLaws.{IsRising}
use Rattle.lk_thunk_plan.specs.declared.thunk_plan.ThunkPlan.{ThunkPlan}
use Rattle.lk_thunk_plan.specs.ThunkPlans.{IsThunkPlan}

-- objects are files of the link, in their order, each once
pub record AreUsersOf (link : LinkInput) (users : List (FileId × ℕ × Bool)) : Type 0 where
  pub there : (k : ℕ) (u : FileId × ℕ × Bool) → slice_get users k ≡ Some u → IsSome (file_in link.groups u.0)
  pub rising : (j k : ℕ) (u v : FileId × ℕ × Bool) → j < k → slice_get users j ≡ Some u → slice_get users k ≡ Some v
      → file_number link.groups u.0 < file_number link.groups v.0

-- the objects that own blocks
abbrev pub owning : List (FileId × ℕ × Bool) → List (FileId × ℕ × Bool)
owning users = filter (λ u. u.2) users

-- the owners are those of the first blocks, in their order, and their bytes are told in that order too
pub record OwnersFollow (plan : ThunkPlan) : Type 0 where
  pub numbers : (k : ℕ) (u : FileId × ℕ × Bool) → slice_get (owning plan.users) k ≡ Some u → u.1 ≡ k
  pub files : map (λ q. q.0) plan.owners ≡ map (λ u. u.0) (owning plan.users)

-- sets rise, objects are in the order of files, and owners in that of blocks
pub record IsInOrder (link : LinkInput) (plan : ThunkPlan) : Type 0 where
  pub sets : All IsRising (map (λ b. b.symbols) plan.blocks)
  pub users : AreUsersOf link plan.users
  pub owners : OwnersFollow plan

-- so it is in the plan of what fills the parts
abbrev pub PlansAreInOrder : Type 0
PlansAreInOrder = (thunks : Options → Plan → Option ThunkConfig) (filling : Filling) (plan : ThunkPlan) → IsThunkPlan thunks filling plan
    → IsInOrder filling.content.link plan
