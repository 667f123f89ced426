use Rattle.std.proofs.Common.{◌≡◌, ◌++◌, drop, map}
use Rattle.lk_thunk_plan.specs.ThunkPlans.{owners_among}
use Rattle.lk_thunk_plan.proofs.thunk_plan.owners_among.Given as goal

-- those so far, followed by those of the objects that are left
abbrev pub invariant-loop-user : goal.invariant-loop-user
invariant-loop-user l =
    l.owners.items ++ owners_among l.size (map (λ b. b.symbols) l.blocks) (drop l.user-index l.users)
    ≡ owners_among l.size (map (λ b. b.symbols) l.blocks) l.users
