-- Which branches reach.
use Rattle.std.specs.Prelude.{ℕ, ◌-◌, ◌||◌, Bool, false, not, List, Option, Some, None, Result, Ok, Err, max, min, nat_lt, position}
use Rattle.std.specs.Option.{option_map_or}
use Rattle.lk_thunks.specs.declared.reach.BranchSite.{BranchSite}
use Rattle.lk_thunks.specs.declared.reach.OutOfReach.{OutOfReach}

-- whether two addresses are nearer to each other than the range
abbrev pub is_near : ℕ → ℕ → ℕ → Bool
is_near range a b = nat_lt (max a b - min a b) range

-- whether a branch reaches its target, or its thunk if it has one
abbrev pub reaches : ℕ → BranchSite → Bool
reaches range branch = is_near range branch.site branch.target || option_map_or (is_near range branch.site) branch.thunk false

-- the first branch that reaches neither is named
abbrev pub refused_at : Option ℕ → Result Unit OutOfReach
refused_at None = Ok tt
refused_at (Some k) = Err (record { 0 = k })

-- whether all branches reach, or which is the first that doesn't
abbrev pub reach_of : ℕ → List BranchSite → Result Unit OutOfReach
reach_of range branches = refused_at (position (λ b. not (reaches range b)) branches)
