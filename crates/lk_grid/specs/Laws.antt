-- Laws on the matrix.
use Rattle.std.specs.Prelude.{◌≡◌, ◌≢◌, ℕ, ◌<◌, ◌≤◌, true, List}
use Rattle.lk_grid.specs.Machine.{Grid, LeadTo, State, Step, Waiting, held_of}

-- whatever the order of steps, each bucket holds what the groups that it has taken give, in the order of these
abbrev pub BucketsHoldTheirGroups : Type 0 → Type 0
BucketsHoldTheirGroups X = (grid : Grid X) (steps : List Step) (st : State X) (b : ℕ) → LeadTo grid steps st
    → ((st.buckets b).held ≡ held_of grid b (st.buckets b).taken) × ((st.buckets b).taken ≤ grid.groups)

-- where pieces came to each cell, and each bucket that is free has taken all groups, each bucket has
abbrev pub MergingEnds : Type 0 → Type 0
MergingEnds X = (grid : Grid X) (steps : List Step) (st : State X) (b : ℕ) → LeadTo grid steps st → b < grid.buckets
    → ((g : ℕ) → g < grid.groups → st.cells g b ≢ Waiting)
    → ((st.buckets b).free ≡ true → (st.buckets b).taken ≡ grid.groups)
    → (st.buckets b).taken ≡ grid.groups
