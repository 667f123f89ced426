-- Behind every list of steps.
use Rattle.std.proofs.Common.{◌≡◌, [], ◌∷◌, Bool, true, false, List, refl}
use Rattle.lk_grid.specs.Laws.{BucketsHoldTheirGroups, MergingEnds}
use Rattle.lk_grid.specs.Machine.{Does, Fill, Grid, LeadTo, State, Step, TakeNext}
use Rattle.lk_grid.proofs.Filling.{good_filled}
use Rattle.lk_grid.proofs.Good.{IsGood, good_start}
use Rattle.lk_grid.proofs.Taking.{good_taken}

good_step : {X : Type 0} (grid : Grid X) (step : Step) (old new : State X) → IsGood grid old → Does grid step old new → IsGood grid new
good_step grid (Fill g b) old new h does = good_filled grid g b old new h does
good_step grid (TakeNext b) old new h does = good_taken grid b old new h does

good_behind : {X : Type 0} (grid : Grid X) (steps : List Step) (st : State X) → LeadTo grid steps st → IsGood grid st
unfolding LeadTo
good_behind grid [] st h = good_start grid st h
good_behind grid (step ∷ steps) st h = good_step grid step h.0 st (good_behind grid steps h.0 h.1) h.2

pub buckets_hold : {X : Type 0} → BucketsHoldTheirGroups X
buckets_hold grid steps st b h = let good = good_behind grid steps st h in (good.held b, good.few b)

pub merging_ends : {X : Type 0} → MergingEnds X
merging_ends grid steps st b h there filled ends = by (st.buckets b).free refl
  where
    by : (free : Bool) → (st.buckets b).free ≡ free → (st.buckets b).taken ≡ grid.groups
    by true at = ends at
    by false at = let told = (good_behind grid steps st h).waits b there at in absurd (filled (st.buckets b).taken told.0 told.1)
