-- The definitions of the thunks by which a section's branches may go rise.
use Rattle.std.proofs.Common.{◌≡◌, ℕ, All, List, Option, Some, None, refl, subst, sym}
use Rattle.std.specs.Prelude.{IfSome, option_and_then, option_map}
use Rattle.std.specs.List.{slice_get, slice_index_or}
use Rattle.std.proofs.lemmas.List.Elements.{All-get_or}
use Rattle.std.proofs.lemmas.Option.{get_or_from_slice_get, slice_get_within}
use Rattle.lk_thunks.specs.SetLaws.{IsRising}
use Rattle.lk_thunk_plan.specs.Branches.{Branching, thunks_of}

-- an element of which all are so is
pub one_of : (P : List ℕ → Type 0) (sets : List (List ℕ)) (k : ℕ) (set : List ℕ) → All P sets → slice_get sets k ≡ Some set → P set
one_of P sets k set all at = subst P (get_or_from_slice_get sets k set set at) (All-get_or P sets k set (slice_get_within sets k set at) all)

abbrev Rises : Option (ℕ × List ℕ) → Type 0
Rises o = IfSome o (λ q. IsRising q.1)

with_place : (sets : List (List ℕ)) (k place : ℕ) (o : Option (List ℕ)) → All IsRising sets → slice_get sets k ≡ o → Rises (option_map (λ set. (place, set)) o)
with_place sets k place None all at = tt
with_place sets k place (Some set) all at = one_of IsRising sets k set all at

of_block : (by : Branching) (k : ℕ) (o : Option ℕ) → All IsRising by.sets → Rises (option_and_then (λ place. option_map (λ set. (place, set)) (slice_get by.sets k)) o)
of_block by k None all = tt
of_block by k (Some place) all = with_place by.sets k place (slice_get by.sets k) all refl

thunks_rise : (by : Branching) (block : Option ℕ) → All IsRising by.sets → Rises (option_and_then (thunks_of by) block)
thunks_rise by None all = tt
thunks_rise by (Some k) all = of_block by k (slice_index_or by.places k None) all

told : {X : Type 0} (f : X → ℕ × List ℕ) (o : Option X) → Rises (option_map f o) → IfSome o (λ q. IsRising (f q).1)
told f None h = tt
told f (Some x) h = h

-- so they do as they are told by something
pub told_rise : {X : Type 0} (f : X → ℕ × List ℕ) (by : Branching) (block : Option ℕ) (o : Option X) → All IsRising by.sets
    → option_map f o ≡ option_and_then (thunks_of by) block → IfSome o (λ q. IsRising (f q).1)
told_rise f by block o all is = told f o (subst Rises (sym is) (thunks_rise by block all))
