-- A bucket goes on.
use Rattle.std.proofs.Common.{◌≡◌, ◌≢◌, ◌+◌, ◌<◌, ◌≤◌, ◌∙◌, ℕ, true, false, List, add-one, ap, arith, inl, inr, refl, sym}
use Rattle.std.proofs.lemmas.Bool.{cases_eq}
use Rattle.lk_grid.specs.Machine.{Bucket, Cell, Empty, Filled, GoesOn, Grid, State, Taken, Takes, Waiting, held_of}
use Rattle.lk_grid.proofs.Good.{IsGood}

-- what holds of the bucket behind, and of the cell that it came to
record IsOn {X : Type 0} (grid : Grid X) (b : ℕ) (before : ℕ) (cell : Cell X) (new : Bucket X) : Type 0 where
  held : new.held ≡ held_of grid b new.taken
  few : new.taken ≤ grid.groups
  bare : (ps : List X) → cell ≢ Filled ps
  waits : new.free ≡ false → (new.taken ≡ before) × (before < grid.groups) × (cell ≡ Waiting)

-- one group more
more_held : {X : Type 0} (grid : Grid X) (b g : ℕ) → held_of grid b (g + 1) ≡ grid.with_more (held_of grid b g) (grid.pieces g b)
unfolding held_of
more_held grid b g = ap (held_of grid b) (add-one g)

goes_on : {X : Type 0} (grid : Grid X) (b : ℕ) (there : Cell X) (old : Bucket X) (cell : Cell X) (new : Bucket X)
    → old.held ≡ held_of grid b old.taken → old.taken < grid.groups → ((ps : List X) → there ≡ Filled ps → ps ≡ grid.pieces old.taken b)
    → GoesOn grid there old cell new → IsOn grid b old.taken cell new
goes_on {X} grid b (Filled ps) old cell new held left right on = record {
  held = ap (λ (x : Bucket X). x.held) on.1 ∙ ap (λ xs. grid.with_more xs ps) held ∙ ap (grid.with_more (held_of grid b old.taken)) (right ps refl)
      ∙ sym (more_held grid b old.taken) ∙ ap (held_of grid b) (sym (ap (λ (x : Bucket X). x.taken) on.1));
  few = omega (arith, left, ap (λ (x : Bucket X). x.taken) on.1);
  bare = λ qs at. absurd (let both : Filled qs ≡ Taken = sym at ∙ on.0 in cc);
  waits = λ stuck. absurd (let both : true ≡ false = sym (ap (λ (x : Bucket X). x.free) on.1) ∙ stuck in cc);
}
goes_on {X} grid b Empty old cell new held left right on = record {
  held = ap (λ (x : Bucket X). x.held) on.1 ∙ held ∙ ap (held_of grid b) (sym (ap (λ (x : Bucket X). x.taken) on.1));
  few = omega (arith, left, ap (λ (x : Bucket X). x.taken) on.1);
  bare = λ qs at. absurd (let both : Filled qs ≡ Waiting = sym at ∙ on.0 in cc);
  waits = λ stuck. (ap (λ (x : Bucket X). x.taken) on.1, left, on.0);
}
goes_on grid b Waiting old cell new held left right on = absurd on
goes_on grid b Taken old cell new held left right on = absurd on

pub good_taken : {X : Type 0} (grid : Grid X) (b : ℕ) (old new : State X) → IsGood grid old → Takes grid b old new → IsGood grid new
good_taken {X} grid b old new h f = record {
  right = λ i c ps at. elim (cases_eq i t) [
    | inl row ↦ elim (cases_eq c b) [
      | inl column ↦ absurd (on.bare ps (sym (ap (λ j. new.cells j c) row ∙ ap (new.cells t) column) ∙ at))
      | inr column ↦ h.right i c ps (sym (f.cells i c (λ _. column)) ∙ at)
    ]
    | inr row ↦ h.right i c ps (sym (f.cells i c (λ same. absurd (row same))) ∙ at)
  ];
  held = λ c. elim (cases_eq c b) [
    | inl here ↦ ap (λ d. (new.buckets d).held) here ∙ on.held ∙ ap (λ d. held_of grid d (new.buckets d).taken) (sym here)
    | inr other ↦
        let same = f.buckets c other in
        ap (λ (x : Bucket X). x.held) same ∙ h.held c ∙ ap (λ (x : Bucket X). held_of grid c x.taken) (sym same)
  ];
  few = λ c. elim (cases_eq c b) [
    | inl here ↦ omega (arith, on.few, ap (λ d. (new.buckets d).taken) here)
    | inr other ↦ omega (arith, h.few c, ap (λ (x : Bucket X). x.taken) (f.buckets c other))
  ];
  waits = λ c there stuck. elim (cases_eq c b) [
    | inl here ↦
        let told = on.waits (ap (λ d. (new.buckets d).free) (sym here) ∙ stuck) in
        let taken : (new.buckets c).taken ≡ t = ap (λ d. (new.buckets d).taken) here ∙ told.0 in
        (omega (arith, taken, told.1), ap (λ j. new.cells j c) taken ∙ ap (new.cells t) here ∙ told.2)
    | inr other ↦
        let same = f.buckets c other in
        let taken = ap (λ (x : Bucket X). x.taken) same in
        let before = h.waits c there (sym (ap (λ (x : Bucket X). x.free) same) ∙ stuck) in
        (omega (arith, taken, before.0), ap (λ j. new.cells j c) taken ∙ f.cells (old.buckets c).taken c (λ _. other) ∙ before.1)
  ];
}
  where
    t : ℕ
    t = (old.buckets b).taken

    on : IsOn grid b (old.buckets b).taken (new.cells (old.buckets b).taken b) (new.buckets b)
    on = goes_on grid b (old.cells (old.buckets b).taken b) (old.buckets b) (new.cells (old.buckets b).taken b) (new.buckets b) (h.held b) f.left
        (λ ps at. h.right (old.buckets b).taken b ps at) f.on
