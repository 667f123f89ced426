-- What holds behind every list of steps, and so at the start.
use Rattle.std.proofs.Common.{◌≡◌, ◌<◌, ◌≤◌, ◌==◌, ◌&&◌, ◌∙◌, ℕ, Bool, true, false, List, ap, arith, cond, inl, inr, ltb, sym}
use Rattle.std.proofs.lemmas.Bool.{cases_eq, eq-eqb, lt-ltb}
use Rattle.lk_grid.specs.Machine.{Bucket, Empty, Filled, Grid, IsStart, State, Waiting, first_cell, held_of}

-- filled cells have their group's pieces, buckets hold what they have taken, and one that isn't free waits in the cell of its next group
pub record IsGood {X : Type 0} (grid : Grid X) (st : State X) : Type 0 where
  pub right : (g b : ℕ) (ps : List X) → st.cells g b ≡ Filled ps → ps ≡ grid.pieces g b
  pub held : (b : ℕ) → (st.buckets b).held ≡ held_of grid b (st.buckets b).taken
  pub few : (b : ℕ) → (st.buckets b).taken ≤ grid.groups
  pub waits : (b : ℕ) → b < grid.buckets → (st.buckets b).free ≡ false
      → ((st.buckets b).taken < grid.groups) × (st.cells (st.buckets b).taken b ≡ Waiting)

none_filled : {X : Type 0} {A : Type 0} (t : Bool) (ps : List X) → cond t Waiting Empty ≡ Filled ps → A
none_filled true ps e = absurd (cc)
none_filled false ps e = absurd (cc)

some_group : (n : ℕ) → (n == 0) ≡ false → 0 < n
some_group n none = elim (cases_eq n 0) [
  | inl empty ↦ absurd (let both : true ≡ false = sym (eq-eqb n 0 empty) ∙ none in cc)
  | inr some ↦ omega (arith, some)
]

waits_first : {X : Type 0} (grid : Grid X) (b : ℕ) → 0 < grid.groups → b < grid.buckets → first_cell grid 0 b ≡ Waiting
waits_first grid b some there =
    ap (λ t. cond (t && ltb b grid.buckets) Waiting Empty) (lt-ltb 0 grid.groups some) ∙ ap (λ t. cond t Waiting Empty) (lt-ltb b grid.buckets there)

pub good_start : {X : Type 0} (grid : Grid X) (st : State X) → IsStart grid st → IsGood grid st
unfolding held_of
good_start {X} grid st h = record {
  right = λ g b ps at. none_filled _ ps (sym (h.cells g b) ∙ at);
  held = λ b. ap (λ (x : Bucket X). x.held) (h.buckets b) ∙ sym (ap (λ (x : Bucket X). held_of grid b x.taken) (h.buckets b));
  few = λ b. omega (arith, ap (λ (x : Bucket X). x.taken) (h.buckets b));
  waits = λ b there stuck.
      let some = some_group grid.groups (sym (ap (λ (x : Bucket X). x.free) (h.buckets b)) ∙ stuck) in
      let first = ap (λ (x : Bucket X). x.taken) (h.buckets b) in
      (omega (arith, some, first), ap (λ t. st.cells t b) first ∙ h.cells 0 b ∙ waits_first grid b some there);
}
