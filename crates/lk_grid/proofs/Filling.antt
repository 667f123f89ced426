-- A cell is filled.
use Rattle.std.proofs.Common.{◌≡◌, ◌≢◌, ◌<◌, ◌∙◌, [], ℕ, true, false, List, ap, arith, inl, inr, refl, sym}
use Rattle.std.proofs.lemmas.Bool.{cases_eq}
use Rattle.lk_grid.specs.Machine.{Bucket, Cell, Empty, Filled, Fills, Grid, IsFreed, State, Taken, Waiting, held_of}
use Rattle.lk_grid.proofs.Good.{IsGood}

-- the pieces in a cell
inside : {X : Type 0} → Cell X → List X
inside (Filled ps) = ps
inside _ = []

pub same_pieces : {X : Type 0} (ps qs : List X) → Filled ps ≡ Filled qs → ps ≡ qs
unfolding inside
same_pieces ps qs e = ap inside e

-- a bucket that was freed holds what it held
freed_same : {X : Type 0} (cell : Cell X) (old new : Bucket X) → IsFreed cell old new → (new.held ≡ old.held) × (new.taken ≡ old.taken)
freed_same {X} Empty old new e = (ap (λ (x : Bucket X). x.held) e, ap (λ (x : Bucket X). x.taken) e)
freed_same {X} Waiting old new e = (ap (λ (x : Bucket X). x.held) e, ap (λ (x : Bucket X). x.taken) e)
freed_same (Filled ps) old new e = absurd e
freed_same Taken old new e = absurd e

-- one that waits behind that waits in another cell
still_waits : {X : Type 0} (grid : Grid X) (g b : ℕ) (old new : State X) (cell : Cell X) → IsGood grid old → Fills grid g b old new → old.cells g b ≡ cell
    → IsFreed cell (old.buckets b) (new.buckets b) → (new.buckets b).free ≡ false
    → ((new.buckets b).taken < grid.groups) × (new.cells (new.buckets b).taken b ≡ Waiting)
still_waits {X} grid g b old new Empty h f at e stuck =
    let taken = ap (λ (x : Bucket X). x.taken) e in
    let before = h.waits b f.bucket (sym (ap (λ (x : Bucket X). x.free) e) ∙ stuck) in
    let other : (old.buckets b).taken ≢ g
    = λ same. absurd (let both : Waiting ≡ Empty = sym before.1 ∙ ap (λ t. old.cells t b) same ∙ at in cc) in
    (omega (arith, taken, before.0), ap (λ t. new.cells t b) taken ∙ f.cells (old.buckets b).taken b (λ same. absurd (other same)) ∙ before.1)
still_waits {X} grid g b old new Waiting h f at e stuck = absurd (let both : true ≡ false = sym (ap (λ (x : Bucket X). x.free) e) ∙ stuck in cc)
still_waits grid g b old new (Filled ps) h f at e stuck = absurd e
still_waits grid g b old new Taken h f at e stuck = absurd e

pub good_filled : {X : Type 0} (grid : Grid X) (g b : ℕ) (old new : State X) → IsGood grid old → Fills grid g b old new → IsGood grid new
good_filled {X} grid g b old new h f = record {
  right = λ i c ps at. elim (cases_eq i g) [
    | inl row ↦ elim (cases_eq c b) [
      | inl column ↦
          let here : new.cells i c ≡ Filled (grid.pieces g b) = ap (λ j. new.cells j c) row ∙ ap (new.cells g) column ∙ f.filled in
          same_pieces ps (grid.pieces g b) (sym at ∙ here) ∙ ap (λ j. grid.pieces j b) (sym row) ∙ ap (grid.pieces i) (sym column)
      | inr column ↦ h.right i c ps (sym (f.cells i c (λ _. column)) ∙ at)
    ]
    | inr row ↦ h.right i c ps (sym (f.cells i c (λ same. absurd (row same))) ∙ at)
  ];
  held = λ c. let same = bucket c in same.0 ∙ h.held c ∙ ap (held_of grid c) (sym same.1);
  few = λ c. omega (arith, (bucket c).1, h.few c);
  waits = λ c there stuck. elim (cases_eq c b) [
    | inl here ↦ waits_here c here stuck
    | inr other ↦
        let same = f.buckets c other in
        let taken = ap (λ (x : Bucket X). x.taken) same in
        let before = h.waits c there (sym (ap (λ (x : Bucket X). x.free) same) ∙ stuck) in
        (omega (arith, taken, before.0), ap (λ t. new.cells t c) taken ∙ f.cells (old.buckets c).taken c (λ _. other) ∙ before.1)
  ];
}
  where
    bucket : (c : ℕ) → ((new.buckets c).held ≡ (old.buckets c).held) × ((new.buckets c).taken ≡ (old.buckets c).taken)
    bucket c = elim (cases_eq c b) [
      | inl here ↦
          let same = freed_same (old.cells g b) (old.buckets b) (new.buckets b) f.freed in (
            ap (λ d. (new.buckets d).held) here ∙ same.0 ∙ ap (λ d. (old.buckets d).held) (sym here),
            ap (λ d. (new.buckets d).taken) here ∙ same.1 ∙ ap (λ d. (old.buckets d).taken) (sym here),
          )
      | inr other ↦ (ap (λ (x : Bucket X). x.held) (f.buckets c other), ap (λ (x : Bucket X). x.taken) (f.buckets c other))
    ]

    waits_here : (c : ℕ) → c ≡ b → (new.buckets c).free ≡ false → ((new.buckets c).taken < grid.groups) × (new.cells (new.buckets c).taken c ≡ Waiting)
    waits_here c here stuck =
        let told = still_waits grid g b old new (old.cells g b) h f refl f.freed (ap (λ d. (new.buckets d).free) (sym here) ∙ stuck) in
        (omega (arith, told.0, ap (λ d. (new.buckets d).taken) here), ap (λ d. new.cells (new.buckets d).taken d) here ∙ told.1)
