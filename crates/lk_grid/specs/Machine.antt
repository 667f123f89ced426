-- The matrix by which workers merge, step by step.
use Rattle.std.specs.Prelude.{◌≡◌, ◌≢◌, ℕ, zero, suc, ◌+◌, ◌<◌, ◌==◌, ◌&&◌, Bool, true, false, if◌then◌else◌, List, [], ◌∷◌, nat_lt}

-- ---- what is merged

-- so many groups and buckets, the pieces of each group for each bucket, and what a bucket that holds some pieces makes of these and more
pub record Grid (X : Type 0) : Type 0 where
  pub groups : ℕ
  pub buckets : ℕ
  pub pieces : ℕ → ℕ → List X
  pub with_more : List X → List X → List X

-- what a bucket holds of the first so many groups, taken in their order
unfoldable pub held_of : {X : Type 0} → Grid X → ℕ → ℕ → List X
held_of grid b zero = []
held_of grid b (suc g) = grid.with_more (held_of grid b g) (grid.pieces g b)

-- ---- states

-- the cell of a group and a bucket: neither has come; the group's pieces are there; the bucket waits there for them; or both are gone
pub data Cell (X : Type 0) : Type 0 where
  Empty : Cell X
  Filled : List X → Cell X
  Waiting : Cell X
  Taken : Cell X

-- a bucket: how many groups it has taken, what it holds, and whether it can be worked on, which it can't while it waits in a cell
pub record Bucket (X : Type 0) : Type 0 where
  pub taken : ℕ
  pub held : List X
  pub free : Bool

-- the cells by group and bucket, and the buckets
pub record State (X : Type 0) : Type 0 where
  pub cells : ℕ → ℕ → Cell X
  pub buckets : ℕ → Bucket X

-- at first each bucket waits for the first group, where there is one
abbrev pub first_cell : {X : Type 0} → Grid X → ℕ → ℕ → Cell X
first_cell grid g b = if g == 0 && (nat_lt 0 grid.groups && nat_lt b grid.buckets) then Waiting else Empty

pub record IsStart {X : Type 0} (grid : Grid X) (st : State X) : Type 0 where
  pub cells : (g b : ℕ) → st.cells g b ≡ first_cell grid g b
  pub buckets : (b : ℕ) → st.buckets b ≡ record { taken = 0; held = []; free = grid.groups == 0 }

-- ---- steps

-- a group's pieces come to a cell, or a bucket goes on to the cell of its next group
pub data Step : Type 0 where
  Fill : ℕ → ℕ → Step
  TakeNext : ℕ → Step

-- all buckets but one, and all cells but one, are as they were
abbrev pub SameBuckets : {X : Type 0} → ℕ → State X → State X → Type 0
SameBuckets b old new = (c : ℕ) → c ≢ b → new.buckets c ≡ old.buckets c

abbrev pub SameCells : {X : Type 0} → ℕ → ℕ → State X → State X → Type 0
SameCells g b old new = (h c : ℕ) → (h ≡ g → c ≢ b) → new.cells h c ≡ old.cells h c

-- what becomes of a bucket when its cell is filled: one that waited there is free; a cell is filled once
abbrev pub IsFreed : {X : Type 0} → Cell X → Bucket X → Bucket X → Type 0
IsFreed Empty old new = new ≡ old
IsFreed Waiting old new = new ≡ record { taken = old.taken; held = old.held; free = true }
IsFreed _ old new = ⊥

-- a cell gets the pieces of its group
pub record Fills {X : Type 0} (grid : Grid X) (g b : ℕ) (old new : State X) : Type 0 where
  pub group : g < grid.groups
  pub bucket : b < grid.buckets
  pub filled : new.cells g b ≡ Filled (grid.pieces g b)
  pub cells : SameCells g b old new
  pub buckets : SameBuckets b old new
  pub freed : IsFreed (old.cells g b) (old.buckets b) (new.buckets b)

-- what becomes of a bucket and the cell that it comes to: it takes the pieces that are there, and both are gone from the cell; or it waits
abbrev pub GoesOn : {X : Type 0} → Grid X → Cell X → Bucket X → Cell X → Bucket X → Type 0
GoesOn grid (Filled ps) old cell new = (cell ≡ Taken) × (new ≡ record { taken = old.taken + 1; held = grid.with_more old.held ps; free = true })
GoesOn grid Empty old cell new = (cell ≡ Waiting) × (new ≡ record { taken = old.taken; held = old.held; free = false })
GoesOn grid _ old cell new = ⊥

-- a free bucket that hasn't taken all groups comes to the cell of its next one
pub record Takes {X : Type 0} (grid : Grid X) (b : ℕ) (old new : State X) : Type 0 where
  pub bucket : b < grid.buckets
  pub free : (old.buckets b).free ≡ true
  pub left : (old.buckets b).taken < grid.groups
  pub cells : SameCells (old.buckets b).taken b old new
  pub buckets : SameBuckets b old new
  pub on : GoesOn grid (old.cells (old.buckets b).taken b) (old.buckets b) (new.cells (old.buckets b).taken b) (new.buckets b)

abbrev pub Does : {X : Type 0} → Grid X → Step → State X → State X → Type 0
Does grid (Fill g b) old new = Fills grid g b old new
Does grid (TakeNext b) old new = Takes grid b old new

-- some steps, the last one first, lead from the start to a state
unfoldable pub LeadTo : {X : Type 0} → Grid X → List Step → State X → Type 0
LeadTo grid [] st = IsStart grid st
LeadTo {X} grid (step ∷ steps) st = (before : State X) × LeadTo grid steps before × Does grid step before st
