-- How far the bytes of an object are from its block's owner's end.
use Rattle.std.proofs.Common.{◌≡◌, ℕ, zero, suc, ◌+◌, ◌-◌, ◌<◌, ◌≤◌, ◌==◌, inl, inr, Bool, true, false, List, [], drop, get_or, length, max, min, nat_lt, Some, refl, sym, ap, subst, ◌∙◌, arith}
use Rattle.std.specs.List.{slice_get}
use Rattle.std.proofs.lemmas.Bool.{cases_Bool, cases_eq, cases_lt, eqb-true, lt-ltb, ltb-true}
use Rattle.std.proofs.lemmas.List.{get_or-drop}
use Rattle.std.proofs.lemmas.List.Sums.{prefix_len_passes}
use Rattle.lk_link.specs.declared.ids.FileId.{FileId}
use Rattle.lk_thunks.specs.declared.blocks.Block.{Block}
use Rattle.lk_thunks.specs.BlockLaws.{AreEndToEnd, IsIn}
use Rattle.lk_thunks.specs.Blocks.{block_from, blocks_from, ends_in, object_at, owner_from, past, pending_owner}
use Rattle.lk_thunks.specs.Reach.{is_near}
use Rattle.lk_thunks.proofs.Stretches.{first_of_block, owner_inside, past_from, past_within}

-- objects begin one behind the other
rise_by : (range : ℕ) (objects : List (FileId × ℕ × ℕ)) (i n : ℕ) → AreEndToEnd range objects → i + n < length objects → (object_at objects i).1 ≤ (object_at objects (i + n)).1
rise_by range objects i zero h lt = let same : i + zero ≡ i = omega arith in subst (λ k. (object_at objects i).1 ≤ (object_at objects k).1) (sym same) (omega arith)
rise_by range objects i (suc n) h lt =
    let before = rise_by range objects i n h (omega arith) in
    let next = h.follow (i + n) (omega arith) in
    let grows = h.rise (i + n) (omega arith) in
    let same : i + n + 1 ≡ i + suc n = omega arith in
    subst (λ k. (object_at objects i).1 ≤ (object_at objects k).1) same (omega (arith, before, next, grows))

rises : (range : ℕ) (objects : List (FileId × ℕ × ℕ)) (i j : ℕ) → AreEndToEnd range objects → i ≤ j → j < length objects → (object_at objects i).1 ≤ (object_at objects j).1
rises range objects i j h le lt =
    let same : i + (j - i) ≡ j = omega (arith, le) in
    subst (λ k. (object_at objects i).1 ≤ (object_at objects k).1) same (rise_by range objects i (j - i) h (omega (arith, le, lt)))

-- what is passed ends in range of the address
passed : (range : ℕ) (objects : List (FileId × ℕ × ℕ)) (address j m : ℕ) → j ≤ m → m < past range objects address j → (object_at objects m).2 - address < range
unfolding past
passed range objects address j m le lt =
    let nowhere : FileId × ℕ × ℕ = (record { group = 0; file = 0 }, 0, 0) in
    let goes = prefix_len_passes (ends_in range address) (drop j objects) (m - j) nowhere (omega (arith, le, lt)) in
    let same : j + (m - j) ≡ m = omega (arith, le) in
    let here : get_or (drop j objects) (m - j) nowhere ≡ object_at objects m = get_or-drop j objects (m - j) nowhere ∙ ap (object_at objects) same in
    ltb-true ((object_at objects m).2 - address) range (ap (ends_in range address) (sym here) ∙ goes)

-- and end so
end_rises : (range : ℕ) (objects : List (FileId × ℕ × ℕ)) (i j : ℕ) → AreEndToEnd range objects → i ≤ j → j < length objects → (object_at objects i).2 ≤ (object_at objects j).2
end_rises range objects i j h le lt = elim (cases_eq i j) [
  | inl same ↦ subst (λ k. (object_at objects i).2 ≤ (object_at objects k).2) same (omega arith)
  | inr other ↦
      let here = h.follow i (omega (arith, le, other, lt)) in
      let later = rises range objects (i + 1) j h (omega (arith, le, other)) lt in
      omega (arith, here, later, h.rise j lt)
]

-- an owner that was waited for ends in range of where the block begins
waited_ends : (range : ℕ) (objects : List (FileId × ℕ × ℕ)) (f : ℕ) → AreEndToEnd range objects → f < length objects
    → (object_at objects (pending_owner range objects f)).2 - (object_at objects f).1 < range
unfolding pending_owner
waited_ends range objects f h there =
    let from = past_from range objects (object_at objects f).1 (f + 1) in
    elim (cases_eq f (past range objects (object_at objects f).1 (f + 1) - 1)) [
      | inl same ↦ subst (λ k. (object_at objects k).2 - (object_at objects f).1 < range) same (omega (arith, h.short f there, h.rise f there))
      | inr other ↦ passed range objects (object_at objects f).1 (f + 1) (past range objects (object_at objects f).1 (f + 1) - 1) (omega (arith, from, other)) (omega (arith, from))
    ]

-- and so does each owner
owner_ends : (range : ℕ) (objects : List (FileId × ℕ × ℕ)) (f : ℕ) → AreEndToEnd range objects → f < length objects
    → (object_at objects (owner_from range objects f)).2 - (object_at objects f).1 < range
owner_ends range objects f h there = elim (cases_Bool (f == 0)) [
  | inl first ↦ rw first (subst (λ k. (object_at objects k).2 - (object_at objects f).1 < range) (eqb-true f 0 first) (omega (arith, h.short f there, h.rise f there)))
  | inr later ↦ rw later (waited_ends range objects f h there)
]

-- a byte up to the owner's end
near_before : (range : ℕ) (objects : List (FileId × ℕ × ℕ)) (f i w byte : ℕ) → AreEndToEnd range objects → f ≤ i → i ≤ w → w < length objects
    → (object_at objects w).2 - (object_at objects f).1 < range → (object_at objects i).1 ≤ byte → byte < (object_at objects i).2
    → is_near range byte (object_at objects w).2 ≡ true
near_before range objects f i w byte h from up there near begun ended =
    let begin = rises range objects f i h from (omega (arith, up, there)) in
    let end = end_rises range objects i w h up there in
    lt-ltb (max byte (object_at objects w).2 - min byte (object_at objects w).2) range (omega (arith, begin, end, near, begun, ended))

-- one behind it
near_behind : (range : ℕ) (objects : List (FileId × ℕ × ℕ)) (i w byte : ℕ) → AreEndToEnd range objects → w < i → i < length objects
    → (object_at objects i).2 - (object_at objects w).2 < range → (object_at objects i).1 ≤ byte → byte < (object_at objects i).2
    → is_near range byte (object_at objects w).2 ≡ true
near_behind range objects i w byte h lt there near begun ended =
    let here = h.follow w (omega (arith, lt, there)) in
    let later = rises range objects (w + 1) i h (omega (arith, lt)) there in
    lt-ltb (max byte (object_at objects w).2 - min byte (object_at objects w).2) range (omega (arith, here, later, near, begun, ended))

-- a byte of an object of the block from f on
near_owner : (range : ℕ) (objects : List (FileId × ℕ × ℕ)) (f i byte : ℕ) → AreEndToEnd range objects → f < length objects → f ≤ i → i < (block_from range objects f).behind
    → (object_at objects i).1 ≤ byte → byte < (object_at objects i).2 → is_near range byte (object_at objects (block_from range objects f).owner).2 ≡ true
unfolding block_from
near_owner range objects f i byte h there le lt begun ended =
    let inside = owner_inside range objects f there in
    let end = past_within range objects (object_at objects (owner_from range objects f)).2 (owner_from range objects f + 1) (omega (arith, inside.1)) in
    elim (cases_lt (owner_from range objects f) i) [
      | inl behind ↦ near_behind range objects i (owner_from range objects f) byte h behind (omega (arith, lt, end))
          (passed range objects (object_at objects (owner_from range objects f)).2 (owner_from range objects f + 1) i (omega (arith, behind)) lt) begun ended
      | inr up ↦ near_before range objects f i (owner_from range objects f) byte h le up inside.1 (owner_ends range objects f h there) begun ended
    ]

-- a block of the list is that of some object
block_at : (range : ℕ) (objects : List (FileId × ℕ × ℕ)) (n f k : ℕ) (b : Block) → slice_get (blocks_from range objects f n) k ≡ Some b
    → (g : ℕ) × (g < length objects) × (block_from range objects g ≡ b)
unfolding blocks_from
block_at range objects zero f k b h = absurd (cc)
block_at range objects (suc n) f k b h = by (nat_lt f (length objects)) refl k h (λ j. block_at range objects n (block_from range objects f).behind j b)
  where
    by : (t : Bool) → nat_lt f (length objects) ≡ t → (k : ℕ) → slice_get (blocks_from range objects f (suc n)) k ≡ Some b
        → ((j : ℕ) → slice_get (blocks_from range objects (block_from range objects f).behind n) j ≡ Some b → (g : ℕ) × (g < length objects) × (block_from range objects g ≡ b))
        → (g : ℕ) × (g < length objects) × (block_from range objects g ≡ b)
    by true e zero h rest = let here : Some (block_from range objects f) ≡ Some b = (rw e at h) in (f, ltb-true f (length objects) e, cc)
    by true e (suc k) h rest = rest k (rw e at h)
    by false e k h rest = let nothing : slice_get {X = Block} [] k ≡ Some b = (rw e at h) in absurd (cc)

pub near_owners : (range : ℕ) (objects : List (FileId × ℕ × ℕ)) (i k byte : ℕ) → AreEndToEnd range objects → (h : IsIn range objects i k)
    → (object_at objects i).1 ≤ byte → byte < (object_at objects i).2 → is_near range byte (object_at objects h.block.owner).2 ≡ true
near_owners range objects i k byte whole h begun ended =
    let from = block_at range objects (length objects) 0 k h.block h.at in
    let opened : from.0 ≤ i = subst (λ n. n ≤ i) (ap (λ (b : Block). b.first) (sym from.2) ∙ first_of_block range objects from.0) h.opened in
    let inside : i < (block_from range objects from.0).behind = subst (λ (b : Block). i < b.behind) (sym from.2) h.inside in
    subst (λ (b : Block). is_near range byte (object_at objects b.owner).2 ≡ true) from.2 (near_owner range objects from.0 i byte whole from.1 opened inside begun ended)
