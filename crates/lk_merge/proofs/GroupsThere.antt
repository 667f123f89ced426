-- There are groups for each size above 0.
use Rattle.std.proofs.Common.{◌≡◌, ℕ, zero, suc, ◌+◌, ◌<◌, ◌≤◌, Bool, true, false, List, [], ◌∷◌, length, refl, ap, arith, inl, inr, ⊎_elim}
use Rattle.std.proofs.lemmas.Bool.{cases_lt}
use Rattle.std.proofs.lemmas.List.{take_all}
use Rattle.lk_link.proofs.Elements.{at_index}
use Rattle.lk_merge.specs.declared.groups.SectionGroup.{SectionGroup}
use Rattle.lk_merge.specs.Groups.{AreGroups, IsGroupEnd}
use Rattle.lk_merge.specs.GroupTables.{IsInputAt}
use Rattle.lk_merge.specs.Inputs.{input_start, padded_len, padded_total}
use Rattle.lk_merge.specs.Pieces.{MergeInput}
use Rattle.lk_merge.proofs.Grouping.{end_at, end_behind, end_total, groups_end, groups_more, next_start}

-- an offset of inputs is in one of them
input_at : (xs : List MergeInput) (at n k : ℕ) → n + k ≡ length xs → input_start xs k ≤ at → at < padded_total xs → (i : ℕ) × IsInputAt xs at i
input_at xs at zero k count from below =
    let all : input_start xs k ≡ padded_total xs = ap padded_total (take_all k xs (omega (arith, count))) in
    absurd (omega (arith, all, from, below))
input_at xs at (suc n) k count from below =
    let x = at_index xs k (omega (arith, count)) in
    let next = next_start xs k x.0 x.1 in
    ⊎_elim
    (λ inside. (k, record { input = x.0; there = x.1; from = from; below = inside }))
    (λ past. input_at xs at n (k + 1) (omega (arith, count)) (omega (arith, next, past)) below) (cases_lt at (input_start xs k + padded_len x.0))

module _ (xs : List MergeInput) (size : ℕ) (some : 0 < size) where
  abbrev End : ℕ → Type 0
  End start = (end : ℕ) × IsGroupEnd xs size start end × (start < end)

  end_in : (start k : ℕ) → IsInputAt xs (start + size) k → End start
  end_in start k h = by h.input.strings refl
    where
      by : (t : Bool) → h.input.strings ≡ t → End start
      by true e = (start + size, end_at xs size start (start + size) k refl h (inl e), omega (arith, some))
      by false e = ⊎_elim
          (λ inside.
          let below = h.below in
          (input_start xs k + padded_len h.input, end_behind xs size start (start + size) k refl h e (λ same. omega (arith, same, inside)), omega (arith, below)))
          (λ begins.
          let from = h.from in
          (start + size, end_at xs size start (start + size) k refl h (inr (omega (arith, begins, from))), omega (arith, some)))
          (cases_lt (input_start xs k) (start + size))

  end_there : (start : ℕ) → start < padded_total xs → End start
  end_there start below = ⊎_elim
      (λ short. let i = input_at xs (start + size) (length xs) 0 (omega arith) (omega arith) short in end_in start i.0 i.1)
      (λ long. (padded_total xs, end_total xs size start (omega (arith, long)), below)) (cases_lt (start + size) (padded_total xs))

  -- groups from an offset on; `fuel` bounds the bytes that are left
  pub groups_there : (fuel start : ℕ) → padded_total xs ≤ start + fuel → start ≤ padded_total xs → (gs : List SectionGroup) × AreGroups xs size start gs
  groups_there zero start left within = ([], groups_end xs size start (omega (arith, left, within)))
  groups_there (suc fuel) start left within = ⊎_elim
      (λ below.
      let end = end_there start below in
      let is = end.1 in
      let further = end.2 in
      let rest = groups_there fuel end.0 (omega (arith, left, further)) is.within in
      (record { start = start; end = end.0 } ∷ rest.0, groups_more xs size start end.0 rest.0 further is rest.1))
      (λ done. ([], groups_end xs size start (omega (arith, done, within)))) (cases_lt start (padded_total xs))
