-- The search for an input by its number.
use Rattle.std.proofs.Common.{◌≡◌, ◌≢◌, ℕ, ◌+◌, ◌<◌, ◌≤◌, List, length, map, get_or, Some, sym, ap, ◌∙◌, arith, ⊎_elim}
use Rattle.std.specs.List.{slice_get}
use Rattle.std.proofs.lemmas.Bool.{cases_lt}
use Rattle.std.proofs.lemmas.Option.{slice_get-get_or}
use Rattle.lk_link.proofs.Elements.{at_index, map_at}
use Rattle.lk_merge.specs.declared.inputs.StringMergeInputSection.{StringMergeInputSection}
use Rattle.lk_merge.specs.Inputs.{AreInputs, input_of}
use Rattle.lk_merge.specs.Pieces.{MergeInput}
use Rattle.lk_merge.proofs.LocatedLemmas.{slice_within}

-- inputs below `low` have lesser numbers, and those from `high` on have that number or greater ones
pub record IsHalved (ss : List StringMergeInputSection) (number low high : ℕ) : Type 0 where
  pub ordered : low ≤ high
  pub within : high ≤ length ss
  pub below : (k : ℕ) (s : StringMergeInputSection) → k < low → slice_get ss k ≡ Some s → s.number < number
  pub behind : (k : ℕ) (s : StringMergeInputSection) → high ≤ k → slice_get ss k ≡ Some s → number ≤ s.number

module _ (total : ℕ) (ss : List StringMergeInputSection) (h : AreInputs total ss) (number : ℕ) where
  pub halved_first : IsHalved ss number 0 (length ss)
  halved_first = record {
    ordered = omega arith;
    within = omega arith;
    below = λ k s low there. absurd (omega (arith, low));
    behind = λ k s high there. absurd (let past = slice_within ss k s there in omega (arith, past, high));
  }

  module _ (low high middle : ℕ) (e : StringMergeInputSection) (k : IsHalved ss number low high) (from : low ≤ middle) (to : middle < high) (is : e ≡ get_or ss middle e) where
    there : slice_get ss middle ≡ Some e
    there = slice_get-get_or ss middle e (omega (arith, to, k.within)) ∙ ap (λ (x : StringMergeInputSection). Some x) (sym is)

    same_number : (j : ℕ) (s : StringMergeInputSection) → j ≡ middle → slice_get ss j ≡ Some s → s.number ≡ e.number
    same_number j s same at =
        let both : Some e ≡ Some s = sym there ∙ ap (slice_get ss) (sym same) ∙ at in
        let one : e ≡ s = cc in
        ap (λ (x : StringMergeInputSection). x.number) (sym one)

    pub halved_up : e.number < number → IsHalved ss number (middle + 1) high
    halved_up less = record {
      ordered = omega (arith, to);
      within = k.within;
      below = λ j s low at. ⊎_elim
          (λ before. let rise = h.rise j middle s e before at there in omega (arith, rise, less))
          (λ back. let same : j ≡ middle = omega (arith, low, back) in let n = same_number j s same at in omega (arith, n, less)) (cases_lt j middle);
      behind = k.behind;
    }

    pub halved_down : number ≤ e.number → IsHalved ss number low middle
    halved_down more = record {
      ordered = from;
      within = omega (arith, to, k.within);
      below = k.below;
      behind = λ j s high at. ⊎_elim
          (λ after. let rise = h.rise middle j e s after there at in omega (arith, rise, more))
          (λ back. let same : j ≡ middle = omega (arith, high, back) in let n = same_number j s same at in omega (arith, n, more)) (cases_lt middle j);
    }

  -- where the search ends, the number is there or nowhere
  pub only_there : (low high k : ℕ) (s : StringMergeInputSection) → IsHalved ss number low high → high ≤ low → slice_get ss k ≡ Some s → s.number ≡ number
      → (e : StringMergeInputSection) → slice_get ss low ≡ Some e → e.number ≡ number
  only_there low high k s g done at is e e_at = ⊎_elim
      (λ before. absurd (let less = g.below k s before at in omega (arith, less, is)))
      (λ back. ⊎_elim
      (λ after.
      let rise = h.rise low k e s after e_at at in
      let more = g.behind low e (omega (arith, done)) e_at in
      absurd (omega (arith, rise, more, is)))
      (λ here.
      let same : k ≡ low = omega (arith, back, here) in
      let both : Some e ≡ Some s = sym e_at ∙ ap (slice_get ss) (sym same) ∙ at in
      let one : e ≡ s = cc in
      ap (λ (x : StringMergeInputSection). x.number) one ∙ is) (cases_lt low k)) (cases_lt k low)

  pub nowhere : (low high k : ℕ) (x : MergeInput) → IsHalved ss number low high → high ≤ low → slice_get (map input_of ss) k ≡ Some x
      → ((e : StringMergeInputSection) → slice_get ss low ≡ Some e → e.number ≢ number) → x.number ≢ number
  nowhere low high k x g done at none is =
      let from = map_at input_of ss k x at in
      let same : from.0.number ≡ x.number = ap (λ (y : MergeInput). y.number) from.2 in
      ⊎_elim
      (λ past.
      let less = g.below k from.0 (omega (arith, past, slice_within ss k from.0 from.1)) from.1 in
      omega (arith, less, same, is))
      (λ inside.
      let e = at_low inside in
      none e.0 e.1 (only_there low high k from.0 g done from.1 (same ∙ is) e.0 e.1)) (cases_lt (length ss) (low + 1))
    where
      at_low : low + 1 ≤ length ss → (e : StringMergeInputSection) × (slice_get ss low ≡ Some e)
      at_low inside = at_index ss low (omega (arith, inside))
