-- The groups into which inputs are cut.
use Rattle.std.proofs.Common.{◌≡◌, ◌≢◌, ℕ, ◌+◌, ◌-◌, ◌<◌, ◌≤◌, true, false, List, [], ◌∷◌, length, map, take, get_or, Some, option_map, refl, sym, ap, ◌∙◌, arith, inl, inr, ◌⊎◌, ⊎_elim}
use Rattle.std.specs.List.{slice_get}
use Rattle.std.proofs.lemmas.Bool.{cases_lt, true≢false}
use Rattle.std.proofs.lemmas.List.{length-map, take-map, take_all}
use Rattle.std.proofs.lemmas.List.Sums.{sum_by_more}
use Rattle.std.proofs.lemmas.Option.{get_or_from_slice_get, slice_get-map, slice_get-get_or}
use Rattle.lk_link.proofs.Elements.{at_index}
use Rattle.lk_merge.specs.declared.groups.SectionGroup.{SectionGroup}
use Rattle.lk_merge.specs.declared.inputs.StringMergeInputSection.{StringMergeInputSection}
use Rattle.lk_merge.specs.Groups.{AreGroups, CutsNoConstant, IsGroupEnd}
use Rattle.lk_merge.specs.GroupTables.{IsInputAt}
use Rattle.lk_merge.specs.Inputs.{AreInputs, input_of, input_start, padded_len, padded_total}
use Rattle.lk_merge.specs.Pieces.{MergeInput}
use Rattle.lk_merge.proofs.Finding.{starts_behind}
use Rattle.lk_merge.proofs.LocatedLemmas.{slice_within}

-- ---- where inputs start and end

pub next_start : (xs : List MergeInput) (k : ℕ) (x : MergeInput) → slice_get xs k ≡ Some x → input_start xs (k + 1) ≡ input_start xs k + padded_len x
next_start xs k x there =
    sum_by_more padded_len xs k x (slice_within xs k x there) ∙ ap (λ y. input_start xs k + padded_len y) (get_or_from_slice_get xs k x x there)

pub ends_by_total : (xs : List MergeInput) (k : ℕ) (x : MergeInput) → slice_get xs k ≡ Some x → input_start xs k + padded_len x ≤ padded_total xs
ends_by_total xs k x there =
    let behind = starts_behind xs k (length xs) x (slice_within xs k x there) (omega arith) there in
    let all : padded_total (take (length xs) xs) ≡ padded_total xs = ap padded_total (take_all (length xs) xs (omega arith)) in
    omega (arith, behind, all)

-- two inputs: the one ends where the other starts, or before, or they are one
later : (xs : List MergeInput) (j k : ℕ) (x y : MergeInput) → slice_get xs j ≡ Some x → slice_get xs k ≡ Some y → j < k → input_start xs j + padded_len x ≤ input_start xs k
later xs j k x y x_at y_at before = let within = slice_within xs k y y_at in starts_behind xs j k x before (omega (arith, within)) x_at

-- ---- the search for the input that an offset is in

-- the input at `low` starts at the offset or before, and the one at `high` behind it
pub record IsHalved (ss : List StringMergeInputSection) (at low high : ℕ) : Type 0 where
  pub below : low < high
  pub within : high ≤ length ss
  pub from : (s : StringMergeInputSection) → slice_get ss low ≡ Some s → s.start_input_offset ≤ at
  pub behind : (s : StringMergeInputSection) → slice_get ss high ≡ Some s → at < s.start_input_offset

module _ (total : ℕ) (ss : List StringMergeInputSection) (h : AreInputs total ss) where
  pub start_is : (k : ℕ) (s : StringMergeInputSection) → slice_get ss k ≡ Some s → s.start_input_offset ≡ input_start (map input_of ss) k
  start_is k s there = h.starts k s there ∙ ap padded_total (sym (take-map input_of k ss))

  pub input_is : (k : ℕ) (s : StringMergeInputSection) → slice_get ss k ≡ Some s → slice_get (map input_of ss) k ≡ Some (input_of s)
  input_is k s there = slice_get-map input_of ss k ∙ ap (option_map input_of) there

  some_inputs : (at : ℕ) → at < total → 0 < length ss
  some_inputs at below = by ss h.sum
    where
      by : (rs : List StringMergeInputSection) → total ≡ padded_total (map input_of rs) → 0 < length rs
      by [] none = absurd (omega (arith, none, below))
      by (r ∷ rs) sum = omega arith

  pub halved_first : (at : ℕ) → at < total → IsHalved ss at 0 (length ss)
  halved_first at below = record {
    below = some_inputs at below;
    within = omega arith;
    from = λ s there. let start = start_is 0 s there in omega (arith, start);
    behind = λ s there. absurd (let past = slice_within ss (length ss) s there in omega (arith, past));
  }

  pub halved_up : (at low high middle : ℕ) (s : StringMergeInputSection) → IsHalved ss at low high → middle < high → s ≡ get_or ss middle s → s.start_input_offset ≤ at
      → IsHalved ss at middle high
  halved_up at low high middle s k below is starts = record {
    below = below;
    within = k.within;
    from = λ t there. let same : s.start_input_offset ≡ t.start_input_offset = ap (λ (x : StringMergeInputSection). x.start_input_offset) (is ∙ get_or_from_slice_get ss middle t s there) in omega (arith, same, starts);
    behind = k.behind;
  }

  pub halved_down : (at low high middle : ℕ) (s : StringMergeInputSection) → IsHalved ss at low high → low < middle → middle < high → s ≡ get_or ss middle s → at < s.start_input_offset
      → IsHalved ss at low middle
  halved_down at low high middle s k from below is starts = record {
    below = from;
    within = omega (arith, k.within, below);
    from = k.from;
    behind = λ t there. let same : s.start_input_offset ≡ t.start_input_offset = ap (λ (x : StringMergeInputSection). x.start_input_offset) (is ∙ get_or_from_slice_get ss middle t s there) in omega (arith, same, starts);
  }

  pub halved_last : (at low high : ℕ) → at < total → IsHalved ss at low high → high - low ≤ 1 → IsInputAt (map input_of ss) at low
  halved_last at low high below k done =
      let xs : List MergeInput = map input_of ss in
      let s = at_index ss low (omega (arith, k.below, k.within)) in
      let there = input_is low s.0 s.1 in
      let start = start_is low s.0 s.1 in
      let from = k.from s.0 s.1 in
      let next = next_start xs low (input_of s.0) there in
      let far : high ≡ low + 1 = omega (arith, k.below, done) in
      record {
        input = input_of s.0;
        there = there;
        from = omega (arith, start, from);
        below = ⊎_elim
            (λ inside.
            let t = at_index ss high inside in
            let t_start = start_is high t.0 t.1 in
            let behind = k.behind t.0 t.1 in
            let same : input_start xs high ≡ input_start xs (low + 1) = ap (input_start xs) far in
            omega (arith, next, t_start, behind, same))
            (λ last.
            let count : length xs ≡ length ss = length-map ss input_of in
            let all : input_start xs high ≡ padded_total xs = ap padded_total (take_all high xs (omega (arith, last, count))) in
            let same : input_start xs high ≡ input_start xs (low + 1) = ap (input_start xs) far in
            omega (arith, next, all, same, h.sum, below)) (cases_lt high (length ss));
      }

  -- the input that was found
  pub found_input : (at k : ℕ) (g : IsInputAt (map input_of ss) at k) (s : StringMergeInputSection) → s ≡ get_or ss k s → g.input ≡ input_of s
  found_input at k g s is =
      let count : length (map input_of ss) ≡ length ss = length-map ss input_of in
      let within = slice_within (map input_of ss) k g.input g.there in
      let there : slice_get ss k ≡ Some s = slice_get-get_or ss k s (omega (arith, count, within)) ∙ ap (λ (x : StringMergeInputSection). Some x) (sym is) in
      let both : Some g.input ≡ Some (input_of s) = sym g.there ∙ input_is k s there in
      cc

  pub found_start : (at k : ℕ) (g : IsInputAt (map input_of ss) at k) (s : StringMergeInputSection) → s ≡ get_or ss k s → s.start_input_offset ≡ input_start (map input_of ss) k
  found_start at k g s is =
      let count : length (map input_of ss) ≡ length ss = length-map ss input_of in
      let within = slice_within (map input_of ss) k g.input g.there in
      start_is k s (slice_get-get_or ss k s (omega (arith, count, within)) ∙ ap (λ (x : StringMergeInputSection). Some x) (sym is))

  pub start_at : (k : ℕ) (x : MergeInput) → slice_get (map input_of ss) k ≡ Some x → (s : StringMergeInputSection) → s ≡ get_or ss k s
      → s.start_input_offset ≡ input_start (map input_of ss) k
  start_at k x there s is =
      let count : length (map input_of ss) ≡ length ss = length-map ss input_of in
      let within = slice_within (map input_of ss) k x there in
      start_is k s (slice_get-get_or ss k s (omega (arith, count, within)) ∙ ap (λ (y : StringMergeInputSection). Some y) (sym is))

-- ---- the end of a group

module _ (xs : List MergeInput) (size start : ℕ) where
  pub end_total : padded_total xs - start ≤ size → IsGroupEnd xs size start (padded_total xs)
  end_total long = record {
    cuts_none = λ k x there one. inr (ends_by_total xs k x there);
    within = omega arith;
    reaches = inr refl;
    first = λ at far near cut. omega (arith, long, far, near);
  }

  module _ (at k : ℕ) (is : at ≡ start + size) (h : IsInputAt xs at k) where
    -- a cut at the offset, where the input isn't cut or may be
    cut_at : (h.input.strings ≡ true) ⊎ (input_start xs k ≡ at) → CutsNoConstant xs at
    cut_at fine j y there one = ⊎_elim
        (λ before. inr (let end = later xs j k y h.input there h.there before in omega (arith, end, h.from)))
        (λ behind. ⊎_elim
        (λ after. inl (let end = later xs k j h.input y h.there there after in omega (arith, end, h.below)))
        (λ back. let same : j ≡ k = omega (arith, behind, back) in inl (here same)) (cases_lt k j)) (cases_lt j k)
      where
        here : j ≡ k → at ≤ input_start xs j
        here same = ⊎_elim
            (λ string.
            let both : Some h.input ≡ Some y = sym h.there ∙ ap (slice_get xs) (sym same) ∙ there in
            let input : h.input ≡ y = cc in
            absurd (true≢false (sym string ∙ ap (λ (x : MergeInput). x.strings) input ∙ one)))
            (λ begins. let start_same : input_start xs j ≡ input_start xs k = ap (input_start xs) same in omega (arith, begins, start_same)) fine

    pub end_at : (h.input.strings ≡ true) ⊎ (input_start xs k ≡ at) → IsGroupEnd xs size start at
    end_at fine = record {
      cuts_none = cut_at fine;
      within = let end = ends_by_total xs k h.input h.there in omega (arith, end, h.below);
      reaches = inl (omega (arith, is));
      first = λ other far near cut. omega (arith, is, far, near);
    }

    pub end_behind : h.input.strings ≡ false → input_start xs k ≢ at → IsGroupEnd xs size start (input_start xs k + padded_len h.input)
    end_behind constant inside = record {
      cuts_none = λ j y there one. ⊎_elim
          (λ before. inr (let end = later xs j k y h.input there h.there before in omega (arith, end)))
          (λ behind. ⊎_elim
          (λ after. inl (later xs k j h.input y h.there there after))
          (λ back.
          let same : j ≡ k = omega (arith, behind, back) in
          let both : Some h.input ≡ Some y = sym h.there ∙ ap (slice_get xs) (sym same) ∙ there in
          let input : h.input ≡ y = cc in
          let starts : input_start xs j ≡ input_start xs k = ap (input_start xs) same in
          let lens : padded_len h.input ≡ padded_len y = ap padded_len input in
          inr (omega (arith, starts, lens))) (cases_lt k j)) (cases_lt j k);
      within = ends_by_total xs k h.input h.there;
      reaches = inl (omega (arith, is, h.below));
      first = λ other far near cut. ⊎_elim
          (λ before. omega (arith, before, is, far, h.from, inside))
          (λ behind. omega (arith, behind, near)) (cut k h.input h.there constant);
    }

-- ---- groups so far

pub groups_end : (xs : List MergeInput) (size start : ℕ) → start ≡ padded_total xs → AreGroups xs size start []
unfolding AreGroups
groups_end xs size start h = h

pub groups_more : (xs : List MergeInput) (size start end : ℕ) (gs : List SectionGroup) → start < end → IsGroupEnd xs size start end → AreGroups xs size end gs
    → AreGroups xs size start (record { start = start; end = end } ∷ gs)
unfolding AreGroups
groups_more xs size start end gs some is rest = (refl, some, is, rest)
