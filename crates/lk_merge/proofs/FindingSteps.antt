-- What a look-up finds, by what it has seen.
use Rattle.std.proofs.Common.{◌≡◌, ◌≢◌, ℕ, ◌+◌, ◌-◌, ◌^◌, ◌≤◌, ◌<◌, List, length, map, take, get_or, Option, None, Some, sym, ap, ◌∙◌, subst, arith, inl, inr, ◌⊎◌, ⊎_elim, option_map}
use Rattle.std.specs.List.{slice_get}
use Rattle.std.proofs.lemmas.Bool.{cases_lt}
use Rattle.std.proofs.lemmas.List.{take-map, take_all, length-map}
use Rattle.std.proofs.lemmas.Option.{slice_get-map, slice_get-get_or}
use Rattle.lk_merge.specs.declared.inputs.StringMergeInputSection.{StringMergeInputSection}
use Rattle.lk_merge.specs.declared.offset_map.OffsetMap.{OffsetMap}
use Rattle.lk_merge.specs.declared.offset_map.PieceEntry.{PieceEntry}
use Rattle.lk_merge.specs.Buckets.{Bucket}
use Rattle.lk_merge.specs.GroupTables.{IsInputAt}
use Rattle.lk_merge.specs.Hash.{fnv64}
use Rattle.lk_merge.specs.Image.{all_pieces}
use Rattle.lk_merge.specs.Inputs.{AreInputs, input_of, input_start, located, padded_len, padded_total}
use Rattle.lk_merge.specs.MergedTables.{IsMerged}
use Rattle.lk_merge.specs.Merging.{found_place}
use Rattle.lk_merge.specs.MergingTables.{entry_of}
use Rattle.lk_merge.specs.OffsetMaps.{IsLast, NoneAt, StartsRise}
use Rattle.lk_merge.specs.Pieces.{MergeInput}
use Rattle.lk_merge.proofs.Finding.{IsFound, IsNowhere, entries_rise, found_or_nowhere, not_none, only_last, starts_behind}
use Rattle.lk_merge.proofs.LaidOut.{data_fits, input_starts}
use Rattle.lk_merge.proofs.LocatedLemmas.{slice_within}

one_of : {X : Type 0} {o : Option X} {a b : X} → o ≡ Some a → o ≡ Some b → a ≡ b
one_of p q = cc

-- an input ends before all inputs do
ends : (xs : List MergeInput) (k : ℕ) (x : MergeInput) → slice_get xs k ≡ Some x → padded_total (take k xs) + padded_len x ≤ padded_total xs
ends xs k x there =
    let behind = starts_behind xs k (length xs) x (slice_within xs k x there) (omega arith) there in
    let all : padded_total (take (length xs) xs) ≡ padded_total xs = ap padded_total (take_all (length xs) xs (omega arith)) in
    omega (arith, behind, all)

module _ (xs : List MergeInput) (buckets : List Bucket) (offsets : OffsetMap) (m : IsMerged xs buckets offsets) where
  pub rising : StartsRise (map (entry_of (all_pieces xs)) (located xs))
  rising = entries_rise xs m.terminated m.small

  module _ (start offset : ℕ) where
    looked : IsFound xs m.terminated m.small start offset ⊎ IsNowhere xs m.terminated m.small start offset
    looked = found_or_nowhere xs m.terminated m.small start offset

    pub past_all : padded_total xs ≤ start → found_place fnv64 xs start offset ≡ None
    past_all far = elim looked [
      | inl f ↦ absurd (
          let end = ends xs f.number f.input f.there in
          let fit = data_fits f.input in
          let starts = f.starts in
          let short = f.short in
          omega (arith, far, end, fit, starts, short))
      | inr n ↦ n.answer
    ]

  module _ (total : ℕ) (sections : List StringMergeInputSection) (are : map input_of sections ≡ xs) (laid : AreInputs total sections) (start offset : ℕ) where
    module _ (k : ℕ) (held : IsInputAt (map input_of sections) start k) (s : StringMergeInputSection) (s_is : s ≡ get_or sections k s) where
      pub within : k < length sections
      within = let w = slice_within (map input_of sections) k held.input held.there in let n = length-map sections input_of in omega (arith, w, n)

      there : slice_get xs k ≡ Some (input_of s)
      there =
          ap (λ l. slice_get l k) (sym are) ∙ slice_get-map input_of sections k
          ∙ ap (option_map input_of) (slice_get-get_or sections k s within ∙ ap (λ (x : StringMergeInputSection). Some x) (sym s_is))

      starts : s.start_input_offset ≡ padded_total (take k xs)
      starts =
          input_starts total sections k s laid within s_is
          ∙ ap padded_total (sym (take-map input_of k sections) ∙ ap (take k) are)

      from : padded_total (take k xs) ≤ start
      from = let f = held.from in let same : input_start (map input_of sections) k ≡ padded_total (take k xs) = ap (λ l. padded_total (take k l)) are in omega (arith, f, same)

      below : start < padded_total (take k xs) + padded_len (input_of s)
      below =
          let b = held.below in
          let same : input_start (map input_of sections) k ≡ padded_total (take k xs) = ap (λ l. padded_total (take k l)) are in
          let one : held.input ≡ input_of s = one_of held.there (ap (λ l. slice_get l k) are ∙ there) in
          let len : padded_len held.input ≡ padded_len (input_of s) = ap padded_len one in
          omega (arith, b, same, len)

      -- what is found is in the input that holds the start
      same_number : (f : IsFound xs m.terminated m.small start offset) → f.number ≡ k
      same_number f =
          let short = f.short in
          let fit = data_fits f.input in
          let begins = f.starts in
          let f_within = slice_within xs f.number f.input f.there in
          let k_within = slice_within xs k (input_of s) there in
          ⊎_elim
          (λ less. absurd (let r = starts_behind xs f.number k f.input less (omega (arith, k_within)) f.there in omega (arith, r, from, short, fit, begins)))
          (λ rest. ⊎_elim
          (λ more. absurd (let r = starts_behind xs k f.number (input_of s) more (omega (arith, f_within)) there in omega (arith, r, below, begins)))
          (λ back. omega (arith, rest, back)) (cases_lt k f.number)) (cases_lt f.number k)

      pub elsewhere : s.start_input_offset ≢ start → found_place fnv64 xs start offset ≡ None
      elsewhere differ = elim (looked start offset) [
        | inl f ↦ absurd (differ (starts ∙ ap (λ n. padded_total (take n xs)) (sym (same_number f)) ∙ f.starts))
        | inr n ↦ n.answer
      ]

      pub behind_data : length s.section_data.now ≤ offset → found_place fnv64 xs start offset ≡ None
      behind_data far = elim (looked start offset) [
        | inl f ↦ absurd (
            let one : f.input ≡ input_of s = one_of (ap (slice_get xs) (sym (same_number f)) ∙ f.there) there in
            let len : length f.input.bytes ≡ length s.section_data.now = ap (λ (x : MergeInput). length x.bytes) one in
            let short = f.short in
            omega (arith, far, len, short))
        | inr n ↦ n.answer
      ]

      module _ (begins : s.start_input_offset ≡ start) (short : offset < length s.section_data.now) where
        found : IsFound xs m.terminated m.small start offset
        found = elim (looked start offset) [ inl f ↦ f | inr n ↦ absurd (let far = n.apart k (input_of s) there (sym starts ∙ begins) in omega (arith, far, short)) ]

        pub no_entry : NoneAt (map (entry_of (all_pieces xs)) (located xs)) (start + offset) → found_place fnv64 xs start offset ≡ None
        no_entry none = absurd (not_none xs m.terminated m.small start offset found none)

        pub inside : (e : PieceEntry) → IsLast (map (entry_of (all_pieces xs)) (located xs)) (start + offset) e
            → (found_place fnv64 xs start offset ≡ Some (e.place + (start + offset - e.start))) × (e.start ≤ start + offset) × (e.place + (start + offset - e.start) < 2 ^ 32)
        inside e h =
            let f = found in
            let one : f.entry ≡ e = sym (only_last xs m.terminated m.small start offset f e h) in
            let answers = f.answer in
            let small = f.fits in (
              answers ∙ ap (λ (x : PieceEntry). Some (x.place + (start + offset - x.start))) one,
              h.from,
              subst (λ (x : PieceEntry). x.place + (start + offset - x.start) < 2 ^ 32) one small,
            )
