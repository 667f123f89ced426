-- Where inputs start, and that they end within all.
use Rattle.std.proofs.Common.{◌≡◌, ℕ, zero, suc, ◌+◌, ◌≤◌, ◌<◌, ◌^◌, List, [], ◌∷◌, ◌++◌, length, map, take, get_or, Some, sym, ap, ◌∙◌, subst, arith}
use Rattle.std.proofs.lemmas.List.{map-append, length-map, length-take-le, take_more}
use Rattle.std.proofs.lemmas.List.Sums.{sum_by-cons}
use Rattle.std.proofs.lemmas.Option.{slice_get-get_or}
use Rattle.lk_merge.specs.declared.inputs.StringMergeInputSection.{StringMergeInputSection}
use Rattle.lk_merge.specs.declared.merging.Merging.{Merging as Merges}
use Rattle.lk_merge.specs.Inputs.{AreInputs, input_of, padded_len, padded_total, located, located_in}
use Rattle.lk_merge.specs.MergingTables.{HasMerged}
use Rattle.lk_merge.specs.Pieces.{MergeInput, pieces_of}
use Rattle.lk_merge.proofs.InputLemmas.{located_from_push, located_none}

pub input_starts : (total : ℕ) (ss : List StringMergeInputSection) (k : ℕ) (s : StringMergeInputSection) → AreInputs total ss → k < length ss → s ≡ get_or ss k s
    → s.start_input_offset ≡ padded_total (map input_of (take k ss))
input_starts total ss k s h within is = h.starts k s (slice_get-get_or ss k s within ∙ ap (λ (x : StringMergeInputSection). Some x) (sym is))

pub ends_within : (ss : List StringMergeInputSection) (k : ℕ) (s : StringMergeInputSection) → k < length ss → s ≡ get_or ss k s
    → padded_total (map input_of (take k ss)) + padded_len (input_of s) ≤ padded_total (map input_of ss)
ends_within [] k s within is = absurd (omega arith)
ends_within (r ∷ ss) zero s within is =
    let more = sum_by-cons padded_len (input_of r) (map input_of ss) in
    let same : padded_len (input_of s) ≡ padded_len (input_of r) = ap (λ (x : StringMergeInputSection). padded_len (input_of x)) is in
    omega (arith, more, same)
ends_within (r ∷ ss) (suc k) s within is =
    let more = sum_by-cons padded_len (input_of r) (map input_of ss) in
    let fewer = sum_by-cons padded_len (input_of r) (map input_of (take k ss)) in
    let rest = ends_within ss k s (omega arith) is in
    omega (arith, more, fewer, rest)

pub data_fits : (x : MergeInput) → length x.bytes ≤ padded_len x
data_fits x = omega arith

pub input_fits : (total : ℕ) (ss : List StringMergeInputSection) (k : ℕ) (s : StringMergeInputSection) → AreInputs total ss → k < length ss → s ≡ get_or ss k s
    → s.start_input_offset + length s.section_data.now < 2 ^ 64
input_fits total ss k s h within is =
    let start = input_starts total ss k s h within is in
    let end = ends_within ss k s within is in
    let fit = data_fits (input_of s) in
    omega (arith, start, end, fit, h.sum, h.fits)

pub merged_first : (section limit : ℕ) (ss : List StringMergeInputSection) (merging : Merges) → HasMerged section limit [] merging
    → HasMerged section limit (located (map input_of (take 0 ss))) merging
merged_first section limit ss merging h = subst (λ l. HasMerged section limit l merging) (sym (located_none 0 0)) h

-- the pieces of one input more
pub located_next : (total : ℕ) (ss : List StringMergeInputSection) (k : ℕ) (s : StringMergeInputSection) → AreInputs total ss → k < length ss → s ≡ get_or ss k s
    → located (map input_of (take (k + 1) ss)) ≡ located (map input_of (take k ss)) ++ located_in k s.start_input_offset (pieces_of (input_of s))
located_next total ss k s h within is =
    let before : List MergeInput = map input_of (take k ss) in
    let count : length before ≡ k = length-map (take k ss) input_of ∙ length-take-le k ss (omega arith) in
    let start : s.start_input_offset ≡ 0 + padded_total before = input_starts total ss k s h within is ∙ omega arith in
    let more : map input_of (take (k + 1) ss) ≡ before ++ input_of s ∷ []
    = ap (map input_of) (take_more ss k s within ∙ ap (λ (x : StringMergeInputSection). take k ss ++ x ∷ []) (sym is)) ∙ map-append input_of (take k ss) (s ∷ []) in
    ap located more ∙ located_from_push 0 0 k before (input_of s) (omega (arith, count)) ∙ ap (λ n. located before ++ located_in k n (pieces_of (input_of s))) (sym start)

pub merged_next : (section limit total : ℕ) (ss : List StringMergeInputSection) (k : ℕ) (s : StringMergeInputSection) (old new : Merges) → AreInputs total ss → k < length ss → s ≡ get_or ss k s
    → HasMerged section limit (located (map input_of (take k ss)) ++ located_in k s.start_input_offset (pieces_of (input_of s))) new
    → HasMerged section limit (located (map input_of (take (k + 1) ss))) new
merged_next section limit total ss k s old new h within is merged = subst (λ l. HasMerged section limit l new) (sym (located_next total ss k s h within is)) merged
