use Rattle.std.proofs.Common.{◌≡◌, ℕ, List, Some, map, take, get_or, sym, ap, ◌∙◌, subst}
use Rattle.std.specs.List.{slice_get}
use Rattle.std.specs.Option.{MatchOption}
use Rattle.lk_merge.specs.declared.inputs.StringMergeInputSection.{StringMergeInputSection}
use Rattle.lk_merge.specs.Hash.{fnv64}
use Rattle.lk_merge.specs.Inputs.{input_of, padded_total}
use Rattle.lk_merge.specs.Merging.{found_place}
use Rattle.lk_merge.specs.Places.{IsPlaceAt}
use Rattle.lk_merge.specs.Pieces.{MergeInput}
use Rattle.lk_merge.proofs.Grouping.{start_at}
use Rattle.lk_merge.proofs.PlaceInInput.{found_in, one_number}
use Rattle.lk_merge.proofs.section.MergedStringsSection.place_in_input.Goals as goal

pub returns : goal.returns
returns c k x at is short =
    let i = c.self.inside in
    let ss : List StringMergeInputSection = c.as_slice.result.now in
    let found = c.in_ok-input.ensures in
    let j : ℕ = c.in_ok-input.input in
    let are : map input_of ss ≡ i.inputs = c.as_slice.ensures.inputs in
    let there : slice_get i.inputs k ≡ Some x = ap (λ (xs : List MergeInput). slice_get xs k) c.self.view_is ∙ at in
    let same : j ≡ k
    = one_number (padded_total i.inputs) ss c.as_slice.ensures.places j k found.0 x (ap (λ (xs : List MergeInput). slice_get xs j) are ∙ found.1)
    (ap (λ (xs : List MergeInput). slice_get xs k) are ∙ there) (found.2 ∙ sym is) in
    let start : ℕ = (get_or ss j c.index-as_slice-input.result).start_input_offset in
    let begins : start ≡ padded_total (take k i.inputs)
    = ap (λ (s : StringMergeInputSection). s.start_input_offset) (sym c.index-as_slice-input.is)
    ∙ start_at (padded_total i.inputs) ss c.as_slice.ensures.places j found.0 (ap (λ (xs : List MergeInput). slice_get xs j) are ∙ found.1) c.index-as_slice-input.result c.index-as_slice-input.is
    ∙ ap (λ (n : ℕ). padded_total (take n (map input_of ss))) same ∙ ap (λ (xs : List MergeInput). padded_total (take k xs)) are in
    let place = found_in i.inputs i.buckets.items i.string_offsets c.self.invariant k x start c.args.offset c.find_string.result there short begins
    (c.find_string.ensures.found ∙ sym (ap (λ (xs : List MergeInput). found_place fnv64 xs start c.args.offset) c.self.view_is)) in
    subst (λ (xs : List MergeInput). MatchOption c.find_string.result ⊥ (IsPlaceAt xs x c.args.offset)) c.self.view_is place
