use Rattle.std.proofs.Common.{◌≡◌, ◌≤◌, ◌∙◌, ◌++◌, List, ℕ, ap, length, rules, subst, sym}
use Rattle.std.specs.List.Sorted.{IsPermutation}
use Rattle.std.proofs.lemmas.List.{take_all}
use Rattle.std.proofs.lemmas.List.Sorted.{IsNonDecreasingBy-from_sort_by_key, sum_by-IsPermutation}
use Rattle.lk_deltas.specs.DeltaWords.{ranges_of}
use Rattle.lk_deltas.proofs.Together.{sorted_is}
use Rattle.lk_deltas.proofs.deltas.sorted_ranges.Goals as goal

pub returns : goal.returns
returns c all h =
    let old = ranges_of c.args.deltas.now in
    let more = c.args.additional.now in
    let done : length c.args.deltas.now ≤ c.loop-delta.delta-index = search rules in
    let first : c.loop-delta.ranges.items ≡ old = c.loop-delta.invariant ∙ ap ranges_of (take_all c.loop-delta.delta-index c.args.deltas.now done) in
    let both : c.extend_from_slice.new.self.items ≡ old ++ more = search rules in
    let moved : IsPermutation (old ++ more) c.sort_unstable_by_key.new.self.items
    = subst (λ (rs : List (ℕ × ℕ)). IsPermutation rs c.sort_unstable_by_key.new.self.items) both c.sort_unstable_by_key.ensures.permutation in
    sorted_is 0 _ all c.sort_unstable_by_key.new.self.items h.rising
    (IsNonDecreasingBy-from_sort_by_key (λ (r : ℕ × ℕ). r.0) _ c.sort_unstable_by_key.ensures.sorted (λ a r q k. search rules))
    (λ f. sum_by-IsPermutation f (old ++ more) all h.moved ∙ sym (sum_by-IsPermutation f (old ++ more) c.sort_unstable_by_key.new.self.items moved))
