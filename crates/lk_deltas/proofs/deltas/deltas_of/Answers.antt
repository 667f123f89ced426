use Rattle.std.proofs.Common.{◌≤◌, ◌+◌, ◌-◌, ◌^◌, ◌∙◌, arith, drop, get_or, length, rules}
use Rattle.std.proofs.lemmas.List.{take_all}
use Rattle.lk_deltas.proofs.DeltaLemmas.{all_there, next_range, rise_ends}
use Rattle.lk_deltas.proofs.deltas.deltas_of.Goals as goal

pub overflow_add-before : goal.overflow_add-before
overflow_add-before c =
    let i = c.loop-range.range-index in
    let rs = c.args.ranges.now in
    let left = c.loop-range.invariant.1 in
    let next = next_range left.0 (2 ^ 64 - 1) i rs (0, 0) (search rules) left.1 in
    omega (arith, rise_ends ((get_or rs i (0, 0)).0 + (get_or rs i (0, 0)).1) (2 ^ 64 - 1) (drop (i + 1) rs) next.2, next.0, left.2)

pub returns : goal.returns
returns c =
    let i = c.loop-range.range-index in
    let rs = c.args.ranges.now in
    let left = c.loop-range.invariant.1 in
    let done : length rs ≤ i = search rules in (
      c.loop-range.invariant.0 ∙ take_all i rs done,
      all_there left.0 c.loop-range.before c.loop-range.deltas.items (rise_ends left.0 (2 ^ 64 - 1) (drop i rs) left.1) left.3,
    )
