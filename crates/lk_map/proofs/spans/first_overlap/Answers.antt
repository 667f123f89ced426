use Rattle.std.proofs.Common.{ℕ, ◌+◌, ◌<◌, List, length, get_or, arith}
use Rattle.std.specs.List.Sorted.{IsSorted}
use Rattle.std.specs.Ordering.{nat_cmp, ordering_then}
use Rattle.lk_map.specs.declared.spans.Span.{Span}
use Rattle.lk_map.specs.Spans.{FindsOverlap}
use Rattle.lk_map.proofs.Overlaps.{in_order, none_found, NotAfter, overlap_found}
use Rattle.lk_map.proofs.spans.first_overlap.Goals as goal

next : (ss : List Span) → IsSorted (λ x y. ordering_then (nat_cmp x.start y.start) (ordering_then (nat_cmp x.line y.line) (nat_cmp x.size y.size))) ss → (k : ℕ) (d : Span) → k + 1 < length ss → NotAfter (get_or ss k d) (get_or ss (k + 1) d)
next ss sorted k d h = in_order (get_or ss k d) (get_or ss (k + 1) d) (sorted k d (omega arith) h)

pub returns-in_err-place : goal.returns-in_err-place
unfolding FindsOverlap
returns-in_err-place c =
    rw c.from_residual.ensures
    (none_found c.args.spans.now c.sort_unstable.new.self c.sort_unstable.ensures.permutation c.requires (next c.sort_unstable.new.self c.sort_unstable.ensures.sorted) (c.in_err-place.ensures {u = tt}))

pub returns : goal.returns
unfolding FindsOverlap
returns c =
    let d : Span = record { start = 0; line = 0; size = 0 } in
    let (within, apart, below) = c.in_ok-place.ensures {u = tt} in (
      get_or c.sort_unstable.new.self c.in_ok-place.place d,
      get_or c.sort_unstable.new.self (c.in_ok-place.place + 1) d,
      overlap_found c.args.spans.now c.sort_unstable.new.self c.sort_unstable.ensures.permutation c.requires (next c.sort_unstable.new.self c.sort_unstable.ensures.sorted) c.in_ok-place.place d within apart below,
      c.min.ensures,
      c.max.ensures,
    )
