use Rattle.std.proofs.Common.{◌+◌, ◌-◌, ◌++◌, ◌∙◌, List, ℕ, ap, arith, drop, get_or, length, map, refl, subst, take}
use Rattle.std.specs.declared.ops.Range.{Range}
use Rattle.std.proofs.lemmas.List.{drop_all, drop_more, length-drop, map-append}
use Rattle.lk_deltas.specs.Shards.{shard}
use Rattle.lk_deltas.proofs.ShardLemmas.{Cut, cut_end, cut_here, cut_none, items_of, no_items, some_items, stands}
use Rattle.lk_deltas.proofs.shards.split_ordered_symbol_ranges.Goals as goal

pub loop-range-init : goal.loop-range-init
loop-range-init g c = record {
  behind = refl;
  rising = c.requires;
  cuts = ap (λ items. map items_of items ++ map (shard c.args.items.now) c.args.ranges.now) c.in_ok-shards.ensures.items;
}

pub loop-range-preserved-then-range : goal.loop-range-preserved-then-range
loop-range-preserved-then-range g c =
    let rs = c.args.ranges.now in
    let i = c.loop-range.range-index in
    let none : Range ℕ = record { start = 0; end = 0 } in
    let r : Range ℕ = get_or rs i none in
    let done : List (ℕ × List g.row.T.Denot) = map items_of c.loop-range.shards.items in
    let w = subst (Cut c.args.items.now rs c.loop-range.cursor c.loop-range.rest.now done) (drop_more rs i none c.loop-range-test.true) c.loop-range.invariant in
    cut_none c.args.items.now rs c.loop-range.cursor c.loop-range.rest.now done (map items_of c.push.new.self.items) r (drop (i + 1) rs) w (no_items r c.if-range.true)
    (ap (map items_of) c.in_ok-push.ensures.items ∙ map-append items_of c.loop-range.shards.items _)

pub overflow_sub-range : goal.overflow_sub-range
overflow_sub-range g c =
    let rs = c.args.ranges.now in
    let i = c.loop-range.range-index in
    let none : Range ℕ = record { start = 0; end = 0 } in
    let r : Range ℕ = get_or rs i none in
    let done : List (ℕ × List g.row.T.Denot) = map items_of c.loop-range.shards.items in
    let w = subst (Cut c.args.items.now rs c.loop-range.cursor c.loop-range.rest.now done) (drop_more rs i none c.loop-range-test.true) c.loop-range.invariant in
    (stands c.args.items.now rs c.loop-range.cursor c.loop-range.rest.now done r (drop (i + 1) rs) w (some_items r c.if-range.false)).0

pub split_at_mut-gap-requires : goal.split_at_mut-gap-requires
split_at_mut-gap-requires g c =
    let rs = c.args.ranges.now in
    let i = c.loop-range.range-index in
    let none : Range ℕ = record { start = 0; end = 0 } in
    let r : Range ℕ = get_or rs i none in
    let done : List (ℕ × List g.row.T.Denot) = map items_of c.loop-range.shards.items in
    let w = subst (Cut c.args.items.now rs c.loop-range.cursor c.loop-range.rest.now done) (drop_more rs i none c.loop-range-test.true) c.loop-range.invariant in
    let at = stands c.args.items.now rs c.loop-range.cursor c.loop-range.rest.now done r (drop (i + 1) rs) w (some_items r c.if-range.false) in
    omega (arith, at.0, at.1, c.if-range.false, ap length w.behind, length-drop c.loop-range.cursor c.args.items.now)

pub split_at_mut-shard-requires : goal.split_at_mut-shard-requires
split_at_mut-shard-requires g c =
    let rs = c.args.ranges.now in
    let i = c.loop-range.range-index in
    let none : Range ℕ = record { start = 0; end = 0 } in
    let r : Range ℕ = get_or rs i none in
    let done : List (ℕ × List g.row.T.Denot) = map items_of c.loop-range.shards.items in
    let w = subst (Cut c.args.items.now rs c.loop-range.cursor c.loop-range.rest.now done) (drop_more rs i none c.loop-range-test.true) c.loop-range.invariant in
    let at = stands c.args.items.now rs c.loop-range.cursor c.loop-range.rest.now done r (drop (i + 1) rs) w (some_items r c.if-range.false) in
    let left = ap length w.behind ∙ length-drop c.loop-range.cursor c.args.items.now in
    let gap = c.split_at_mut-gap.ensures.back_len in
    omega (arith, at.0, at.1, c.if-range.false, left, gap)

pub loop-range-preserved : goal.loop-range-preserved
loop-range-preserved g c =
    let rs = c.args.ranges.now in
    let i = c.loop-range.range-index in
    let none : Range ℕ = record { start = 0; end = 0 } in
    let r : Range ℕ = get_or rs i none in
    let done : List (ℕ × List g.row.T.Denot) = map items_of c.loop-range.shards.items in
    let w = subst (Cut c.args.items.now rs c.loop-range.cursor c.loop-range.rest.now done) (drop_more rs i none c.loop-range-test.true) c.loop-range.invariant in
    let gap = c.split_at_mut-gap.ensures.back in
    cut_here c.args.items.now rs c.loop-range.cursor c.loop-range.rest.now c.split_at_mut-shard.result.0.now c.split_at_mut-shard.result.1.now done
    (map items_of c.push-in-loop-range.new.self.items) r (drop (i + 1) rs) w (some_items r c.if-range.false)
    (c.split_at_mut-shard.ensures.front ∙ ap (take (r.end - r.start)) gap)
    (c.split_at_mut-shard.ensures.back ∙ ap (drop (r.end - r.start)) gap)
    (ap (map items_of) c.in_ok-push-2.ensures.items ∙ map-append items_of c.loop-range.shards.items _)

pub returns : goal.returns
returns g c =
    let rs = c.args.ranges.now in
    let i = c.loop-range.range-index in
    let done : List (ℕ × List g.row.T.Denot) = map items_of c.loop-range.shards.items in
    let w = subst (Cut c.args.items.now rs c.loop-range.cursor c.loop-range.rest.now done) (drop_all i rs c.loop-range-test.false) c.loop-range.invariant in
    cut_end c.args.items.now rs c.loop-range.cursor c.loop-range.rest.now done w
