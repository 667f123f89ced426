use Rattle.std.proofs.Common.{◌≡◌, ℕ, ◌+◌, List, Some, length, ap, subst, sym, ◌∙◌, arith}
use Rattle.std.specs.Prelude.{if◌then◌else◌, slice_get, slice_index}
use Rattle.lk_place.specs.PlacedBefore.{is_placing_part}
use Rattle.lk_place.specs.Tables.{ArePlacedAt}
use Rattle.lk_place.proofs.Computing.{written_back}
use Rattle.lk_place.proofs.Insides.{placed_in_range}
use Rattle.lk_place.proofs.PlacedTables.{placed_more}
use Rattle.lk_place.proofs.WalkSteps.{read_there}
use Rattle.lk_place.proofs.placed_at.events_of_parts.Goals as goal

pub write_event-requires-clause-in_range : goal.write_event-requires-clause-in_range
write_event-requires-clause-in_range c s named =
    let here : slice_get c.args.plan.now.events c.loop-number.number ≡ Some c.event-item.result =
    read_there c.args.plan.now.events c.as_slice-event-items.result.now c.loop-number.number c.event-item.result c.as_slice-event-items.ensures c.loop-number-test.true c.event-item.is in
    placed_in_range c.args.plan.now c.event-item.result s (c.requires.order.in_range c.loop-number.number c.event-item.result here) named

pub loop-number-preserved : goal.loop-number-preserved
loop-number-preserved c =
    let here : slice_get c.args.plan.now.events c.loop-number.number ≡ Some c.event-item.result =
    read_there c.args.plan.now.events c.as_slice-event-items.result.now c.loop-number.number c.event-item.result c.as_slice-event-items.ensures c.loop-number-test.true c.event-item.is in
    let new : List ℕ = c.write_event.new.table in
    let all : c.loop-number.table.len ≡ length new = omega (arith, c.write_event.auto.table, c.deref_mut.ensures.len) in
    let same : length new ≡ length c.loop-number.table.items = omega (arith, c.write_event.auto.table, ap length c.deref_mut.ensures.value) in
    subst (ArePlacedAt c.args.plan.now (c.loop-number.number + 1)) (sym (written_back c.loop-number.table.len new c.loop-number.table.items all))
    (placed_more c.args.plan.now c.loop-number.number c.event-item.result c.loop-number.table.items new c.requires.order c.loop-number.invariant here same
    (λ p. c.write_event.ensures p ∙ ap (λ (ts : List ℕ). if is_placing_part c.args.plan.now.sections p c.event-item.result then c.loop-number.number else slice_index ts p) c.deref_mut.ensures.value))
