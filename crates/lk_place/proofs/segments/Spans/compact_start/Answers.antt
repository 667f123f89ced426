use Rattle.std.proofs.Common.{◌≡◌, ℕ, ◌+◌, Bool, Some, List, drop, sym, ap, ◌∙◌}
use Rattle.std.specs.Prelude.{slice_get}
use Rattle.std.specs.List.{before_first}
use Rattle.lk_link.specs.declared.plan.OrderEvent.{OrderEvent}
use Rattle.lk_link.specs.declared.plan.Plan.{Plan}
use Rattle.lk_link.specs.Marks.{is_marked}
use Rattle.lk_link.specs.Rules.{is_start}
use Rattle.lk_expressions.specs.Records.{Record}
use Rattle.lk_place.specs.Spans.{file_end_behind}
use Rattle.lk_place.proofs.SegmentFiles.{start_here, start_is, start_more}
use Rattle.lk_place.proofs.WalkSteps.{read_there}
use Rattle.lk_place.proofs.segments.Spans.compact_start.Goals as goal

pub loop-event-init : goal.loop-event-init
loop-event-init c = start_is c.args.self.now.link.now.plan c.args.self.now.records.now (is_marked c.args.self.now.emitted.now) c.args.segment

pub loop-event-preserved : goal.loop-event-preserved
loop-event-preserved c =
    let plan : Plan = c.args.self.now.link.now.plan in
    let records : List Record = c.args.self.now.records.now in
    let emitted : ℕ → Bool = is_marked c.args.self.now.emitted.now in
    let k : ℕ = c.loop-event.event-index in
    let e : OrderEvent = c.event-item.result in
    let here : slice_get plan.events k ≡ Some e =
    read_there plan.events c.as_slice-event-items.result.now k e c.as_slice-event-items.ensures c.loop-event-test.true c.event-item.is in
    ap (λ n. file_end_behind plan records emitted n (before_first (is_start c.args.segment) (drop (k + 1) plan.events))) c.file_end_behind-end.ensures
    ∙ start_more plan records emitted c.loop-event.end c.args.segment k e plan.events here (sym c.opens.ensures ∙ c.if-opens.false)
    ∙ c.loop-event.invariant

pub returns-then-opens : goal.returns-then-opens
returns-then-opens c =
    let plan : Plan = c.args.self.now.link.now.plan in
    let records : List Record = c.args.self.now.records.now in
    let emitted : ℕ → Bool = is_marked c.args.self.now.emitted.now in
    let k : ℕ = c.loop-event.event-index in
    let e : OrderEvent = c.event-item.result in
    let here : slice_get plan.events k ≡ Some e =
    read_there plan.events c.as_slice-event-items.result.now k e c.as_slice-event-items.ensures c.loop-event-test.true c.event-item.is in
    sym (start_here plan records emitted c.loop-event.end c.args.segment k e plan.events here (sym c.opens.ensures ∙ c.if-opens.true)) ∙ c.loop-event.invariant
