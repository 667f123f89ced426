use Rattle.std.proofs.Common.{◌≡◌, ◌<◌, ◌≤◌, Some, None, cond, length, get_or, take, sym, ap, ◌∙◌}
use Rattle.lk_link.specs.Files.{first_some}
use Rattle.lk_check.specs.FirstBadEvent.{is_good_event, is_complete}
use Rattle.lk_check.proofs.First.{numbered_here, numbered_on, numbered_end}
use Rattle.lk_check.proofs.MarkLemmas.{bad_event, one_more, all_of}
use Rattle.lk_check.proofs.events.bad_event.Goals as goal

pub returns-then-not-admits : goal.returns-then-not-admits
unfolding first_some
returns-then-not-admits c =
    let plan = c.args.plan.now in
    let script = c.args.script in
    let i = c.loop-place.place in
    let e = c.event-item.result in
    let all : c.as_slice-event-items.result.now ≡ plan.events = c.as_slice-event-items.ensures in
    let below : i < length plan.events = rw all at c.loop-place-test.true in
    let item : e ≡ get_or plan.events i e = c.event-item.is ∙ ap (λ xs. get_or xs i e) all in
    let bad = ap (is_good_event script plan (take i plan.events)) (sym item) ∙ sym (c.admits.ensures.exact plan (take i plan.events) c.loop-place.invariant.marks) ∙ c.if-not-admits.true in
    let here = numbered_here (bad_event script plan) plan.events i e i below (ap (λ b. cond b None (Some i)) bad) in
    sym (ap (λ o. first_some o (cond (is_complete plan) None (Some (length plan.events)))) (sym c.loop-place.invariant.good ∙ here))

pub loop-place-preserved : goal.loop-place-preserved
loop-place-preserved c =
    let plan = c.args.plan.now in
    let script = c.args.script in
    let i = c.loop-place.place in
    let e = c.event-item.result in
    let all : c.as_slice-event-items.result.now ≡ plan.events = c.as_slice-event-items.ensures in
    let below : i < length plan.events = rw all at c.loop-place-test.true in
    let item : e ≡ get_or plan.events i e = c.event-item.is ∙ ap (λ xs. get_or xs i e) all in
    let good = ap (is_good_event script plan (take i plan.events)) (sym item) ∙ sym (c.admits.ensures.exact plan (take i plan.events) c.loop-place.invariant.marks) ∙ c.if-not-admits.false in
    record {
      marks = one_more plan i e _ _ _ below item (c.admits.ensures.marks plan (take i plan.events) c.loop-place.invariant.marks c.if-not-admits.false);
      good = sym (numbered_on (bad_event script plan) plan.events i e below (ap (λ b. cond b None (Some i)) good)) ∙ c.loop-place.invariant.good;
    }

pub returns-then-is_complete : goal.returns-then-is_complete
unfolding first_some
returns-then-is_complete c =
    let plan = c.args.plan.now in
    let script = c.args.script in
    let i = c.loop-place.place in
    let all : c.as_slice-event-items.result.now ≡ plan.events = c.as_slice-event-items.ensures in
    let past : length plan.events ≤ i = rw all at c.loop-place-test.false in
    let whole = all_of plan i _ _ _ past c.loop-place.invariant.marks in
    let none = sym c.loop-place.invariant.good ∙ numbered_end (bad_event script plan) plan.events i past in
    let done = sym (c.is_complete.ensures plan whole) ∙ c.if-is_complete.true in
    sym (ap (λ o. first_some o (cond (is_complete plan) None (Some (length plan.events)))) none ∙ ap (λ b. cond b None (Some (length plan.events))) done)

pub returns-else-is_complete : goal.returns-else-is_complete
unfolding first_some
returns-else-is_complete c =
    let plan = c.args.plan.now in
    let script = c.args.script in
    let i = c.loop-place.place in
    let all : c.as_slice-event-items.result.now ≡ plan.events = c.as_slice-event-items.ensures in
    let past : length plan.events ≤ i = rw all at c.loop-place-test.false in
    let whole = all_of plan i _ _ _ past c.loop-place.invariant.marks in
    let none = sym c.loop-place.invariant.good ∙ numbered_end (bad_event script plan) plan.events i past in
    let missing = sym (c.is_complete.ensures plan whole) ∙ c.if-is_complete.false in
    let answer = ap (λ o. first_some o (cond (is_complete plan) None (Some (length plan.events)))) none ∙ ap (λ b. cond b None (Some (length plan.events))) missing in
    cc
