use Rattle.std.proofs.Common.{◌≡◌, Option, Some, None, sym, ap, subst, ◌∙◌}
use Rattle.lk_link.specs.declared.link.LinkInput.{LinkInput}
use Rattle.lk_sizes.specs.Owners.{Filling, content_of, plain_filling}
use Rattle.lk_thunks.specs.declared.arch.ThunkConfig.{ThunkConfig}
use Rattle.lk_thunks.specs.Building.{builder_of}
use Rattle.lk_thunk_plan.specs.declared.thunk_plan.ThunkPlan.{ThunkPlan}
use Rattle.lk_thunk_plan.specs.Orders.{IsInOrder}
use Rattle.lk_thunk_plan.specs.Planning.{IsPlannedFrom}
use Rattle.lk_thunk_plan.specs.ThunkPlans.{IsThunkPlan, code_before, config_for}
use Rattle.lk_thunk_plan.proofs.PlanLemmas.{if_ok, in_order, planned_is, unplanned_is}
use Rattle.lk_thunk_plan.proofs.thunk_plan.plan_thunks.Goals as goal

pub returns-in_default-clause-plan : goal.returns-in_default-clause-plan
returns-in_default-clause-plan g c sizes lens filled =
    let link : LinkInput = c.args.link.now in
    let none : config_for (g.A.Arch.config_of c.args.arch.now) link ≡ None = sym c.thunk_config.ensures ∙ c.in_default.is in
    unplanned_is (g.A.Arch.config_of c.args.arch.now) (plain_filling (content_of link sizes c.args.live.now lens)) c.unplanned.result
    (ap (builder_of link) none) (c.unplanned.ensures.config ∙ sym none) c.unplanned.ensures.blocks c.unplanned.ensures.users c.unplanned.ensures.owners

pub returns-in_default-builder_for-clause-plan : goal.returns-in_default-builder_for-clause-plan
returns-in_default-builder_for-clause-plan g c sizes lens filled =
    let link : LinkInput = c.args.link.now in
    let some : config_for (g.A.Arch.config_of c.args.arch.now) link ≡ Some c.in-Some.config = sym c.thunk_config.ensures ∙ c.in-Some.is in
    let plan : ThunkPlan = c.unplanned-in_default-builder_for.result in
    let is = c.unplanned-in_default-builder_for.ensures in
    unplanned_is (g.A.Arch.config_of c.args.arch.now) (plain_filling (content_of link sizes c.args.live.now lens)) plan
    (ap (builder_of link) some ∙ sym c.builder_for.ensures ∙ c.in_default-builder_for.is) (is.config ∙ sym some) is.blocks is.users is.owners

pub returns-clause-plan : goal.returns-clause-plan
returns-clause-plan g c sizes lens filled =
    let link : LinkInput = c.args.link.now in
    let thunks = g.A.Arch.config_of c.args.arch.now in
    let filling : Filling = plain_filling (content_of link sizes c.args.live.now lens) in
    let some : config_for thunks link ≡ Some c.in-Some.config = sym c.thunk_config.ensures ∙ c.in-Some.is in
    let range : builder_of link (config_for thunks link) ≡ Some c.in-Some-builder_for.builder = ap (builder_of link) some ∙ sym c.builder_for.ensures ∙ c.in-Some-builder_for.is in
    if_ok (IsPlannedFrom link c.args.live.now (Some c.in-Some.config) c.in-Some-builder_for.builder (code_before filling)) (IsThunkPlan thunks filling) c.planned.result (λ plan is.
    planned_is thunks filling c.in-Some-builder_for.builder plan range
    (subst (λ (o : Option ThunkConfig). IsPlannedFrom link c.args.live.now o c.in-Some-builder_for.builder (code_before filling) plan) (sym some) is))
    (c.planned.ensures sizes lens (c.contents.ensures ∙ filled.contents))

pub returns-clause-order : goal.returns-clause-order
returns-clause-order g c =
    let link : LinkInput = c.args.link.now in
    let from = c.requires.filled in
    let filling : Filling = plain_filling (content_of link from.0 c.args.live.now from.1) in
    if_ok (IsThunkPlan (g.A.Arch.config_of c.args.arch.now) filling) (IsInOrder link) c.planned.result (in_order (g.A.Arch.config_of c.args.arch.now) filling)
    (returns-clause-plan g c from.0 from.1 from.2)
