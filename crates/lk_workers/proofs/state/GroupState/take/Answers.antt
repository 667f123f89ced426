use Rattle.std.proofs.Common.{ap, ◌∙◌, sym, subst}
use Rattle.lk_workers.specs.Items.{AreOwn, IsOwn}
use Rattle.lk_workers.specs.States.{StateValue}
use Rattle.lk_workers.proofs.Doing.{own_rest}
use Rattle.lk_workers.proofs.state.GroupState.take.Goals as goal

pub invariant_of-self-2 : goal.invariant_of-self-2
invariant_of-self-2 g c =
    let lists = g.J.Reach.lists in
    let own = c.self.inside.group in
    let rest = own_rest lists own c.pop.new.self c.in-Some.item (subst (AreOwn lists own) c.in-Some.ensures.some c.self.invariant.0) in
    (rest.0, c.self.invariant.1, c.self.invariant.2)

pub returns-clause-some : goal.returns-clause-some
returns-clause-some g c =
    let lists = g.J.Reach.lists in
    let own = c.self.inside.group in
    let rest = own_rest lists own c.pop.new.self c.in-Some.item (subst (AreOwn lists own) c.in-Some.ensures.some c.self.invariant.0) in (
      ap (λ (v : StateValue). v.items) (sym c.self.view_is) ∙ c.in-Some.ensures.some,
      subst (λ (v : StateValue). IsOwn lists v.group c.in-Some.item) c.self.view_is rest.1,
    )
