use Rattle.std.proofs.Common.{ap, subst}
use Rattle.lk_reach.specs.Units.{follows}
use Rattle.lk_workers.specs.Asked.{AreMet}
use Rattle.lk_workers.specs.Traversals.{TraversalValue}
use Rattle.lk_workers.proofs.Asked.{follows_met}
use Rattle.lk_workers.proofs.traversal.Traversal.follows.Goals as goal

pub returns-clause-met : goal.returns-clause-met
returns-clause-met g c =
    let lists = g.J.Reach.lists in
    subst (λ link. AreMet lists (follows link c.args.unit)) (ap (λ (t : TraversalValue). t.link) c.self.view_is)
    (follows_met lists c.self.inside.link.now c.args.unit c.self.invariant.0 c.requires.there c.requires.reached)
