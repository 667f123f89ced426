use Rattle.std.proofs.Common.{◌+◌, ◌<◌, length, sym, subst}
use Rattle.lk_workers.proofs.Asked.{word_within}
use Rattle.lk_workers.proofs.traversal.Traversal.set.Goals as goal

pub set-requires-clause-place : goal.set-requires-clause-place
set-requires-clause-place g c =
    let lists = g.J.Reach.lists in
    subst (λ n. n + 1 < length lists.words) (sym c.as_usize.ensures) (word_within lists c.self.inside.link.now c.args.symbol c.self.invariant.0 c.requires.there)
