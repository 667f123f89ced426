use Rattle.lk_reach.specs.Marks.{IsInside, asking}
use Rattle.lk_reach.proofs.WalkLemmas.{ask_turn}
use Rattle.lk_explain.proofs.TakeLemmas.{below_after, takes_next}
use Rattle.lk_explain.proofs.search.Search.take_all.Goals as goal

pub take-requires-clause-inside : goal.take-requires-clause-inside
take-requires-clause-inside c =
    ask_turn (IsInside c.args.asker.link.now.groups) c.args.asks c.into_iter-ask-iterator.result c.loop-ask.ask-iterator c.next.new.self c.loop-ask.yielded c.in-Some.ask (cc) c.requires.inside
    c.loop-ask.yielded_by c.in-Some.ensures.steps

pub take-requires-clause-below : goal.take-requires-clause-below
take-requires-clause-below c =
    below_after (asking c.args.asker.link.now) c.args.asker.distance c.args.asker.number c.loop-ask.yielded c.args.self.now c.loop-ask.self c.requires.distance c.requires.below c.loop-ask.invariant

pub loop-ask-preserved : goal.loop-ask-preserved
loop-ask-preserved c =
    takes_next (asking c.args.asker.link.now) c.args.asker.distance c.args.asker.number c.loop-ask.yielded c.in-Some.ask c.args.self.now c.loop-ask.self c.take.new.self c.requires.distance c.loop-ask.invariant
    c.in_ok-take.ensures
