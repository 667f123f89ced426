use Rattle.lk_reach.specs.Marks.{IsInside}
use Rattle.lk_reach.proofs.WalkLemmas.{adds_next, adds_none, ask_turn, sized_more}
use Rattle.lk_reach.proofs.walk.Walk.take_all.Goals as goal

pub loop-ask-init : goal.loop-ask-init
loop-ask-init c = adds_none c.args.link.now c.args.self.now

pub take-requires-clause-inside : goal.take-requires-clause-inside
take-requires-clause-inside c =
    ask_turn (IsInside c.args.link.now.groups) c.args.asks c.into_iter-ask-iterator.result c.loop-ask.ask-iterator c.next.new.self c.loop-ask.yielded c.in-Some.ask (cc) c.requires.inside
    c.loop-ask.yielded_by c.in-Some.ensures.steps

pub take-requires-clause-sized : goal.take-requires-clause-sized
take-requires-clause-sized c = sized_more c.args.link.now c.loop-ask.yielded c.args.self.now c.loop-ask.self c.requires.sized c.loop-ask.invariant

pub loop-ask-preserved : goal.loop-ask-preserved
loop-ask-preserved c =
    adds_next c.args.link.now c.loop-ask.yielded c.in-Some.ask c.args.self.now c.loop-ask.self c.take.new.self
    (ask_turn (IsInside c.args.link.now.groups) c.args.asks c.into_iter-ask-iterator.result c.loop-ask.ask-iterator c.next.new.self c.loop-ask.yielded c.in-Some.ask (cc) c.requires.inside
    c.loop-ask.yielded_by c.in-Some.ensures.steps)
    (sized_more c.args.link.now c.loop-ask.yielded c.args.self.now c.loop-ask.self c.requires.sized c.loop-ask.invariant) c.loop-ask.invariant c.in_ok-take.ensures
