use Rattle.std.proofs.Common.{rules, ◌≡◌, false, length, sym}
use Rattle.lk_reach.specs.Marks.{IsInside}
use Rattle.lk_reach.proofs.WalkLemmas.{ask_turn}
use Rattle.lk_workers.specs.Closings.{is_ask_met}
use Rattle.lk_workers.proofs.Closing.{ask_here, one_fails}
use Rattle.lk_workers.proofs.closed.Closed.are_met.Goals as goal

pub is_met-requires-clause-inside : goal.is_met-requires-clause-inside
is_met-requires-clause-inside g c =
    ask_turn (IsInside c.args.link.now.groups) c.args.asks c.into_iter-ask-iterator.result c.loop-ask.ask-iterator c.next.new.self c.loop-ask.yielded c.in-Some.ask (cc) c.requires.inside
    c.loop-ask.yielded_by c.in-Some.ensures.steps

pub returns-then-not-is_met : goal.returns-then-not-is_met
returns-then-not-is_met g c =
    let met = is_ask_met c.args.self.now c.args.link.now.groups in
    let fails : met c.in-Some.ask ≡ false = search rules in
    sym (one_fails met c.args.asks (length c.loop-ask.yielded) c.in-Some.ask
    (ask_here c.args.asks c.into_iter-ask-iterator.result c.loop-ask.ask-iterator c.next.new.self c.loop-ask.yielded c.in-Some.ask (cc) c.loop-ask.yielded_by c.in-Some.ensures.steps)
    fails)
