use Rattle.std.proofs.Common.{refl, ◌∙◌}
use Rattle.lk_reach.proofs.WalkLemmas.{ask_turn}
use Rattle.lk_workers.specs.Asked.{IsMet}
use Rattle.lk_workers.proofs.Doing.{asks_split, does_before, does_more, does_none, on_err}
use Rattle.lk_workers.proofs.state.GroupState.do_asks.Goals as goal

pub loop-ask-init : goal.loop-ask-init
loop-ask-init g c = (refl, refl, refl, does_none g.J.Reach.lists.groups c.args.self.now c.args.pass.now.sets)

pub do_ask-requires-clause-met : goal.do_ask-requires-clause-met
do_ask-requires-clause-met g c =
    ask_turn (IsMet g.J.Reach.lists) c.args.asks c.into_iter-ask-iterator.result c.loop-ask.ask-iterator c.next.new.self c.loop-ask.yielded c.in-Some.ask (cc) c.requires.met
    c.loop-ask.yielded_by c.in-Some.ensures.steps

pub loop-ask-preserved : goal.loop-ask-preserved
loop-ask-preserved g c = (
  c.do_ask.ensures.table ∙ c.loop-ask.invariant.0,
  c.do_ask.ensures.parts ∙ c.loop-ask.invariant.1,
  c.do_ask.ensures.group ∙ c.loop-ask.invariant.2,
  does_more g.J.Reach.lists.groups c.loop-ask.yielded c.in-Some.ask c.args.self.now c.loop-ask.self c.do_ask.new.self c.args.pass.now.sets c.loop-ask.pass.sets c.do_ask.new.pass.sets
      c.loop-ask.invariant.3 c.in_ok-do_ask.ensures.does,
)

pub returns-in_err-do_ask-clause-some : goal.returns-in_err-do_ask-clause-some
returns-in_err-do_ask-clause-some g c =
    on_err c.from_residual.result
    (does_before g.J.Reach.lists.groups c.args.asks c.loop-ask.yielded c.in-Some.ask c.next.new.self c.args.self.now c.loop-ask.self c.do_ask.new.self c.args.pass.now.sets c.loop-ask.pass.sets c.do_ask.new.pass.sets
    (asks_split c.args.asks c.into_iter-ask-iterator.result c.loop-ask.ask-iterator c.next.new.self c.loop-ask.yielded c.in-Some.ask (cc) c.loop-ask.yielded_by c.in-Some.ensures.steps)
    c.loop-ask.invariant.3 c.in_err-do_ask.ensures.given_up)
