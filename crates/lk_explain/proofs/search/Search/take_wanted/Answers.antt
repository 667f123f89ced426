use Rattle.std.proofs.Common.{arith, sym, ◌∙◌}
use Rattle.lk_link.specs.Walks.{file_of}
use Rattle.lk_reach.specs.Marks.{IsInside, asking}
use Rattle.lk_reach.specs.Units.{file_roots}
use Rattle.lk_reach.proofs.UnitLemmas.{file_inside}
use Rattle.lk_reach.proofs.WalkLemmas.{ask_turn}
use Rattle.lk_explain.proofs.RootLemmas.{ask_place, takes_wanted}
use Rattle.lk_explain.proofs.TakeLemmas.{below_after, takes_next}
use Rattle.lk_explain.proofs.search.Search.take_wanted.Goals as goal

pub returns-then-sets_flags : goal.returns-then-sets_flags
returns-then-sets_flags c =
    let f = file_of c.args.file in
    let turn = ask_place (file_roots c.args.link.now f) c.into_iter-ask-iterator.result c.loop-ask.ask-iterator c.next.new.self c.loop-ask.yielded c.in-Some.ask (cc) c.loop-ask.yielded_by c.in-Some.ensures.steps in
    takes_wanted c.args.link.now f c.loop-ask.yielded c.in-Some.ask c.args.self.now c.loop-ask.self c.requires.script c.requires.below c.requires.located turn (sym c.sets_flags.ensures ∙ c.if-sets_flags.true)
    c.loop-ask.invariant

pub take-requires-clause-inside : goal.take-requires-clause-inside
take-requires-clause-inside c =
    ask_turn (IsInside c.args.link.now.groups) (file_roots c.args.link.now (file_of c.args.file)) c.into_iter-ask-iterator.result c.loop-ask.ask-iterator c.next.new.self c.loop-ask.yielded c.in-Some.ask (cc)
    (file_inside c.args.link.now (file_of c.args.file) c.requires.well_formed c.requires.there) c.loop-ask.yielded_by c.in-Some.ensures.steps

pub take-requires-clause-below : goal.take-requires-clause-below
take-requires-clause-below c = below_after (asking c.args.link.now) 1 0 c.loop-ask.yielded c.args.self.now c.loop-ask.self (omega arith) c.requires.below c.loop-ask.invariant

pub loop-ask-preserved : goal.loop-ask-preserved
loop-ask-preserved c =
    takes_next (asking c.args.link.now) 1 0 c.loop-ask.yielded c.in-Some.ask c.args.self.now c.loop-ask.self c.take.new.self (omega arith) c.loop-ask.invariant c.in_ok-take.ensures
