use Rattle.std.proofs.Common.{◌≡◌, [], length, refl, arith}
use Rattle.lk_pieces.proofs.Joined.{none_left}
use Rattle.lk_pieces.proofs.Shares.{none_heard, next_heard, all_heard}
use Rattle.lk_pieces.proofs.workers.join_shares.Goals as goal

pub loop-answer-init : goal.loop-answer-init
loop-answer-init g c depth = none_heard g.T.Element.described depth c.args.answers.items c.into_iter-answer-iterator.result.rest.items c.args.part c.args.part c.into_iter-answer-iterator.ensures.into_iter_gives.0 refl

pub loop-answer-preserved : goal.loop-answer-preserved
loop-answer-preserved g c depth =
    next_heard g.T.Element.described depth c.args.answers.items c.loop-answer.answer-iterator.rest.items c.next.new.self.rest.items c.in-Some.answer c.in_ok-answer.field-0 c.args.part c.loop-answer.all c.in_ok-all.all
    c.in-Some.ensures.steps.0 c.in_ok-answer.was c.in_ok-all.ensures (c.loop-answer.invariant depth)

pub returns : goal.returns
returns g c depth =
    let count : length c.loop-answer.answer-iterator.rest.items ≡ 0 = grind arith in
    let over : c.loop-answer.answer-iterator.rest.items ≡ [] = none_left c.loop-answer.answer-iterator.rest.items count in
    all_heard g.T.Element.described depth c.args.answers.items c.loop-answer.answer-iterator.rest.items c.args.part c.loop-answer.all over (c.loop-answer.invariant depth)
