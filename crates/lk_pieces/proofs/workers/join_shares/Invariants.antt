use Rattle.std.proofs.Common.{ℕ}
use Rattle.lk_pieces.proofs.Shares.{Heard}
use Rattle.lk_pieces.proofs.workers.join_shares.Given as goal

abbrev pub invariant-loop-answer : goal.invariant-loop-answer
invariant-loop-answer g l = (depth : ℕ) → Heard g.T.Element.described depth l.fn.answers.items l.answer-iterator.rest.items l.fn.part l.all
