use Rattle.lk_run.proofs.Completeness.{runs_tell_the_answer}
use Rattle.lk_run.proofs.laws.runs_tell_the_answer.Goals as goal

pub returns : goal.returns
returns c = runs_tell_the_answer (record {
  layouts = c.defined_answer_is_one.ensures;
  unfaulted = c.well_formed_exactly_unfaulted.ensures;
  shown = c.shown_is_one.ensures;
  texts = c.texts_are_read.ensures;
  verdicts = c.verdicts_agree.ensures;
})
