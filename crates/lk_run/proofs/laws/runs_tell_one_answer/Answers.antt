use Rattle.lk_run.proofs.Completeness.{AnswersAreOne, AnswersExist, runs_tell}
use Rattle.lk_run.proofs.laws.runs_tell_one_answer.Goals as goal

pub returns : goal.returns
returns c =
    let unfaulted = c.well_formed_exactly_unfaulted.ensures in
    let exist : AnswersExist = record {
      layouts = c.defined_answer_exists.ensures;
      unfaulted = unfaulted;
      marks = c.marks_are_reached.ensures;
      shown = c.reached_is_shown.ensures;
      texts = c.texts_are_read.ensures;
      rises = c.maps_rise.ensures;
      verdicts = c.maps_are_judged.ensures;
    } in
    let are_one : AnswersAreOne = record {
      layouts = c.defined_answer_is_one.ensures;
      unfaulted = unfaulted;
      shown = c.shown_is_one.ensures;
      texts = c.texts_are_read.ensures;
      verdicts = c.verdicts_agree.ensures;
    } in
    runs_tell exist are_one
