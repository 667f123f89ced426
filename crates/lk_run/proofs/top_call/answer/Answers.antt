use Rattle.lk_run.proofs.RunLaws.{too_long_answers}
use Rattle.lk_run.proofs.top_call.answer.Goals as goal

pub returns-in-TooLong : goal.returns-in-TooLong
returns-in-TooLong g c = too_long_answers c.answer_too_long.result c.args.command c.args.input c.in-TooLong.is c.answer_too_long.ensures
