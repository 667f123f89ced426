use Rattle.lk_run.proofs.MappedRuns.{failed_command, mapped_command}
use Rattle.lk_run.proofs.RunLaws.{made_run}
use Rattle.lk_run.proofs.top_call.run_command.Goals as goal

pub returns-in-Ok-clause-run : goal.returns-in-Ok-clause-run
returns-in-Ok-clause-run g c =
    made_run c.args.command c.in-Ok.input c.answer.result (g.S.Source.state c.args.source.now) (g.S.Source.state c.read_for.new.source)
    (g.K.Sink.state c.args.sink.now) (g.K.Sink.state c.write_made.new.sink) c.write_made.result c.in-Ok.ensures c.answer.ensures c.write_made.ensures

pub returns-in-Ok-clause-mapped : goal.returns-in-Ok-clause-mapped
returns-in-Ok-clause-mapped g c =
    mapped_command c.args.command c.in-Ok.input c.answer.result (g.S.Source.state c.args.source.now) (g.S.Source.state c.read_for.new.source)
    (g.K.Sink.state c.args.sink.now) (g.K.Sink.state c.write_made.new.sink) c.write_made.result c.in-Ok.ensures c.answer.ensures c.write_made.ensures

pub returns-in-Err-clause-mapped : goal.returns-in-Err-clause-mapped
returns-in-Err-clause-mapped g c =
    failed_command c.args.command (g.S.Source.state c.args.source.now) (g.S.Source.state c.read_for.new.source)
    (g.K.Sink.state c.args.sink.now) (g.K.Sink.state c.args.sink.now) c.in-Err.status c.in-Err.ensures
