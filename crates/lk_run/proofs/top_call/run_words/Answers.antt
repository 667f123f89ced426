use Rattle.std.proofs.Common.{sym, ◌∙◌, map}
use Rattle.std.specs.String.{string_bytes}
use Rattle.lk_run.proofs.Commands.{asks, can_be_asked}
use Rattle.lk_run.proofs.MappedRuns.{mapped_run, mapped_usage}
use Rattle.lk_run.proofs.RunLaws.{command_run, usage_run}
use Rattle.lk_run.proofs.top_call.run_words.Goals as goal

pub returns-in-None-clause-run : goal.returns-in-None-clause-run
returns-in-None-clause-run g c =
    usage_run (map string_bytes c.args.words.now) (g.S.Source.state c.args.source.now) (g.K.Sink.state c.args.sink.now)
    (g.K.Sink.state c.run_usage.new.sink) c.run_usage.result (sym c.read_words.ensures ∙ c.in-None.is) c.run_usage.ensures

pub run_command-requires-clause-gate : goal.run_command-requires-clause-gate
run_command-requires-clause-gate g c = λ _ _ several.
    c.requires.gate (asks (map string_bytes c.args.words.now) c.in-Some.command (sym c.read_words.ensures ∙ c.in-Some.is) several)

pub run_command-requires-clause-asked : goal.run_command-requires-clause-asked
run_command-requires-clause-asked g c = λ _ _. can_be_asked (map string_bytes c.args.words.now) c.in-Some.command (sym c.read_words.ensures ∙ c.in-Some.is)

pub returns-in-Some-clause-run : goal.returns-in-Some-clause-run
returns-in-Some-clause-run g c =
    command_run (map string_bytes c.args.words.now) c.in-Some.command (g.S.Source.state c.args.source.now) (g.S.Source.state c.run_command.new.source)
    (g.K.Sink.state c.args.sink.now) (g.K.Sink.state c.run_command.new.sink) c.run_command.result
    (sym c.read_words.ensures ∙ c.in-Some.is) c.run_command.ensures.run

pub returns-in-None-clause-mapped : goal.returns-in-None-clause-mapped
returns-in-None-clause-mapped g c =
    mapped_usage (map string_bytes c.args.words.now) (g.S.Source.state c.args.source.now) (g.K.Sink.state c.args.sink.now)
    (g.K.Sink.state c.run_usage.new.sink) c.run_usage.result (sym c.read_words.ensures ∙ c.in-None.is)

pub returns-in-Some-clause-mapped : goal.returns-in-Some-clause-mapped
returns-in-Some-clause-mapped g c =
    mapped_run (map string_bytes c.args.words.now) c.in-Some.command (g.S.Source.state c.args.source.now)
    (g.K.Sink.state c.args.sink.now) (g.K.Sink.state c.run_command.new.sink) c.run_command.result
    (sym c.read_words.ensures ∙ c.in-Some.is) c.run_command.ensures.mapped
