use Rattle.std.proofs.Common.{map}
use Rattle.std.specs.String.{string_bytes}
use Rattle.lk_run.proofs.top_call.run.Goals as goal

pub returns-clause-sound : goal.returns-clause-sound
returns-clause-sound g c =
    c.runs_are_sound.ensures (map string_bytes c.args.words.now) (g.S.Source.state c.args.source.now) (g.S.Source.state c.run_words.new.source)
    (g.K.Sink.state c.args.sink.now) (g.K.Sink.state c.run_words.new.sink) c.run_words.result c.run_words.ensures.run
