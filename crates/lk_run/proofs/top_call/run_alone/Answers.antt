use Rattle.std.proofs.Common.{map, sym, true≢false}
use Rattle.std.specs.String.{string_bytes}
use Rattle.lk_run.proofs.top_call.run_alone.Goals as goal

pub returns : goal.returns
returns g c = (
  λ asked. true≢false (sym (c.if-ask_for_workers.ensures.1 asked)),
  c.run_words_alone.ensures.run,
  c.runs_are_sound.ensures (map string_bytes c.args.words.now) (g.S.Source.state c.args.source.now) (g.S.Source.state c.run_words_alone.new.source)
      (g.K.Sink.state c.args.sink.now) (g.K.Sink.state c.run_words_alone.new.sink) c.run_words_alone.result c.run_words_alone.ensures.run,
  c.run_words_alone.ensures.mapped,
)
