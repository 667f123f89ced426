use Rattle.std.proofs.Common.{◌≡◌, List, ℕ, drop, inl, map, rules, subst}
use Rattle.std.specs.String.{string_bytes}
use Rattle.std.specs.Vec.Iter.{into_iter_items}
use Rattle.lk_run.specs.MappedRun.{IsMappedRun}
use Rattle.lk_run.proofs.program.run_program.Goals as goal

pub returns-in-Ok-words : goal.returns-in-Ok-words
returns-in-Ok-words g c =
    let words : map string_bytes c.deref.result.now ≡ drop 1 (map string_bytes (into_iter_items c.in-Ok.given)) = search rules in
    let mapped : (ws : List (List ℕ)) → Type 0
    = λ ws. IsMappedRun ws (g.S.Source.state c.args.source.now) (g.K.Sink.state c.args.sink.now) (g.K.Sink.state c.run_words.new.sink) c.run_words.result in
    rw c.in-Ok.is (inl (record { status = c.run_words.result; run = search rules; mapped = subst mapped words c.run_words.ensures.mapped; ended = search rules }))
