use Rattle.std.proofs.Common.{sym, ◌∙◌, map}
use Rattle.std.specs.String.{string_bytes}
use Rattle.lk_run.proofs.Commands.{asks_as_told, asks_for_none}
use Rattle.lk_run.proofs.top_call.ask_for_workers.Goals as goal

pub returns-in-Some : goal.returns-in-Some
returns-in-Some c = asks_as_told (map string_bytes c.args.words.now) c.in-Some.command c.workers.result (sym c.read_words.ensures ∙ c.in-Some.is) c.workers.ensures

pub returns-in-None : goal.returns-in-None
returns-in-None c = asks_for_none (map string_bytes c.args.words.now) (sym c.read_words.ensures ∙ c.in-None.is)
