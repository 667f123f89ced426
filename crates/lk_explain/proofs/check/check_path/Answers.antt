use Rattle.std.proofs.Common.{sym, ◌∙◌}
use Rattle.std.specs.Prelude.{Ok, Err}
use Rattle.lk_explain.proofs.PathLemmas.{ok_path}
use Rattle.lk_explain.proofs.check.check_path.Goals as goal

pub returns-in-Some-clause-path : goal.returns-in-Some-clause-path
returns-in-Some-clause-path c = ok_path c.args.link.now c.args.path.now (Err c.in-Some.fault) c.requires (sym c.in-Some.is ∙ c.find_fault.ensures)

pub returns-in-None-clause-path : goal.returns-in-None-clause-path
returns-in-None-clause-path c = ok_path c.args.link.now c.args.path.now (Ok tt) c.requires (sym c.in-None.is ∙ c.find_fault.ensures)
