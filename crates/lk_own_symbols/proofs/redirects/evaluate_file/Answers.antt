use Rattle.std.proofs.Common.{◌∙◌, sym}
use Rattle.lk_own_symbols.proofs.Redirecting.{left_alone}
use Rattle.lk_own_symbols.proofs.redirects.evaluate_file.Goals as goal

pub returns-else-has_redirects : goal.returns-else-has_redirects
returns-else-has_redirects g c = left_alone _ _ _ c.args.file.now c.args.first c.args.file.now.symbols (sym c.has_redirects.ensures ∙ c.if-has_redirects.false)
