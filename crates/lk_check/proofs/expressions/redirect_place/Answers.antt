use Rattle.std.proofs.Common.{sym, ap, option_map}
use Rattle.lk_link.specs.ExpressionRules.{is_good_redirect}
use Rattle.lk_check.specs.FirstFault.{symbol_place}
use Rattle.lk_check.proofs.GoodFiles.{no_redirect}
use Rattle.lk_check.proofs.NumberedFiles.{found_there}
use Rattle.lk_check.proofs.expressions.redirect_place.Goals as goal

pub returns-then-good_files : goal.returns-then-good_files
returns-then-good_files c =
    let link = c.args.link.now in
    sym (ap (option_map (symbol_place link)) (no_redirect link (c.requires.good c.if-good_files.true)))

pub symbol_number-requires-clause-there : goal.symbol_number-requires-clause-there
symbol_number-requires-clause-there c = found_there (λ f s. is_good_redirect c.args.link.now s.at) c.args.link.now.groups _ (sym c.in-Some.ensures)
