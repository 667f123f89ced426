use Rattle.std.proofs.Common.{◌∙◌, ap, sym}
use Rattle.std.specs.Prelude.{is_some, option_map}
use Rattle.lk_link.specs.NumberedSymbols.{symbol_of}
use Rattle.lk_own_symbols.specs.AtHand.{redirect_in}
use Rattle.lk_own_symbols.proofs.FilesOfSymbols.{is_by_file, is_none, mapped_some}
use Rattle.lk_own_symbols.proofs.redirects.is_redirect.Goals as goal

pub returns-in-Some : goal.returns-in-Some
returns-in-Some c =
    c.is_some.ensures
    ∙ sym (mapped_some redirect_in c.redirect_of.result)
    ∙ ap is_some c.redirect_of.ensures
    ∙ sym (is_by_file c.args.link.now.groups c.args.number (symbol_of c.in-Some.found)
    (sym c.symbol_in_file.ensures ∙ ap (option_map symbol_of) c.in-Some.is))

pub returns-in-None : goal.returns-in-None
returns-in-None c = sym (is_none c.args.link.now.groups c.args.number (sym c.symbol_in_file.ensures ∙ ap (option_map symbol_of) c.in-None.is))
