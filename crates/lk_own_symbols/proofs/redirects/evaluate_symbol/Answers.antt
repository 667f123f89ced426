use Rattle.std.proofs.Common.{◌∙◌, ap, sym}
use Rattle.std.specs.Prelude.{option_map}
use Rattle.lk_own_symbols.specs.AtHand.{redirect_in}
use Rattle.lk_own_symbols.specs.Redirects.{redirect_of}
use Rattle.lk_own_symbols.proofs.Redirecting.{gives_alone, none_alone}
use Rattle.lk_own_symbols.proofs.redirects.evaluate_symbol.Goals as goal

pub returns-in-Some : goal.returns-in-Some
returns-in-Some g c =
    gives_alone _ _ _ _ (redirect_of c.args.number (c.args.file.now, c.args.symbol.now)) (redirect_in c.in-Some.redirect) _
    (sym c.redirect_of.ensures ∙ ap (option_map redirect_in) c.in-Some.is) c.evaluate_redirect.ensures

pub returns-in-None : goal.returns-in-None
returns-in-None g c =
    none_alone _ _ _ (redirect_of c.args.number (c.args.file.now, c.args.symbol.now)) (sym c.redirect_of.ensures ∙ ap (option_map redirect_in) c.in-None.is)
