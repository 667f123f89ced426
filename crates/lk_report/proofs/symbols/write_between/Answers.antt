use Rattle.std.proofs.Common.{◌++◌, ◌∙◌, ap, get_or, None, arith}
use Rattle.std.specs.Prelude.{string_bytes}
use Rattle.std.proofs.lemmas.List.{get_or_default}
use Rattle.lk_report.specs.Report.{symbol_text}
use Rattle.lk_report.proofs.Lines.{goes_on}
use Rattle.lk_report.proofs.symbols.write_between.Goals as goal

pub loop-number-preserved : goal.loop-number-preserved
loop-number-preserved c =
    let resolutions = c.args.resolutions.now in
    let i = c.loop-number.number in
    let x = get_or resolutions i None in
    goes_on symbol_text _ resolutions i x _ _ _ (omega arith) (get_or_default resolutions i None x (omega arith)) c.loop-number.invariant
    (c.in_ok-write_symbol.ensures ∙ ap (λ r. string_bytes c.loop-number.text ++ symbol_text i r) c.nth.ensures)
