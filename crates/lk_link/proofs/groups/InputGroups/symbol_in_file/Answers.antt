use Rattle.std.proofs.Common.{◌≡◌, Some, sym, ap, ◌∙◌}
use Rattle.std.specs.List.{slice_get}
use Rattle.std.proofs.lemmas.Option.{MatchOption-at_none, MatchOption-at_some, none-some}
use Rattle.lk_link.specs.declared.file.InputFile.{InputFile}
use Rattle.lk_link.specs.Files.{file_in}
use Rattle.lk_link.specs.NumberedSymbols.{IsSymbolAt}
use Rattle.lk_link.proofs.NumberedSymbolLemmas.{known, placed, unknown}
use Rattle.lk_link.proofs.groups.InputGroups.symbol_in_file.Goals as goal

pub returns-in_err-id : goal.returns-in_err-id
returns-in_err-id c =
    let past = MatchOption-at_none _ _ c.in_err-id.was c.symbol_place.ensures in
    let none = unknown c.args.self.now c.args.number past in
    cc

pub returns-in_err-symbol : goal.returns-in_err-symbol
returns-in_err-symbol c =
    let h : IsSymbolAt c.args.self.now c.in_ok-id.id c.in_ok-id.index c.args.number = MatchOption-at_some _ _ _ c.in_ok-id.was c.symbol_place.ensures in
    let x = placed c.args.self.now c.in_ok-id.id c.in_ok-id.index c.args.number h in
    let there : file_in c.args.self.now c.in_ok-id.id ≡ Some h.inside.file = h.inside.there in
    let files : Some c.in_ok-file.file.now ≡ Some h.inside.file = c.in_ok-file.ensures ∙ there in
    let same : c.in_ok-file.file.now ≡ h.inside.file = cc in
    absurd (none-some x.0 (c.in_err-symbol.ensures ∙ ap (λ (f : InputFile). slice_get f.symbols c.in_ok-id.index) same ∙ x.1))

pub returns : goal.returns
returns c =
    let h : IsSymbolAt c.args.self.now c.in_ok-id.id c.in_ok-id.index c.args.number = MatchOption-at_some _ _ _ c.in_ok-id.was c.symbol_place.ensures in
    sym (known c.args.self.now c.in_ok-id.id c.in_ok-file.file.now c.in_ok-id.index c.args.number c.in_ok-symbol.symbol.now (sym c.in_ok-file.ensures)
    (sym c.in_ok-symbol.ensures) h)
