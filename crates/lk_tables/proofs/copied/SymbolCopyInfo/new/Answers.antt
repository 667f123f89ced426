use Rattle.std.proofs.Common.{◌≡◌, Bool, ℕ, List, Some, None, Option, if◌then◌else◌, option_and_then, sym, ap, ◌∙◌}
use Rattle.std.proofs.lemmas.Option.{MatchOption-at_none, MatchOption-at_some, none-some}
use Rattle.lk_link.specs.declared.file.InputFile.{InputFile}
use Rattle.lk_link.specs.declared.symbol.InputSymbol.{InputSymbol}
use Rattle.lk_link.specs.Files.{file_in}
use Rattle.lk_link.specs.Inputs.{NumberedFile}
use Rattle.lk_link.specs.Symbols.{IsSymbolIn, symbol_at}
use Rattle.lk_reach.proofs.Numbered.{are_numbered}
use Rattle.lk_reach.proofs.SymbolNumbers.{no_symbol, numbered_symbol, symbol_has}
use Rattle.lk_tables.specs.Copied.{is_copied}
use Rattle.lk_tables.proofs.copied.SymbolCopyInfo.new.Goals as goal

-- the name of one that passes
abbrev named : Bool → InputSymbol → Option (List ℕ)
named b x = if b then Some x.name else None

pub file_of_symbol-requires : goal.file_of_symbol-requires
file_of_symbol-requires c = are_numbered c.args.link.now c.requires

pub returns-in_err-id : goal.returns-in_err-id
returns-in_err-id c =
    let past = MatchOption-at_none _ _ c.in_err-id.was c.file_of_symbol.ensures in
    let by : NumberedFile × InputSymbol → _ = λ q. named (is_copied c.args.link.now c.args.live.now q.0 c.args.symbol q.1 c.args.flags) q.1 in
    c.from_residual.ensures ∙ ap (option_and_then by) (sym (no_symbol c.args.link.now.groups c.args.symbol past))

pub returns-in_err-own : goal.returns-in_err-own
returns-in_err-own c =
    let h : IsSymbolIn c.args.link.now.groups c.in_ok-id.id c.args.symbol = MatchOption-at_some _ _ c.in_ok-id.id c.in_ok-id.was c.file_of_symbol.ensures in
    let x = symbol_has c.args.link.now.groups c.in_ok-id.id c.args.symbol h in
    let there : symbol_at c.args.link.now.groups c.args.symbol ≡ Some x.0 = x.1 in
    absurd (none-some x.0 (c.in_err-own.ensures ∙ there))

pub returns : goal.returns
returns c =
    let h : IsSymbolIn c.args.link.now.groups c.in_ok-id.id c.args.symbol = MatchOption-at_some _ _ c.in_ok-id.id c.in_ok-id.was c.file_of_symbol.ensures in
    let file : file_in c.args.link.now.groups c.in_ok-id.id ≡ Some c.in_ok-file.file.now = sym c.in_ok-file.ensures in
    let own : symbol_at c.args.link.now.groups c.args.symbol ≡ Some c.in_ok-own.own.now = sym c.in_ok-own.ensures in
    let files : Some h.file ≡ Some c.in_ok-file.file.now = sym h.there ∙ file in
    let same : h.file ≡ c.in_ok-file.file.now = cc in
    let by : NumberedFile × InputSymbol → _ = λ q. named (is_copied c.args.link.now c.args.live.now q.0 c.args.symbol q.1 c.args.flags) q.1 in
    let passes : InputFile → Bool = λ f. is_copied c.args.link.now c.args.live.now (record { id = c.in_ok-id.id; file = f }) c.args.symbol c.in_ok-own.own.now c.args.flags in
    c.info_if.ensures
    ∙ ap (λ (b : Bool). named b c.in_ok-own.own.now) (c.is_copied.ensures ∙ ap passes (sym same))
    ∙ sym (ap (option_and_then by) (numbered_symbol c.args.link.now.groups c.in_ok-id.id c.args.symbol h c.in_ok-own.own.now own))
