use Rattle.std.proofs.Common.{◌≡◌, List, Some, length, sym, ap, ◌∙◌, arith}
use Rattle.std.specs.List.{slice_get}
use Rattle.std.proofs.lemmas.Option.{slice_get-get_or}
use Rattle.lk_link.specs.declared.symbol.InputSymbol.{InputSymbol}
use Rattle.lk_link.specs.NumberedSymbols.{numbered_symbol}
use Rattle.lk_link.specs.Symbols.{first_symbol}
use Rattle.lk_link.proofs.NumberedSymbolLemmas.{stands}
use Rattle.lk_link.proofs.SymbolLemmas.{symbols_within}
use Rattle.lk_reach.proofs.SymbolNumbers.{symbols_few}
use Rattle.lk_resolutions.specs.declared.outside.MergeOffsetPlace.{MergeOffsetPlace}
use Rattle.lk_resolutions.specs.Outside.{symbol_outside}
use Rattle.lk_stops.proofs.Stopping.{all_gone, exit, one_more, stops_at}
use Rattle.lk_resolutions.proofs.outside.check_file_symbols.Goals as goal

pub symbol_id_range-requires : goal.symbol_id_range-requires
symbol_id_range-requires c = symbols_few c.args.link.now c.requires.good

pub check_symbol-requires-clause-numbered : goal.check_symbol-requires-clause-numbered
check_symbol-requires-clause-numbered c =
    let groups = c.args.link.now.groups in
    let symbols : List InputSymbol = c.as_slice-symbol-items.result.now in
    let at : slice_get c.args.file.file.now.symbols c.loop-symbol.symbol-index ≡ Some c.symbol-item.result
    = ap (λ (xs : List InputSymbol). slice_get xs c.loop-symbol.symbol-index) (sym c.as_slice-symbol-items.ensures)
    ∙ slice_get-get_or symbols c.loop-symbol.symbol-index c.symbol-item.result c.loop-symbol-test.true ∙ ap (λ (x : InputSymbol). Some x) (sym c.symbol-item.is) in
    ap (numbered_symbol groups) c.loop-symbol.invariant.number
    ∙ stands groups c.args.file.id c.args.file.file.now c.loop-symbol.symbol-index c.symbol-item.result c.requires.there at

pub returns-in_err-check_symbol : goal.returns-in_err-check_symbol
returns-in_err-check_symbol c =
    let link = c.args.link.now in
    let f = symbol_outside link c.args.live.now c.args.file.file.now.kind in
    let k = c.loop-symbol.symbol-index in
    exit _ _ c.from_residual.result c.from_residual.ensures.1 (λ e is.
    stops_at f (first_symbol link.groups c.args.file.id) c.args.file.file.now.symbols c.as_slice-symbol-items.result.now k c.loop-symbol.number c.symbol-item.result _ c.as_slice-symbol-items.ensures
    c.loop-symbol-test.true c.loop-symbol.invariant.number c.loop-symbol.invariant.none
    (ap (λ (s : InputSymbol). slice_get (f (c.loop-symbol.number, s)) 0) (sym c.symbol-item.is) ∙ c.in_err-check_symbol.ensures) ∙ ap (λ (p : MergeOffsetPlace). Some p) (sym is))

pub overflow_add-number : goal.overflow_add-number
overflow_add-number c =
    omega (
      arith,
      c.loop-symbol.invariant.number,
      c.loop-symbol-test.true,
      ap length c.as_slice-symbol-items.ensures,
      symbols_within c.args.link.now.groups c.args.file.id c.args.file.file.now c.requires.there,
      symbols_few c.args.link.now c.requires.good,
    )

pub loop-symbol-preserved : goal.loop-symbol-preserved
loop-symbol-preserved c =
    let link = c.args.link.now in
    let f = symbol_outside link c.args.live.now c.args.file.file.now.kind in
    let k = c.loop-symbol.symbol-index in
    record {
      none = one_more f (first_symbol link.groups c.args.file.id) c.args.file.file.now.symbols c.as_slice-symbol-items.result.now k c.loop-symbol.number c.symbol-item.result
          c.as_slice-symbol-items.ensures c.loop-symbol-test.true c.loop-symbol.invariant.number c.loop-symbol.invariant.none
          (ap (λ (s : InputSymbol). f (c.loop-symbol.number, s)) (sym c.symbol-item.is) ∙ c.in_ok-check_symbol.ensures);
      number = omega (arith, c.loop-symbol.invariant.number);
    }

pub returns : goal.returns
returns c =
    let link = c.args.link.now in
    all_gone (symbol_outside link c.args.live.now c.args.file.file.now.kind) (first_symbol link.groups c.args.file.id) c.args.file.file.now.symbols c.as_slice-symbol-items.result.now c.loop-symbol.symbol-index
    c.as_slice-symbol-items.ensures c.loop-symbol-test.false c.loop-symbol.invariant.none
