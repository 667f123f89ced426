use Rattle.std.proofs.Common.{ap, arith, ◌+◌, ◌≤◌, List, drop, length}
use Rattle.std.proofs.Math.ListN.{drop_of_length-le}
use Rattle.lk_link.specs.declared.symbol.InputSymbol.{InputSymbol}
use Rattle.lk_own_symbols.proofs.Redirecting.{handed_on, in_file, none_left, symbol_goes_on, symbol_stops}
use Rattle.lk_own_symbols.proofs.redirects.evaluate_symbols.Goals as goal

pub returns-in_err-evaluate_symbol : goal.returns-in_err-evaluate_symbol
returns-in_err-evaluate_symbol g c =
    handed_on _ c.from_residual.result c.evaluate_symbol.new.values c.in_err-evaluate_symbol.field-0.0 c.from_residual.ensures.1
    (symbol_stops _ _ _ _ c.args.file.now c.args.file.now.symbols c.as_slice-symbol-items.result.now c.symbol-item.result c.args.first c.loop-index.index c.from_u32-number.result c.in_err-evaluate_symbol.field-0.0
    c.as_slice-symbol-items.ensures c.loop-index-test.true c.symbol-item.is c.from_u32-number.ensures c.in_err-evaluate_symbol.ensures c.loop-index.invariant)

pub loop-index-preserved : goal.loop-index-preserved
loop-index-preserved g c =
    symbol_goes_on _ _ _ _ _ c.args.file.now c.args.file.now.symbols c.as_slice-symbol-items.result.now c.symbol-item.result c.args.first c.loop-index.index c.from_u32-number.result
    c.as_slice-symbol-items.ensures c.loop-index-test.true c.symbol-item.is c.from_u32-number.ensures c.in_ok-evaluate_symbol.ensures c.loop-index.invariant

pub returns : goal.returns
returns g c =
    let xs : List InputSymbol = c.args.file.now.symbols in
    let far : length xs ≤ c.loop-index.index = omega (arith, c.loop-index-test.false, ap length c.as_slice-symbol-items.ensures) in
    none_left _ _ c.loop-index.values _ (c.args.first + c.loop-index.index) (in_file c.args.file.now (drop c.loop-index.index xs)) (ap (in_file c.args.file.now) (drop_of_length-le xs far)) c.loop-index.invariant
