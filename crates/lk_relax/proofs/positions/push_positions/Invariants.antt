use Rattle.std.proofs.Common.{◌≡◌, ◌++◌, drop, map}
use Rattle.std.specs.Option.{option_copied}
use Rattle.lk_link.specs.declared.symbol.InputSymbol.{InputSymbol}
use Rattle.lk_relax.specs.PositionWords.{symbol_position_in}
use Rattle.lk_relax.proofs.positions.push_positions.Given as goal

-- those so far, followed by those of the symbols that are left, are all
abbrev pub invariant-loop-symbol : goal.invariant-loop-symbol
invariant-loop-symbol l =
    l.positions.items ++ map (λ (x : InputSymbol). symbol_position_in (option_copied l.entries) l.sections l.first x.at) (drop l.symbol-index l.symbols)
    ≡ l.initial.positions.items ++ map (λ (x : InputSymbol). symbol_position_in (option_copied l.entries) l.sections l.first x.at) l.symbols
