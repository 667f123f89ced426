use Rattle.std.proofs.Common.{◌≡◌, ◌+◌, drop}
use Rattle.lk_link.specs.SymbolRules.{file_symbols}
use Rattle.lk_link.specs.Symbols.{all_files, symbol_count}
use Rattle.lk_own_symbols.specs.AtHand.{all_placed}
use Rattle.lk_own_symbols.specs.Redirects.{redirected, redirects_from, redirects_of}
use Rattle.lk_own_symbols.proofs.redirects.evaluate_redirects.Given as goal

-- what is left comes to what all come to, and has the symbols from the next number on
abbrev pub invariant-loop-files : goal.invariant-loop-files
invariant-loop-files g l = record {
  left : redirected (record { value_of = g.V.KnownValues.value_of; with_value = g.V.SymbolValues.with_value }) (all_placed l.placed) l.values
      (redirects_from l.number (file_symbols (all_files (drop l.files-index l.groups))))
      ≡ redirected (record { value_of = g.V.KnownValues.value_of; with_value = g.V.SymbolValues.with_value }) (all_placed l.placed) l.initial.values
      (redirects_of l.placed.link.now.groups);
  count : l.number + symbol_count (all_files (drop l.files-index l.groups)) ≡ symbol_count (all_files l.groups);
}
