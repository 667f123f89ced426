use Rattle.std.proofs.Common.{◌≡◌, ◌+◌, drop}
use Rattle.lk_link.specs.SymbolRules.{file_symbols}
use Rattle.lk_link.specs.Symbols.{symbol_count}
use Rattle.lk_own_symbols.specs.AtHand.{all_placed}
use Rattle.lk_own_symbols.specs.Redirects.{redirected, redirects_from}
use Rattle.lk_own_symbols.proofs.redirects.evaluate_files.Given as goal

-- what is left comes to what all come to, and has the symbols from the next number on
abbrev pub invariant-loop-file : goal.invariant-loop-file
invariant-loop-file g l = record {
  left : redirected (record { value_of = g.V.KnownValues.value_of; with_value = g.V.SymbolValues.with_value }) (all_placed l.placed) l.values
      (redirects_from l.number (file_symbols (drop l.file-index l.files)))
      ≡ redirected (record { value_of = g.V.KnownValues.value_of; with_value = g.V.SymbolValues.with_value }) (all_placed l.placed) l.initial.values
      (redirects_from l.first (file_symbols l.files));
  count : l.number + symbol_count (drop l.file-index l.files) ≡ l.first + symbol_count l.files;
}
