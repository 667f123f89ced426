use Rattle.std.proofs.Common.{◌≡◌, ◌+◌, [], take}
use Rattle.std.specs.List.{enumerate_from, flat_map}
use Rattle.lk_link.specs.Symbols.{first_symbol}
use Rattle.lk_resolutions.specs.Outside.{symbol_outside}
use Rattle.lk_resolutions.proofs.outside.check_file_symbols.Given as goal

-- none of the symbols so far stands outside
abbrev pub invariant-loop-symbol : goal.invariant-loop-symbol
invariant-loop-symbol l = record {
  none : flat_map (symbol_outside l.link l.live l.file.file.now.kind) (take l.symbol-index (enumerate_from (first_symbol l.link.groups l.file.id) l.file.file.now.symbols)) ≡ [];
  number : l.number ≡ first_symbol l.link.groups l.file.id + l.symbol-index;
}
