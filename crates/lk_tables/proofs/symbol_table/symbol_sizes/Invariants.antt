use Rattle.std.proofs.Common.{◌≡◌, map}
use Rattle.lk_link.specs.Walks.{file_of}
use Rattle.lk_tables.specs.SymbolTable.{file_symbol_sizes}
use Rattle.lk_tables.proofs.symbol_table.symbol_sizes.Given as goal

-- those of the files so far
abbrev pub invariant-loop-file : goal.invariant-loop-file
invariant-loop-file g l =
    l.sizes.items ≡ map (file_symbol_sizes (g.P.Platform.table_sizes l.platform).symbol_entry l.link l.live l.header.told) (map file_of l.yielded)
