use Rattle.std.proofs.Common.{◌≡◌, ◌++◌, take}
use Rattle.std.specs.List.{enumerate_from}
use Rattle.lk_link.specs.Walks.{file_of}
use Rattle.lk_tables.specs.DynamicWords.{numbers_of}
use Rattle.lk_tables.proofs.dynamic.push_symbols.Given as goal

-- those of the symbols so far are added
abbrev pub invariant-loop-index : goal.invariant-loop-index
invariant-loop-index l =
    l.table.items
    ≡ l.initial.table.items ++ numbers_of l.exported l.given.link.now l.given.live.now l.given.told.now (file_of l.file) (enumerate_from l.first (take l.index l.symbols))
