use Rattle.std.proofs.Common.{◌≡◌, ◌++◌, map, take}
use Rattle.std.specs.List.{enumerate_from, filter_map}
use Rattle.lk_link.specs.Walks.{file_of}
use Rattle.lk_tables.specs.Commons.{common_of}
use Rattle.lk_tables.specs.ShareSteps.{sum_of, symbol_share}
use Rattle.lk_tables.proofs.shares.take_symbols.Given as goal

-- those of the symbols so far, and the commons among them
abbrev pub invariant-loop-index : goal.invariant-loop-index
invariant-loop-index g l =
    (l.sum ≡ sum_of (map (symbol_share (g.P.Platform.table_sizes l.platform) l.given.link.now l.given.live.now l.given.told.now (file_of l.file))
    (enumerate_from l.first (take l.index l.symbols))))
    × (l.commons.items ≡ l.initial.commons.items ++ filter_map (common_of l.given.live.now l.file.file.now.kind) (enumerate_from l.first (take l.index l.symbols)))
