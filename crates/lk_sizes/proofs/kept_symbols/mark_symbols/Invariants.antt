use Rattle.std.proofs.Common.{take}
use Rattle.std.specs.List.{enumerate_from}
use Rattle.lk_sizes.specs.Emitted.{keeps}
use Rattle.lk_sizes.proofs.SymbolsKeep.{AreMarkedBy}
use Rattle.lk_sizes.proofs.kept_symbols.mark_symbols.Given as goal

-- the marks that the symbols so far set
abbrev pub invariant-loop-index : goal.invariant-loop-index
invariant-loop-index l = AreMarkedBy (keeps l.live l.kind) (enumerate_from l.first (take l.index l.symbols)) l.initial.marks l.marks
