use Rattle.std.proofs.Common.{map}
use Rattle.lk_link.specs.Walks.{file_of}
use Rattle.lk_sizes.specs.Emitted.{file_keeps}
use Rattle.lk_sizes.proofs.SymbolsKeep.{AreMarkedBy}
use Rattle.lk_sizes.proofs.kept_symbols.mark_files.Given as goal

-- the marks that the files so far set
abbrev pub invariant-loop-file : goal.invariant-loop-file
invariant-loop-file l = AreMarkedBy (file_keeps l.link l.live) (map file_of l.yielded) l.initial.marks l.marks
