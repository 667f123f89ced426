use Rattle.std.proofs.Common.{take}
use Rattle.lk_link.specs.FileIndex.{AreFileEnds}
use Rattle.lk_link.specs.Symbols.{all_files}
use Rattle.lk_link.proofs.groups.ends_of_files.Given as goal

abbrev pub invariant-loop-files : goal.invariant-loop-files
invariant-loop-files l = AreFileEnds (all_files (take l.files-index l.groups)) l.ends.symbols.items l.ends.sections.items
