use Rattle.std.proofs.Common.{List, ◌++◌, take}
use Rattle.lk_link.specs.declared.file.InputFile.{InputFile}
use Rattle.lk_link.specs.FileIndex.{AreFileEnds}
use Rattle.lk_link.proofs.groups.push_ends.Given as goal

abbrev pub invariant-loop-file : goal.invariant-loop-file
invariant-loop-file l = (before : List InputFile) → AreFileEnds before l.initial.ends.symbols.items l.initial.ends.sections.items
    → AreFileEnds (before ++ take l.file-index l.files) l.ends.symbols.items l.ends.sections.items
