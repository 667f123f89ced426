use Rattle.std.proofs.Common.{length, take, List}
use Rattle.lk_link.specs.declared.file.InputFile.{InputFile}
use Rattle.lk_link.specs.Ends.{AreEnds}
use Rattle.lk_link.proofs.groups.ends_of_groups.Given as goal

abbrev pub invariant-loop-files : goal.invariant-loop-files
invariant-loop-files l = AreEnds (λ (files : List InputFile). length files) l.ends.items (take l.files-index l.groups)
