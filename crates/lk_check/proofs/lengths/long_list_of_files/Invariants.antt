use Rattle.std.proofs.Common.{◌≡◌, drop}
use Rattle.lk_check.specs.Lengths.{long_list, sections_of}
use Rattle.lk_check.proofs.lengths.long_list_of_files.Given as goal

abbrev pub invariant-loop-file : goal.invariant-loop-file
invariant-loop-file l = long_list l.most l.list (sections_of (drop l.file-index l.files)) ≡ long_list l.most l.list (sections_of l.files)
