use Rattle.std.proofs.Common.{◌≡◌, drop}
use Rattle.lk_link.specs.Limits.{all_sections}
use Rattle.lk_check.specs.Lengths.{long_list}
use Rattle.lk_check.proofs.lengths.long_list_of_groups.Given as goal

abbrev pub invariant-loop-files : goal.invariant-loop-files
invariant-loop-files l = long_list l.most l.list (all_sections (drop l.files-index l.groups)) ≡ long_list l.most l.list (all_sections l.groups)
