use Rattle.std.proofs.Common.{◌≡◌, drop}
use Rattle.lk_check.specs.Lengths.{long_list}
use Rattle.lk_check.proofs.lengths.long_list.Given as goal

abbrev pub invariant-loop-section : goal.invariant-loop-section
invariant-loop-section l = long_list l.most l.list (drop l.section-index l.sections) ≡ long_list l.most l.list l.sections
