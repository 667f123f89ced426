use Rattle.std.proofs.Common.{◌≡◌, find}
use Rattle.lk_link.specs.Inputs.{numbered_files}
use Rattle.lk_check.specs.FirstBadFile.{is_other_prelude}
use Rattle.lk_check.proofs.prelude.other_prelude.Given as goal

abbrev pub invariant-loop-at : goal.invariant-loop-at
invariant-loop-at l = find is_other_prelude l.at-iterator ≡ find is_other_prelude (numbered_files l.groups)
