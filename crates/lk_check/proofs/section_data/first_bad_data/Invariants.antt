use Rattle.std.proofs.Common.{◌≡◌}
use Rattle.lk_link.specs.DataRules.{has_whole_data}
use Rattle.lk_link.specs.Inputs.{numbered_files}
use Rattle.lk_check.specs.FirstAnswer.{first_of}
use Rattle.lk_check.specs.FirstBadFile.{first_bad_in_file}
use Rattle.lk_check.proofs.section_data.first_bad_data.Given as goal

abbrev pub invariant-loop-at : goal.invariant-loop-at
invariant-loop-at l =
    first_of (first_bad_in_file (λ f. f.sections) (λ f. has_whole_data)) l.at-iterator
    ≡ first_of (first_bad_in_file (λ f. f.sections) (λ f. has_whole_data)) (numbered_files l.link.groups)
