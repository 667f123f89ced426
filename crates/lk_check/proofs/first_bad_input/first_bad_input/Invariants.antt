use Rattle.std.proofs.Common.{◌≡◌, length}
use Rattle.lk_link.specs.InputRules.{is_good_input}
use Rattle.lk_link.specs.Inputs.{numbered_files}
use Rattle.lk_check.specs.FirstAnswer.{first_of}
use Rattle.lk_check.specs.FirstBadFile.{first_bad_in_file}
use Rattle.lk_check.proofs.first_bad_input.first_bad_input.Given as goal

abbrev pub invariant-loop-at : goal.invariant-loop-at
invariant-loop-at l =
    first_of (first_bad_in_file (λ f. f.sections) (λ f. is_good_input l.link.plan (length f.symbols))) l.at-iterator
    ≡ first_of (first_bad_in_file (λ f. f.sections) (λ f. is_good_input l.link.plan (length f.symbols))) (numbered_files l.link.groups)
