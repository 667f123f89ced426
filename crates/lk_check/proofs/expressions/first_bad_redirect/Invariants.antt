use Rattle.std.proofs.Common.{◌≡◌}
use Rattle.lk_link.specs.ExpressionRules.{is_good_redirect}
use Rattle.lk_link.specs.Inputs.{numbered_files}
use Rattle.lk_check.specs.FirstAnswer.{first_of}
use Rattle.lk_check.specs.FirstBadFile.{first_bad_in_file}
use Rattle.lk_check.proofs.expressions.first_bad_redirect.Given as goal

abbrev pub invariant-loop-at : goal.invariant-loop-at
invariant-loop-at l =
    first_of (first_bad_in_file (λ f. f.symbols) (λ f s. is_good_redirect l.link s.at)) l.at-iterator
    ≡ first_of (first_bad_in_file (λ f. f.symbols) (λ f s. is_good_redirect l.link s.at)) (numbered_files l.link.groups)
