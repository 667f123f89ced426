use Rattle.std.proofs.Common.{◌≡◌}
use Rattle.lk_link.specs.Inputs.{numbered_files}
use Rattle.lk_link.specs.TableRules.{has_tables}
use Rattle.lk_check.specs.FirstAnswer.{first_of}
use Rattle.lk_check.specs.FirstBadFile.{first_bad_in_file}
use Rattle.lk_check.proofs.tables.first_bad_tables.Given as goal

abbrev pub invariant-loop-at : goal.invariant-loop-at
invariant-loop-at l =
    first_of (first_bad_in_file (λ f. f.sections) (λ f. has_tables l.link.plan.named)) l.at-iterator
    ≡ first_of (first_bad_in_file (λ f. f.sections) (λ f. has_tables l.link.plan.named)) (numbered_files l.link.groups)
