use Rattle.std.proofs.Common.{◌≡◌, find, not}
use Rattle.lk_link.specs.CandidateRules.{has_good_candidates}
use Rattle.lk_link.specs.Inputs.{numbered_files}
use Rattle.lk_check.proofs.candidates.first_place.Given as goal

abbrev pub invariant-loop-at : goal.invariant-loop-at
invariant-loop-at l =
    find (λ f. not (has_good_candidates l.link f.file)) l.at-iterator ≡ find (λ f. not (has_good_candidates l.link f.file)) (numbered_files l.link.groups)
