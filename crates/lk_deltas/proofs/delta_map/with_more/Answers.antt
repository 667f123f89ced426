use Rattle.std.proofs.Common.{◌≡◌, ◌∙◌, IfOk, List, Result, Ok, Err, [], ℕ, sym, subst}
use Rattle.std.specs.Option.{option_copied}
use Rattle.std.specs.declared.alloc.AllocError.{AllocError}
use Rattle.std.proofs.lemmas.List.Sorted.{IsPermutation-refl}
use Rattle.lk_deltas.specs.Candidates.{ranges_in}
use Rattle.lk_deltas.specs.Deletions.{AreBoth, AreDeletions}
use Rattle.lk_deltas.specs.Laws.{BothAreOne}
use Rattle.lk_deltas.proofs.delta_map.with_more.Goals as goal

-- without an entry, the ranges are new
alone : BothAreOne → (more all : List (ℕ × ℕ)) → AreDeletions more → AreBoth [] more all → more ≡ all
alone law more all rising both = law [] more all more both (record { moved = IsPermutation-refl more; rising = rising })

same_as : {E : Type 0} (copy : Result (List (ℕ × ℕ)) E) (more all : List (ℕ × ℕ)) → IfOk copy (λ ds. ds ≡ more) → more ≡ all → IfOk copy (λ ds. ds ≡ all)
same_as (Ok ds) more all is same = is ∙ same
same_as (Err e) more all is same = tt

pub returns-in-None : goal.returns-in-None
returns-in-None c = λ all both.
    let new : AreBoth [] c.args.more.now all = subst (λ o. AreBoth (ranges_in (option_copied o)) c.args.more.now all) c.in-None.is both in
    same_as c.copied.result c.args.more.now all c.copied.ensures (alone c.both_are_one.ensures c.args.more.now all c.are_deletions.ensures new)
