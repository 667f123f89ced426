use Rattle.std.proofs.Common.{ℕ, List, ◌∷◌, [], ◌++◌, ap, get_or, ◌∙◌, Bor}
use Rattle.lk_ranks.proofs.RankSteps.{numbered_more}
use Rattle.lk_ranks.proofs.ranks.with_numbers.Goals as goal

pub loop-number-preserved : goal.loop-number-preserved
loop-number-preserved c =
    let names : List (Bor (List ℕ)) = c.args.names.now in
    let i : ℕ = c.loop-number.number in
    let d : Bor (List ℕ) = record { ref_ptr = (0, 0); now = [] } in
    c.in_ok-push.ensures.items
    ∙ ap (λ (all : List (Bor (List ℕ) × ℕ)). all ++ (get_or names i d, i) ∷ []) c.loop-number.invariant
    ∙ numbered_more (λ q. (q.1, q.0)) names i d c.loop-number-test.true
