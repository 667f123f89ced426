use Rattle.std.proofs.Common.{ℕ, List, ◌∷◌, [], ◌++◌, ap, get_or, ◌∙◌}
use Rattle.lk_ranks.specs.Ranks.{sort_key}
use Rattle.lk_ranks.proofs.RankSteps.{numbered_more}
use Rattle.lk_ranks.proofs.ranks.keys_of.Goals as goal

pub loop-place-preserved : goal.loop-place-preserved
loop-place-preserved c =
    let numbers : List ℕ = c.args.numbers.now in
    let i : ℕ = c.loop-place.place in
    c.in_ok-push.ensures.items
    ∙ ap (λ (keys : List ℕ). keys ++ sort_key c.args.ranks.now (i, get_or numbers i 0) ∷ []) c.loop-place.invariant
    ∙ numbered_more (sort_key c.args.ranks.now) numbers i 0 c.loop-place-test.true
