use Rattle.std.proofs.Common.{◌≡◌, ℕ, ◌%◌, ◌^◌, List, ◌∷◌, [], ◌++◌, Option, Some, ap, sym, map, take, get_or, slice_get, ◌∙◌}
use Rattle.std.proofs.lemmas.List.{map-append}
use Rattle.lk_ranks.proofs.RankSteps.{mapped_more}
use Rattle.lk_ranks.proofs.Turns.{there}
use Rattle.lk_ranks.proofs.ranks.in_order.Goals as goal

pub loop-key-preserved : goal.loop-key-preserved
loop-key-preserved g c =
    let keys : List ℕ = c.args.keys.now in
    let told = c.args.told.now in
    let i : ℕ = c.loop-key.key-index in
    let r = c.index-told-key.result in
    let place : ℕ = get_or keys i 0 % 2 ^ 32 in
    let of : ℕ → Option _ = λ key. slice_get told (key % 2 ^ 32) in
    let read : Some r ≡ of (get_or keys i 0) = sym (there told place r (c.requires i c.loop-key-test.true) c.index-told-key.is) in
    ap (map Some) c.in_ok-push.ensures.items
    ∙ map-append Some c.loop-key.all.items (r ∷ [])
    ∙ ap (λ (os : List (Option _)). os ++ Some r ∷ []) c.loop-key.invariant
    ∙ ap (λ (o : Option _). map of (take i keys) ++ o ∷ []) read
    ∙ mapped_more of keys i 0 c.loop-key-test.true
