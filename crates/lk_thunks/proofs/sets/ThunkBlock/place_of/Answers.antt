use Rattle.std.proofs.Common.{◌≡◌, ◌==◌, ◌<◌, List, ℕ, arith, get_or, length, position, subst, sym, ap, ◌∙◌}
use Rattle.lk_thunks.specs.SetLaws.{IsRising}
use Rattle.lk_thunks.proofs.Places.{found_nowhere, found_there, whatever}
use Rattle.lk_thunks.proofs.sets.ThunkBlock.place_of.Goals as goal

pub returns-then-place-symbols : goal.returns-then-place-symbols
returns-then-place-symbols c =
    let symbols : List ℕ = c.as_slice-symbols.result.now in
    let rising : IsRising symbols = subst (λ (xs : List ℕ). IsRising xs) (sym c.as_slice-symbols.ensures) c.requires in
    found_nowhere c.args.definition c.place_for-place.result symbols rising c.place_for-place.ensures (λ lt. absurd (omega (arith, lt, c.if-place-symbols.true)))
    ∙ ap (λ (xs : List ℕ). position (λ s. s == c.args.definition) xs) c.as_slice-symbols.ensures

pub returns-then-found-as_u32 : goal.returns-then-found-as_u32
returns-then-found-as_u32 c =
    let symbols : List ℕ = c.as_slice-symbols.result.now in
    let place : ℕ = c.place_for-place.result in
    let there : place < length symbols = omega (arith, c.if-place-symbols.false) in
    let here : get_or symbols place 0 ≡ c.args.definition
    = whatever symbols place c.index-symbols-place.result there ∙ sym c.index-symbols-place.is ∙ sym c.as_u32-found.ensures ∙ c.if-found-as_u32.true ∙ c.as_u32.ensures in
    found_there c.args.definition place symbols c.place_for-place.ensures there here ∙ ap (λ (xs : List ℕ). position (λ s. s == c.args.definition) xs) c.as_slice-symbols.ensures

pub returns-else-found-as_u32 : goal.returns-else-found-as_u32
returns-else-found-as_u32 c =
    let symbols : List ℕ = c.as_slice-symbols.result.now in
    let place : ℕ = c.place_for-place.result in
    let rising : IsRising symbols = subst (λ (xs : List ℕ). IsRising xs) (sym c.as_slice-symbols.ensures) c.requires in
    found_nowhere c.args.definition place symbols rising c.place_for-place.ensures
    (λ there e. c.if-found-as_u32.false
    (c.as_u32-found.ensures ∙ c.index-symbols-place.is ∙ sym (whatever symbols place c.index-symbols-place.result there) ∙ e ∙ sym c.as_u32.ensures))
    ∙ ap (λ (xs : List ℕ). position (λ s. s == c.args.definition) xs) c.as_slice-symbols.ensures
