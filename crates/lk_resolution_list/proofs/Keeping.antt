-- What is kept goes on telling the same, when more is kept whole.
use Rattle.std.proofs.Common.{◌≡◌, List, [], ◌∷◌, ◌++◌, map, Option, refl, ap, ◌∙◌}
use Rattle.std.specs.Prelude.{All}
use Rattle.std.proofs.lemmas.List.{map-append}
use Rattle.std.proofs.lemmas.List.Elements.{All-head, All-tail}
use Rattle.lk_link.specs.declared.resolution.Resolution.{Resolution}
use Rattle.lk_resolution_list.specs.declared.kept.Kept.{Kept}
use Rattle.lk_resolution_list.specs.Kept.{IsWithin, StaysTold, told_of}

all_told : (old new : List Resolution) → StaysTold old new → (xs : List Kept) → All (IsWithin old) xs → map (told_of new) xs ≡ map (told_of old) xs
all_told old new stays [] all = refl
all_told old new stays (x ∷ xs) all =
    ap (λ (o : Option Resolution). o ∷ map (told_of new) xs) (stays x (All-head (IsWithin old) x xs all)).told
    ∙ ap (λ (os : List (Option Resolution)). told_of old x ∷ os) (all_told old new stays xs (All-tail (IsWithin old) x xs all))

-- one more is told behind the others
pub one_more_told : (old new : List Resolution) (xs : List Kept) (x : Kept) (o : Option Resolution) → StaysTold old new → All (IsWithin old) xs → told_of new x ≡ o
    → map (told_of new) (xs ++ x ∷ []) ≡ map (told_of old) xs ++ o ∷ []
one_more_told old new xs x o stays all is =
    map-append (told_of new) xs (x ∷ [])
    ∙ ap (λ (os : List (Option Resolution)). os ++ told_of new x ∷ []) (all_told old new stays xs all)
    ∙ ap (λ (p : Option Resolution). map (told_of old) xs ++ p ∷ []) is
