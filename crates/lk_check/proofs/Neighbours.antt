-- Neighbours that all pass a test, by the pairs that a list makes with itself from the second element on.
use Rattle.std.proofs.Common.{◌≡◌, ℕ, suc, ◌+◌, ◌-◌, Bool, true, ◌&&◌, List, [], ◌∷◌, drop, length, min, nat_le, nat_lt, take, length-drop, refl, ap, ◌∙◌, arith}
use Rattle.std.proofs.lemmas.List.{take_all}
use Rattle.std.specs.List.{list_all, zip}
use Rattle.lk_link.specs.declared.plan.PlanPart.{PlanPart}
use Rattle.lk_link.specs.declared.relocation.RelaxCandidate.{RelaxCandidate}
use Rattle.lk_link.specs.InputRules.{rise}
use Rattle.lk_link.specs.Rules.{falls}

-- each element and the next pass
unfoldable pub pass : {X : Type 0} → (X → X → Bool) → List X → Bool
pass r [] = true
pass r (x ∷ []) = true
pass r (x ∷ y ∷ xs) = r x y && pass r (y ∷ xs)

from_second : {X : Type 0} (r : X → X → Bool) (x : X) (xs : List X) → list_all (λ p. r p.0 p.1) (zip (x ∷ xs) xs) ≡ pass r (x ∷ xs)
unfolding pass
from_second r x [] = refl
from_second r x (y ∷ xs) = ap (λ b. r x y && b) (from_second r y xs)

by_pairs : {X : Type 0} (r : X → X → Bool) (xs : List X) → list_all (λ p. r p.0 p.1) (zip xs (drop (min (length xs) 1) xs)) ≡ pass r xs
unfolding pass
by_pairs r [] = refl
by_pairs r (x ∷ xs) =
    let one : min (length (x ∷ xs)) 1 ≡ suc 0 = omega arith in
    ap (λ n. list_all (λ p. r p.0 p.1) (zip (x ∷ xs) (drop n (x ∷ xs)))) one ∙ from_second r x xs

-- from the second element on, as the code cuts it
pub behind_first : {X : Type 0} (xs : List X) (m : ℕ) → m ≡ min (length xs) 1 → take (length xs - m) (drop m xs) ≡ drop (min (length xs) 1) xs
behind_first xs m h =
    take_all (length xs - m) (drop m xs) (omega (arith, length-drop m xs)) ∙ ap (λ n. drop n xs) h

falls_pass : (parts : List PlanPart) → pass (λ p q. nat_lt q.alignment p.alignment) parts ≡ falls parts
unfolding pass falls
falls_pass [] = refl
falls_pass (p ∷ []) = refl
falls_pass (p ∷ q ∷ ps) = ap (λ b. nat_lt q.alignment p.alignment && b) (falls_pass (q ∷ ps))

rise_pass : (rs : List RelaxCandidate) → pass (λ r q. nat_le (r.at + r.del) q.at) rs ≡ rise rs
unfolding pass rise
rise_pass [] = refl
rise_pass (r ∷ []) = refl
rise_pass (r ∷ q ∷ rs) = ap (λ b. nat_le (r.at + r.del) q.at && b) (rise_pass (q ∷ rs))

-- alignments of parts fall
pub falls-pairs : (parts : List PlanPart) → list_all (λ p. nat_lt p.1.alignment p.0.alignment) (zip parts (drop (min (length parts) 1) parts)) ≡ falls parts
falls-pairs parts = by_pairs (λ p q. nat_lt q.alignment p.alignment) parts ∙ falls_pass parts

-- relaxations rise
pub rise-pairs : (rs : List RelaxCandidate) → list_all (λ p. nat_le (p.0.at + p.0.del) p.1.at) (zip rs (drop (min (length rs) 1) rs)) ≡ rise rs
rise-pairs rs = by_pairs (λ r q. nat_le (r.at + r.del) q.at) rs ∙ rise_pass rs
