-- What a layout answers of starts, as it is found.
use Rattle.std.proofs.Common.{◌≡◌, ◌∙◌, ◌+◌, ◌-◌, ◌≤◌, ◌<◌, ◌==◌, ℕ, zero, suc, drop, take, get_or, Bool, true, false, min, if◌then◌else◌, List, [], ◌∷◌, length, map, fold, Option, Some, None, refl, ap, arith, length-append}
use Rattle.std.specs.List.{enumerate_from, flat_map, slice_get}
use Rattle.std.specs.Option.{option_map_or}
use Rattle.std.proofs.lemmas.List.{drop_more, length-drop, length-map, length-take}
use Rattle.std.proofs.lemmas.Option.{slice_get_past}
use Rattle.lk_link.specs.declared.plan.PlanSection.{PlanSection}
use Rattle.lk_link.specs.Parts.{all_parts, part_sections}
use Rattle.lk_place.specs.Segments.{least}

-- ---- the section of a part

parts_many : (n : ℕ) (sections : List PlanSection) → length (flat_map (λ q. map (λ p. q.0) q.1.parts) (enumerate_from n sections)) ≡ length (all_parts sections)
parts_many n [] = refl
parts_many n (s ∷ sections) =
    let numbers : List ℕ = map (λ p. n) s.parts in
    let others : List ℕ = flat_map (λ q. map (λ p. q.0) q.1.parts) (enumerate_from (n + 1) sections) in
    omega (arith, length-append numbers others, length-append s.parts (all_parts sections), length-map s.parts (λ p. n), parts_many (n + 1) sections)

-- past the last part there is none
pub no_section : (sections : List PlanSection) (p : ℕ) → length (all_parts sections) ≤ p → slice_get (part_sections sections) p ≡ None
no_section sections p past = slice_get_past (part_sections sections) p (omega (arith, parts_many 0 sections, past))

-- ---- the least start

-- the least of some numbers and one before them, if there is one
abbrev pub least_with : Option ℕ → List ℕ → ℕ
least_with None ns = least 0 ns
least_with (Some n) ns = fold min n ns

-- one more is either the next number or none
pub one_more : {X : Type 0} (start : X → ℕ) (is : Bool) (so_far : Option ℕ) (x : X) (xs : List X)
    → least_with (if is then Some (option_map_or (λ n. min n (start x)) so_far (start x)) else so_far) (map start xs)
    ≡ least_with so_far (map start (if is then x ∷ xs else xs))
one_more start true None x xs = refl
one_more start true (Some n) x xs = refl
one_more start false so_far x xs = refl

-- ---- what is left of a range

-- where something is left, it is the first one and then what is left behind it
pub first_left : {X : Type 0} (xs : List X) (s n : ℕ) (d : X) → 0 < length (take n (drop s xs)) → take n (drop s xs) ≡ get_or xs s d ∷ take (n - 1) (drop (s + 1) xs)
first_left xs s zero d h = absurd (omega (arith, h))
first_left xs s (suc m) d h =
    let within : s < length xs = omega (arith, h, length-take (suc m) (drop s xs), length-drop s xs) in
    let left : m ≡ suc m - 1 = omega arith in
    ap (take (suc m)) (drop_more xs s d within) ∙ ap (λ k. get_or xs s d ∷ take k (drop (s + 1) xs)) left

-- a list that isn't empty has something
pub some_there : (n : ℕ) → (n == 0) ≡ false → 0 < n
some_there zero h = absurd (cc)
some_there (suc n) h = omega arith
