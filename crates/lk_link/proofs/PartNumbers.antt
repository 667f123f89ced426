-- The numbers of the parts of sections.
use Rattle.std.proofs.Common.{◌≡◌, ℕ, zero, suc, ◌+◌, ◌≤◌, ◌<◌, List, [], ◌∷◌, length, take, arith, ap, ◌∙◌, add-one, length-append}
use Rattle.lk_link.specs.declared.plan.PlanSection.{PlanSection}
use Rattle.lk_link.specs.Parts.{all_parts, first_part}
use Rattle.lk_link.specs.PlanSections.{section_at}

-- one section more at the front
pub first_part-cons : (x : PlanSection) (xs : List PlanSection) (s : ℕ) → first_part (x ∷ xs) (suc s) ≡ length x.parts + first_part xs s
first_part-cons x xs s = length-append x.parts (all_parts (take s xs))

-- the next section's first part stands behind this one's parts
pub first_part-suc : (sections : List PlanSection) (s : ℕ) → s < length sections → first_part sections (s + 1) ≡ first_part sections s + length (section_at sections s).parts
first_part-suc [] s h = absurd (omega arith)
first_part-suc (x ∷ xs) zero h = first_part-cons x xs 0 ∙ omega arith
first_part-suc (x ∷ xs) (suc s) h =
    let rest : first_part xs (s + 1) ≡ first_part xs s + length (section_at xs s).parts = first_part-suc xs s (omega arith) in
    ap (first_part (x ∷ xs)) (add-one (suc s)) ∙ first_part-cons x xs (suc s) ∙ omega (arith, rest, first_part-cons x xs s, ap (first_part xs) (add-one s))

-- no section's first part is past the last part
pub first_part-le : (sections : List PlanSection) (s : ℕ) → first_part sections s ≤ length (all_parts sections)
first_part-le [] zero = omega arith
first_part-le [] (suc s) = omega arith
first_part-le (x ∷ xs) zero = omega arith
first_part-le (x ∷ xs) (suc s) = omega (arith, first_part-cons x xs s, first_part-le xs s, length-append x.parts (all_parts xs))

-- a section's parts end among all
pub parts_end-le : (sections : List PlanSection) (s : ℕ) → s < length sections → first_part sections s + length (section_at sections s).parts ≤ length (all_parts sections)
parts_end-le sections s below = omega (arith, first_part-suc sections s below, first_part-le sections (s + 1))

-- first parts rise
pub first_part-rises : (sections : List PlanSection) (s : ℕ) → first_part sections s ≤ first_part sections (s + 1)
first_part-rises [] zero = omega arith
first_part-rises [] (suc s) = omega arith
first_part-rises (x ∷ xs) zero = omega arith
first_part-rises (x ∷ xs) (suc s) =
    omega (arith, first_part-cons x xs s, first_part-cons x xs (suc s), first_part-rises xs s, ap (first_part (x ∷ xs)) (add-one (suc s)), ap (first_part xs) (add-one s))

-- what is known of these numbers
pub ruleset part_numbers = (first_part-suc, first_part-le, parts_end-le, first_part-rises)
