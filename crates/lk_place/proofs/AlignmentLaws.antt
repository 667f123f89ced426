-- The greatest alignments of sections are alignments, and at least those of what they are the greatest of.
use Rattle.std.proofs.Common.{◌≡◌, ℕ, ◌+◌, ◌≤◌, true, false, cond, List, [], ◌∷◌, map, max, arith}
use Rattle.std.specs.Prelude.{filter}
use Rattle.std.specs.List.{AllByRecursion, enumerate_from}
use Rattle.std.proofs.lemmas.List.Elements.{recursion_from_All}
use Rattle.std.proofs.Math.Nat.{le-max_left}
use Rattle.lk_link.specs.declared.plan.Plan.{Plan}
use Rattle.lk_link.specs.declared.plan.PlanPart.{PlanPart}
use Rattle.lk_link.specs.Alignments.{is_alignment}
use Rattle.lk_link.specs.Parts.{first_part}
use Rattle.lk_link.specs.PlanSections.{section_at}
use Rattle.lk_link.proofs.Powers.{max_aligned}
use Rattle.lk_place.specs.Alignments.{greatest_alignment, greatest_of}
use Rattle.lk_place.specs.Setting.{has_bytes}
use Rattle.lk_place.proofs.Checked.{AreGood, own_aligned, parts_aligned}

-- the greatest of several numbers is at least what it is to be at least
pub greatest_of-least : (least : ℕ) (several : List ℕ) → least ≤ greatest_of least several
greatest_of-least least [] = omega arith
greatest_of-least least (x ∷ xs) = omega (arith, greatest_of-least (max least x) xs, le-max_left least x)

pub greatest_of-aligned : (least : ℕ) (several : List ℕ) → is_alignment least ≡ true → AllByRecursion (λ (a : ℕ). is_alignment a ≡ true) several → is_alignment (greatest_of least several) ≡ true
greatest_of-aligned least [] h all = h
greatest_of-aligned least (x ∷ xs) h all = greatest_of-aligned (max least x) xs (max_aligned least x h all.0) all.1

filled_aligned : (sizes : List ℕ) (n : ℕ) (parts : List PlanPart) → AllByRecursion (λ (p : PlanPart). is_alignment p.alignment ≡ true) parts
    → AllByRecursion (λ (a : ℕ). is_alignment a ≡ true) (map (λ q. q.1.alignment) (filter (λ q. has_bytes sizes q.0) (enumerate_from n parts)))
filled_aligned sizes n [] all = tt
filled_aligned sizes n (p ∷ parts) all =
    let rest : List (ℕ × PlanPart) = filter (λ q. has_bytes sizes q.0) (enumerate_from (n + 1) parts) in
    let later = filled_aligned sizes (n + 1) parts all.1 in
    elim (has_bytes sizes n) as (λ b. AllByRecursion (λ (a : ℕ). is_alignment a ≡ true) (map (λ q. q.1.alignment) (cond b ((n, p) ∷ rest) rest))) [ true ↦ (all.0, later) | false ↦ later ]

-- a section's greatest alignment is one
pub section_aligned : (plan : Plan) (sizes : List ℕ) (s : ℕ) → AreGood plan.sections → is_alignment (greatest_alignment plan sizes s) ≡ true
section_aligned plan sizes s good =
    greatest_of-aligned (section_at plan.sections s).align _ (own_aligned plan.sections s good)
    (filled_aligned sizes (first_part plan.sections s) (section_at plan.sections s).parts (recursion_from_All _ (section_at plan.sections s).parts (parts_aligned plan.sections s good)))
