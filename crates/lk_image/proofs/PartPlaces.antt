-- The parts of output sections: which section a part is of, and that one alone has alignment 1.
use Rattle.std.proofs.Common.{◌≡◌, ℕ, Bool, zero, suc, ◌+◌, ◌-◌, ◌<◌, ◌≤◌, true, false, List, [], ◌∷◌, Option, Some, None, length, map, get_or, refl, sym, ap, ◌∙◌, subst, inl, inr, arith}
use Rattle.std.specs.Prelude.{position, nat_lt, ◌==◌, option_map}
use Rattle.std.specs.List.{enumerate_from, flat_map, slice_get}
use Rattle.std.proofs.lemmas.Bool.{and_parts, cases_lt, eqb-true, ltb-true}
use Rattle.std.proofs.lemmas.List.{length-map}
use Rattle.std.proofs.lemmas.List.Concat.{get_or-flat_map}
use Rattle.std.proofs.lemmas.List.Quantifiers.{position-Some}
use Rattle.std.proofs.lemmas.Option.{slice_get-get_or, slice_get_within}
use Rattle.lk_link.specs.declared.link.LinkInput.{LinkInput}
use Rattle.lk_link.specs.declared.plan.PlanPart.{PlanPart}
use Rattle.lk_link.specs.declared.plan.PlanSection.{PlanSection}
use Rattle.lk_link.specs.Parts.{all_parts, first_part, part_at, part_sections}
use Rattle.lk_link.specs.PlanSections.{no_section, section_at}
use Rattle.lk_link.specs.Rules.{falls}
use Rattle.lk_link.specs.WellFormed.{IsWellFormed}
use Rattle.lk_link.proofs.Elements.{append_at, map_at}
use Rattle.lk_link.proofs.PartNumbers.{first_part-cons, first_part-suc}
use Rattle.lk_link.proofs.GoodLinks.{section_of}
use Rattle.lk_image.specs.Places.{merged_part}

-- a part is one of its section
pub record IsPartOf (sections : List PlanSection) (s p : ℕ) : Type 0 where
  pub there : s < length sections
  pub from : first_part sections s ≤ p
  pub below : p < first_part sections (s + 1)

numbers : ℕ × PlanSection → List ℕ
numbers q = map (λ p. q.0) q.1.parts

part_from : (o : ℕ) (sections : List PlanSection) (p s : ℕ) → slice_get (flat_map (λ q. map (λ p. q.0) q.1.parts) (enumerate_from o sections)) p ≡ Some s
    → (k : ℕ) × (s ≡ o + k) × IsPartOf sections k p
part_from o [] p s h = absurd (cc)
part_from o (x ∷ xs) p s h = elim (append_at (map (λ (y : PlanPart). o) x.parts) (flat_map (λ q. map (λ p. q.0) q.1.parts) (enumerate_from (o + 1) xs)) p s h) [
  | inl a ↦
      let at = map_at (λ (y : PlanPart). o) x.parts p s a in
      let within : p < length x.parts = slice_get_within x.parts p at.0 at.1 in
      (0, sym at.2 ∙ omega arith, record { there = omega arith; from = omega arith; below = omega (arith, within, first_part-suc (x ∷ xs) 0 (omega arith)) })
  | inr b ↦
      let r = part_from (o + 1) xs b.0 s b.2 in
      let as_many : length (map (λ (y : PlanPart). o) x.parts) ≡ length x.parts = length-map x.parts (λ (y : PlanPart). o) in (
        suc r.0,
        r.1 ∙ omega arith,
        record {
          there = omega (arith, r.2.there);
          from = omega (arith, r.2.from, first_part-cons x xs r.0, b.1, as_many);
          below = omega (arith, r.2.below, b.1, as_many, first_part-suc (x ∷ xs) (suc r.0) (omega (arith, r.2.there)), first_part-suc xs r.0 r.2.there, first_part-cons x xs r.0);
        },
      )
]

-- a part is one of the section that is told for it
pub part_in : (sections : List PlanSection) (p s : ℕ) → slice_get (part_sections sections) p ≡ Some s → IsPartOf sections s p
part_in sections p s h =
    let r = part_from 0 sections p s h in
    let same : r.0 ≡ s = omega (arith, r.1) in
    subst (λ (n : ℕ). IsPartOf sections n p) same r.2

-- ---- alignment 1

falls_apart : (ps : List PlanPart) (j k : ℕ) (d : PlanPart) → falls ps ≡ true → j < k → k < length ps → (get_or ps k d).alignment < (get_or ps j d).alignment
unfolding falls
falls_apart [] j k d h less within = absurd (omega arith)
falls_apart (p ∷ []) j k d h less within = absurd (omega arith)
falls_apart (p ∷ q ∷ ps) j zero d h less within = absurd (omega arith)
falls_apart (p ∷ q ∷ ps) zero (suc zero) d h less within = ltb-true q.alignment p.alignment (and_parts (nat_lt q.alignment p.alignment) (falls (q ∷ ps)) h).0
falls_apart (p ∷ q ∷ ps) zero (suc (suc k)) d h less within =
    let both = and_parts (nat_lt q.alignment p.alignment) (falls (q ∷ ps)) h in
    omega (arith, ltb-true q.alignment p.alignment both.0, falls_apart (q ∷ ps) 0 (suc k) d both.1 (omega arith) (omega arith))
falls_apart (p ∷ q ∷ ps) (suc j) (suc k) d h less within =
    falls_apart (q ∷ ps) j k d (and_parts (nat_lt q.alignment p.alignment) (falls (q ∷ ps)) h).1 (omega arith) (omega arith)

abbrev is_unit : PlanPart → Bool
is_unit p = p.alignment == 1

-- two parts of a section with alignment 1 are one
one_unit : (ps : List PlanPart) (j k : ℕ) (d : PlanPart) → falls ps ≡ true → j < length ps → k < length ps → (get_or ps j d).alignment ≡ 1 → (get_or ps k d).alignment ≡ 1 → j ≡ k
one_unit ps j k d falling at_j at_k unit_j unit_k = elim (cases_lt j k) [
  | inl less ↦ absurd (omega (arith, falls_apart ps j k d falling less at_k, unit_j, unit_k))
  | inr past ↦ elim (cases_lt k j) [
    | inl less ↦ absurd (omega (arith, falls_apart ps k j d falling less at_j, unit_j, unit_k))
    | inr behind ↦ omega (arith, past, behind)
  ]
]

-- where a search found something
found_at : (o : Option ℕ) (n q : ℕ) → option_map (λ k. n + k) o ≡ Some q → (k : ℕ) × (o ≡ Some k) × (n + k ≡ q)
found_at None n q h = absurd (cc)
found_at (Some k) n q h = (k, refl, cc)

part_of : (sections : List PlanSection) (s j : ℕ) (none : PlanPart) → s < length sections → j < length (section_at sections s).parts
    → get_or (all_parts sections) (first_part sections s + j) none ≡ get_or (section_at sections s).parts j none
part_of sections s j none below within = get_or-flat_map (λ (t : PlanSection). t.parts) sections s j no_section none below within

-- the part where merged data stand is the one of alignment 1
pub merged_is : (link : LinkInput) (s p q : ℕ) → IsWellFormed link → IsPartOf link.plan.sections s p → (part_at link.plan.sections p).alignment ≡ 1
    → merged_part link.plan.sections s ≡ Some q → q ≡ p
unfolding merged_part
merged_is link s p q good is unit found =
    let sections : List PlanSection = link.plan.sections in
    let parts : List PlanPart = (section_at sections s).parts in
    let first : ℕ = first_part sections s in
    let none : PlanPart = record { alignment = 1; packed = false } in
    let at = found_at (position is_unit parts) first q found in
    let here = position-Some is_unit parts at.0 none at.1 in
    let j : ℕ = p - first in
    let place : first + j ≡ p = omega (arith, is.from) in
    let within : j < length parts = omega (arith, is.from, is.below, first_part-suc sections s is.there) in
    let whole = part_of sections s j none is.there within in
    let unit_j : (get_or parts j none).alignment ≡ 1
    = ap (λ (x : PlanPart). x.alignment) (sym whole) ∙ ap (λ (n : ℕ). (get_or (all_parts sections) n none).alignment) place ∙ unit in
    let section = section_of link s (section_at sections s) good (slice_get-get_or sections s no_section is.there) in
    let same = one_unit parts at.0 j none section.falling here.0 within (eqb-true (get_or parts at.0 none).alignment 1 here.1) unit_j in
    omega (arith, same, place, at.2)
