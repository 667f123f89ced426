-- Merged sections go where the image of their output section stands: to that one's part of alignment 1.
use Rattle.std.proofs.Common.{◌≡◌, ℕ, zero, suc, ◌+◌, ◌-◌, ◌<◌, ◌≤◌, ◌==◌, Bool, true, false, List, [], ◌∷◌, get_or, length, Some, refl, ap, ◌∙◌, subst, inl, inr, arith, length-append}
use Rattle.std.specs.Prelude.{nat_lt}
use Rattle.std.specs.List.{list_any, position_or_len, range_with_len, slice_get, slice_index}
use Rattle.std.proofs.lemmas.Bool.{and_parts, cases_lt, eqb-true, false_from_ne_true, ltb-true, or_cases}
use Rattle.std.proofs.lemmas.List.Concat.{get_or-flat_map}
use Rattle.std.proofs.lemmas.List.Folds.{find_at, list_any_at}
use Rattle.std.proofs.lemmas.List.FromFn.{get_or-range_with_len, length-range_with_len}
use Rattle.std.proofs.lemmas.List.Sums.{position_or_len_is}
use Rattle.std.proofs.lemmas.Option.{get_or_from_slice_get, slice_get-get_or, slice_get_within}
use Rattle.lk_link.specs.declared.link.LinkInput.{LinkInput}
use Rattle.lk_link.specs.declared.plan.PlanPart.{PlanPart}
use Rattle.lk_link.specs.declared.plan.PlanSection.{PlanSection}
use Rattle.lk_link.specs.Inputs.{Input, all_inputs}
use Rattle.lk_link.specs.Parts.{all_parts, first_part, part_at}
use Rattle.lk_link.specs.PlanSections.{no_section, section_at}
use Rattle.lk_link.specs.Rules.{falls}
use Rattle.lk_link.specs.WellFormed.{IsWellFormed}
use Rattle.lk_link.proofs.Elements.{filter_at, filter_in}
use Rattle.lk_link.proofs.GoodLinks.{section_of}
use Rattle.lk_link.proofs.PartNumbers.{first_part-cons, first_part-suc}
use Rattle.lk_sizes.specs.Images.{ImagesStandWhereInputsGo, image_part}
use Rattle.lk_sizes.specs.Owners.{has_image, into, is_merged}
use Rattle.lk_link.specs.Parts.{part_sections}
use Rattle.lk_sizes.proofs.Keys.{same_number}
use Rattle.lk_sizes.proofs.ImageLemmas.{its_section}
use Rattle.lk_sizes.proofs.KeptOnes.{merged_good}

-- ---- parts with images

-- where a merged section goes, there is an image
image_there : (link : LinkInput) (k : ℕ) (x : Input) → slice_get (all_inputs link.groups) k ≡ Some x → is_merged x ≡ true → has_image link x.section.part ≡ true
image_there link k x there merged =
    let goes : Input → Bool = λ y. y.section.part == x.section.part in
    let inside = filter_in goes (all_inputs link.groups) k x there (same_number x.section.part) in
    let all : List Input = into x.section.part (all_inputs link.groups) in
    list_any_at is_merged all inside.0 x (slice_get_within all inside.0 x inside.1) (ap is_merged (get_or_from_slice_get all inside.0 x x inside.1) ∙ merged)

pub any_at : {X : Type 0} (p : X → Bool) (xs : List X) → list_any p xs ≡ true → (k : ℕ) × (x : X) × (slice_get xs k ≡ Some x) × (p x ≡ true)
any_at p [] h = absurd (cc)
any_at p (x ∷ xs) h = elim (or_cases (p x) (list_any p xs) h) [
  | inl here ↦ (0, x, refl, here)
  | inr later ↦ let r = any_at p xs later in (suc r.0, r.1, r.2, r.3)
]

-- a part with an image has alignment 1
image_alignment : (link : LinkInput) (p : ℕ) → IsWellFormed link → has_image link p ≡ true → (part_at link.plan.sections p).alignment ≡ 1
image_alignment link p good has =
    let at = any_at is_merged (into p (all_inputs link.groups)) has in
    let from = filter_at (λ y. y.section.part == p) (all_inputs link.groups) at.0 at.1 at.2 in
    let goes : at.1.section.part ≡ p = eqb-true at.1.section.part p from.2 in
    let is = (merged_good link from.0 at.1 good from.1 at.3).1 in
    let parts : List PlanPart = all_parts link.plan.sections in
    let none : PlanPart = record { alignment = 1; packed = false } in
    subst (λ q. (part_at link.plan.sections q).alignment ≡ 1) goes
    (is.merged (part_at link.plan.sections at.1.section.part) (slice_get-get_or parts at.1.section.part none is.to_part) at.3)

-- ---- the parts of a section

-- each part is one of a section's
record IsIn (sections : List PlanSection) (p s : ℕ) : Type 0 where
  below : s < length sections
  from : first_part sections s ≤ p
  behind : p < first_part sections (s + 1)

part_is_in : (sections : List PlanSection) (p : ℕ) → p < length (all_parts sections) → (s : ℕ) × IsIn sections p s
part_is_in [] p h = absurd (omega arith)
part_is_in (x ∷ xs) p h = elim (cases_lt p (length x.parts)) [
  | inl here ↦ (0, record { below = omega arith; from = omega arith; behind = omega (arith, here, first_part-suc (x ∷ xs) 0 (omega arith)) })
  | inr later ↦
      let r = part_is_in xs (p - length x.parts) (omega (arith, length-append x.parts (all_parts xs))) in (
        suc r.0,
        record {
          below = omega (arith, r.1.below);
          from = omega (arith, r.1.from, first_part-cons x xs r.0);
          behind = omega (arith, r.1.behind, first_part-suc (x ∷ xs) (suc r.0) (omega (arith, r.1.below)), first_part-suc xs r.0 r.1.below, first_part-cons x xs r.0);
        },
      )
]

falls_apart : (ps : List PlanPart) (j k : ℕ) (d : PlanPart) → falls ps ≡ true → j < k → k < length ps → (get_or ps k d).alignment < (get_or ps j d).alignment
unfolding falls
falls_apart [] j k d h less within = absurd (omega arith)
falls_apart (p ∷ []) j k d h less within = absurd (omega arith)
falls_apart (p ∷ q ∷ ps) j zero d h less within = absurd (omega arith)
falls_apart (p ∷ q ∷ ps) zero (suc zero) d h less within = ltb-true q.alignment p.alignment (and_parts (nat_lt q.alignment p.alignment) (falls (q ∷ ps)) h).0
falls_apart (p ∷ q ∷ ps) zero (suc (suc k)) d h less within =
    let both = and_parts (nat_lt q.alignment p.alignment) (falls (q ∷ ps)) h in
    omega (arith, ltb-true q.alignment p.alignment both.0, falls_apart (q ∷ ps) 0 (suc k) d both.1 (omega arith) (omega arith))
falls_apart (p ∷ q ∷ ps) (suc j) (suc k) d h less within =
    falls_apart (q ∷ ps) j k d (and_parts (nat_lt q.alignment p.alignment) (falls (q ∷ ps)) h).1 (omega arith) (omega arith)

-- the part of a section under its number there
part_of : (sections : List PlanSection) (s j : ℕ) (none : PlanPart) → s < length sections → j < length (section_at sections s).parts
    → get_or (all_parts sections) (first_part sections s + j) none ≡ get_or (section_at sections s).parts j none
part_of sections s j none below within = get_or-flat_map (λ (t : PlanSection). t.parts) sections s j no_section none below within

-- no earlier part of the section has an image
none_before : (link : LinkInput) (s j k : ℕ) → IsWellFormed link → s < length link.plan.sections → j < k → k < length (section_at link.plan.sections s).parts
    → has_image link (first_part link.plan.sections s + k) ≡ true → has_image link (first_part link.plan.sections s + j) ≡ false
none_before link s j k good below less within has =
    let sections : List PlanSection = link.plan.sections in
    let first : ℕ = first_part sections s in
    let parts : List PlanPart = (section_at sections s).parts in
    let none : PlanPart = record { alignment = 1; packed = false } in
    false_from_ne_true (has_image link (first + j)) (λ other.
    let section = section_of link s (section_at sections s) good (slice_get-get_or sections s no_section below) in
    let lower = falls_apart parts j k none section.falling less within in
    let here = image_alignment link (first + k) good has in
    let there = image_alignment link (first + j) good other in
    let at_j = ap (λ (p : PlanPart). p.alignment) (part_of sections s j none below (omega (arith, within))) in
    let at_k = ap (λ (p : PlanPart). p.alignment) (part_of sections s k none below within) in
    absurd (omega (arith, lower, here, there, at_j, at_k)))

-- the part with an image is the one of its section
stands : (link : LinkInput) (p s : ℕ) → IsWellFormed link → IsIn link.plan.sections p s → has_image link p ≡ true → image_part link s ≡ Some p
stands link p s good is has =
    let sections : List PlanSection = link.plan.sections in
    let first : ℕ = first_part sections s in
    let n : ℕ = first_part sections (s + 1) - first in
    let xs : List ℕ = range_with_len first n in
    let j : ℕ = p - first in
    let count : length xs ≡ n = length-range_with_len first n in
    let next = first_part-suc sections s is.below in
    let at : first + j ≡ p = omega (arith, is.from) in
    let within : j < n = omega (arith, is.from, is.behind) in
    let here : get_or xs j 0 ≡ p = get_or-range_with_len first n j 0 within ∙ at in
    let passes : has_image link (first + j) ≡ true = ap (has_image link) at ∙ has in
    let place : position_or_len (has_image link) xs ≡ j =
    position_or_len_is (has_image link) xs j 0 (omega (arith, count, within))
    (λ k less. ap (has_image link) (get_or-range_with_len first n k 0 (omega (arith, less, within)))
    ∙ none_before link s k j good is.below less (omega (arith, within, next)) passes)
    (λ _. ap (has_image link) here ∙ has) in
    find_at (has_image link) xs ∙ ap (slice_get xs) place ∙ slice_get-get_or xs j 0 (omega (arith, count, within)) ∙ ap Some here

pub images_stand_where_inputs_go : ImagesStandWhereInputsGo
images_stand_where_inputs_go link k x good there merged =
    let p : ℕ = x.section.part in
    let is = (merged_good link k x good there merged).1 in
    let has : has_image link p ≡ true = image_there link k x there merged in
    let at = part_is_in link.plan.sections p is.to_part in
    let section : slice_index (part_sections link.plan.sections) p ≡ at.0 = its_section link.plan.sections at.0 p at.1.below at.1.from at.1.behind in
    record {
      part = ap (image_part link) section ∙ stands link p at.0 good at.1 has;
      alignment = image_alignment link p good has;
      no_table = is.to_no_table;
    }
