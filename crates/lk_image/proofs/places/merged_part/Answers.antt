use Rattle.std.proofs.Common.{◌≡◌, ℕ, ◌+◌, ◌<◌, ◌==◌, List, Option, Some, None, length, get_or, ap, ◌∙◌, arith}
use Rattle.std.specs.Prelude.{option_map, position}
use Rattle.std.proofs.lemmas.List.{get_or_default}
use Rattle.lk_link.specs.declared.plan.PlanPart.{PlanPart}
use Rattle.lk_link.specs.declared.plan.PlanSection.{PlanSection}
use Rattle.lk_link.specs.Parts.{first_part}
use Rattle.lk_link.specs.PlanSections.{no_section, section_at}
use Rattle.lk_link.proofs.GoodLinks.{few}
use Rattle.lk_link.proofs.PartNumbers.{parts_end-le}
use Rattle.lk_image.specs.Places.{merged_part}
use Rattle.lk_image.proofs.places.merged_part.Goals as goal

-- the parts of the section that is read are its own
same_parts : (sections told : List PlanSection) (s : ℕ) (section : PlanSection) (parts : List PlanPart) → told ≡ sections → s < length sections
    → parts ≡ (get_or told s section).parts → parts ≡ (section_at sections s).parts
same_parts sections told s section parts same below at =
    at ∙ ap (λ (xs : List PlanSection). (get_or xs s section).parts) same ∙ ap (λ (x : PlanSection). x.parts) (get_or_default sections s section no_section below)

-- the search of its parts is that of the definition
search_of : (sections : List PlanSection) (s : ℕ) (parts : List PlanPart) (found : Option ℕ) → parts ≡ (section_at sections s).parts → found ≡ position (λ p. p.alignment == 1) parts
    → option_map (λ k. first_part sections s + k) found ≡ merged_part sections s
unfolding merged_part
search_of sections s parts found same is =
    ap (option_map (λ k. first_part sections s + k)) (is ∙ ap (position (λ (p : PlanPart). p.alignment == 1)) same)

pub overflow_add-result : goal.overflow_add-result
overflow_add-result c =
    let sections : List PlanSection = c.args.link.now.plan.sections in
    let same = same_parts sections c.as_slice.result.now c.args.section c.index-as_slice-section.result c.as_slice-2.result.now c.as_slice.ensures c.requires.there c.as_slice-2.ensures in
    omega (
      arith,
      c.first_part.ensures,
      c.in-Some.ensures.inside,
      ap length same,
      parts_end-le sections c.args.section c.requires.there,
      (few c.args.link.now c.requires.good).parts,
    )

pub returns-in-Some : goal.returns-in-Some
returns-in-Some c =
    let sections : List PlanSection = c.args.link.now.plan.sections in
    let same = same_parts sections c.as_slice.result.now c.args.section c.index-as_slice-section.result c.as_slice-2.result.now c.as_slice.ensures c.requires.there c.as_slice-2.ensures in
    ap (λ (n : ℕ). Some (n + c.in-Some.place)) c.first_part.ensures
    ∙ search_of sections c.args.section c.as_slice-2.result.now (Some c.in-Some.place) same c.in-Some.ensures.found

pub returns-in-None : goal.returns-in-None
returns-in-None c =
    let sections : List PlanSection = c.args.link.now.plan.sections in
    let same = same_parts sections c.as_slice.result.now c.args.section c.index-as_slice-section.result c.as_slice-2.result.now c.as_slice.ensures c.requires.there c.as_slice-2.ensures in
    search_of sections c.args.section c.as_slice-2.result.now None same c.in-None.ensures.found
