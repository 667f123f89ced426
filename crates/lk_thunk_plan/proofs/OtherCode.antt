-- The code of other parts, added up by what comes into the parts.
use Rattle.std.proofs.Common.{◌≡◌, ℕ, ◌+◌, ◌<◌, ◌≤◌, ◌&&◌, not, if◌then◌else◌, List, [], ◌∷◌, length, map, sum, sum_by, refl, ap, ◌∙◌, arith}
use Rattle.std.specs.List.{enumerate_from, slice_index}
use Rattle.std.proofs.lemmas.List.Sums.{sum_by-cons}
use Rattle.std.proofs.lemmas.Option.{get_or_from_slice_get}
use Rattle.lk_link.specs.declared.link.LinkInput.{LinkInput}
use Rattle.lk_link.specs.declared.plan.PlanPart.{PlanPart}
use Rattle.lk_link.specs.declared.plan.PlanSection.{PlanSection}
use Rattle.lk_link.specs.declared.plan.attributes.TheConstants.{EXEC}
use Rattle.lk_link.specs.PartRules.{is_part}
use Rattle.lk_link.specs.Parts.{all_parts, part_sections}
use Rattle.lk_link.specs.PlanSections.{is_set}
use Rattle.lk_link.proofs.Numbers.{made_at}
use Rattle.lk_live.specs.declared.live.Live.{Live}
use Rattle.lk_merge.proofs.MergeBytes.{part_goes}
use Rattle.lk_sizes.specs.declared.owners.PartContents.{PartContents}
use Rattle.lk_sizes.specs.Attributes.{all_section_attributes, section_attributes}
use Rattle.lk_sizes.specs.Contents.{contents_of, part_contents}
use Rattle.lk_sizes.specs.Owners.{Filling}
use Rattle.lk_thunk_plan.specs.Planning.{has_code_by, other_code_by}
use Rattle.lk_thunk_plan.specs.ThunkPlans.{code_before, has_other_code, other_code}

-- a part's section has its attributes in the list of all
same_code : (link : LinkInput) (live : Live) (p : ℕ) → p < length (all_parts link.plan.sections)
    → has_code_by link (all_section_attributes link live) p ≡ has_other_code link live p
same_code link live p below =
    let sections : List PlanSection = link.plan.sections in
    let goes = part_goes 0 sections p below in
    let s : ℕ = slice_index (part_sections sections) p in
    let is : s ≡ goes.0 = get_or_from_slice_get (part_sections sections) p goes.0 0 goes.1 in
    let told : slice_index (all_section_attributes link live) s ≡ section_attributes link live s
    = made_at (section_attributes link live) 0 sections 0 s (omega (arith, is, goes.2)) ∙ ap (section_attributes link live) (omega arith) in
    ap (λ a. is_set EXEC a && not (is_part p link.plan.named.primary)) told

-- the parts from number o on
code_from : (filling : Filling) (o : ℕ) (parts : List PlanPart) → o + length parts ≤ length (all_parts filling.content.link.plan.sections)
    → sum_by (other_code_by filling.content.link (all_section_attributes filling.content.link filling.content.live)) (enumerate_from o (map (λ q. contents_of filling q.0) (enumerate_from o parts)))
    ≡ sum (map (λ q. other_code filling q.0) (enumerate_from o parts))
code_from filling o [] within = refl
code_from filling o (part ∷ parts) within =
    let link : LinkInput = filling.content.link in
    let f : ℕ × PartContents → ℕ = other_code_by link (all_section_attributes link filling.content.live) in
    let contents : List PartContents = map (λ q. contents_of filling q.0) (enumerate_from (o + 1) parts) in
    let here : f (o, contents_of filling o) ≡ other_code filling o
    = ap (λ b. if b then (contents_of filling o).bytes else 0) (same_code link filling.content.live o (omega (arith, within))) in
    omega (
      arith,
      sum_by-cons f (o, contents_of filling o) (enumerate_from (o + 1) contents),
      sum_by-cons (λ (n : ℕ). n) (other_code filling o) (map (λ q. other_code filling q.0) (enumerate_from (o + 1) parts)),
      here,
      code_from filling (o + 1) parts (omega (arith, within)),
    )

pub code_of_contents : (filling : Filling) → sum_by (other_code_by filling.content.link (all_section_attributes filling.content.link filling.content.live)) (enumerate_from 0 (part_contents filling))
    ≡ code_before filling
code_of_contents filling = code_from filling 0 (all_parts filling.content.link.plan.sections) (omega arith)
