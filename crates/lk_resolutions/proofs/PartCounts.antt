-- There are as many of what is made by part as parts.
use Rattle.std.proofs.Common.{◌≡◌, ℕ, List, length, ap, ◌∙◌}
use Rattle.std.specs.List.{enumerate_from}
use Rattle.std.proofs.lemmas.List.{length-map}
use Rattle.std.proofs.lemmas.List.FromFn.{length-enumerate_from}
use Rattle.lk_link.specs.declared.link.LinkInput.{LinkInput}
use Rattle.lk_link.specs.declared.plan.PlanPart.{PlanPart}
use Rattle.lk_link.specs.Parts.{all_parts}
use Rattle.lk_sizes.specs.declared.owners.PartContents.{PartContents}
use Rattle.lk_sizes.specs.Contents.{contents_of, part_contents}
use Rattle.lk_sizes.specs.Owners.{Filling, by_part}

-- what is made by part, there is for each part
pub length-by_part : {X : Type 0} (f : ℕ → X) (link : LinkInput) → length (by_part f link) ≡ length (all_parts link.plan.sections)
length-by_part f link =
    length-map (enumerate_from 0 (all_parts link.plan.sections)) (λ (q : ℕ × PlanPart). f q.0) ∙ length-enumerate_from 0 (all_parts link.plan.sections)

-- there are contents for each part
pub contents_count : (filling : Filling) (contents : List PartContents) → contents ≡ part_contents filling → length contents ≡ length (all_parts filling.content.link.plan.sections)
contents_count filling contents are = ap length are ∙ length-by_part (contents_of filling) filling.content.link
