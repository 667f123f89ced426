use Rattle.std.proofs.Common.{ℕ, ◌+◌, List, ◌++◌, drop, map, sym, ap, ◌∙◌}
use Rattle.std.specs.List.{slice_index}
use Rattle.lk_link.specs.declared.plan.PlanPart.{PlanPart}
use Rattle.lk_link.specs.declared.plan.PlanSection.{PlanSection}
use Rattle.lk_sizes.proofs.ImageLemmas.{lens_next, sections_from}
use Rattle.lk_sizes.proofs.owners.image_lens.Goals as goal

pub loop-number-preserved : goal.loop-number-preserved
loop-number-preserved c =
    let sections : List PlanSection = c.args.sections.now in
    let merged_lens : List ℕ = c.args.merged_lens.now in
    let k : ℕ = c.loop-number.number in
    let rest : List ℕ = map (slice_index merged_lens) (sections_from (k + 1) (drop (k + 1) sections)) in
    ap (λ (l : List ℕ). l ++ rest) c.in_ok-push_lens.ensures
    ∙ ap (λ (ps : List PlanPart). (c.loop-number.lens.items ++ map (λ _. c.len_at.result) ps) ++ rest) c.as_slice.ensures
    ∙ ap (λ (n : ℕ). (c.loop-number.lens.items ++ map (λ (p : PlanPart). n) (c.index-sections-number.result).parts) ++ rest) c.len_at.ensures
    ∙ sym (lens_next c.loop-number.lens.items merged_lens sections k c.index-sections-number.result c.loop-number-test.true c.index-sections-number.is)
    ∙ c.loop-number.invariant
