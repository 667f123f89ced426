use Rattle.std.proofs.Common.{ℕ, ◌+◌, List, ◌++◌, drop, map, sym, ap, ◌∙◌}
use Rattle.std.specs.List.{enumerate_from, flat_map}
use Rattle.lk_link.specs.declared.plan.PlanPart.{PlanPart}
use Rattle.lk_link.specs.declared.plan.PlanSection.{PlanSection}
use Rattle.lk_link.proofs.OutputSections.{sections_next}
use Rattle.lk_link.proofs.part_sections.section_of_parts.Goals as goal

pub loop-number-preserved : goal.loop-number-preserved
loop-number-preserved c =
    let sections : List PlanSection = c.args.sections.now in
    let k : ℕ = c.loop-number.number in
    let rest : List ℕ = flat_map (λ (q : ℕ × PlanSection). map (λ p. q.0) q.1.parts) (enumerate_from (k + 1) (drop (k + 1) sections)) in
    ap (λ (l : List ℕ). l ++ rest) c.in_ok-push_numbers.ensures
    ∙ ap (λ (ps : List PlanPart). (c.loop-number.numbers.items ++ map (λ p. k) ps) ++ rest) c.as_slice.ensures
    ∙ sym (sections_next c.loop-number.numbers.items sections k c.index-sections-number.result c.loop-number-test.true c.index-sections-number.is)
    ∙ c.loop-number.invariant
