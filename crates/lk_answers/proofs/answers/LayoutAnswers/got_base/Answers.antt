use Rattle.std.proofs.Common.{◌≡◌, ◌∙◌, ◌≤◌, ℕ, List, Option, None, length, sym, ap, subst, option_and_then, option_map, arith}
use Rattle.std.specs.List.{slice_get}
use Rattle.lk_link.specs.declared.link.LinkInput.{LinkInput}
use Rattle.lk_link.specs.declared.plan.PlanSection.{PlanSection}
use Rattle.lk_link.specs.Parts.{all_parts, part_sections}
use Rattle.lk_layout.specs.LayoutRecord.{LayoutRecord}
use Rattle.lk_answers.specs.Queries.{got_start, section_start}
use Rattle.lk_answers.proofs.Querying.{no_section}
use Rattle.lk_answers.proofs.answers.LayoutAnswers.got_base.Goals as goal

-- where the part for the GOT is in no section, there is no start
no_start : (layout : LayoutRecord) → option_and_then (slice_get (part_sections layout.link.plan.sections)) layout.link.plan.named.got ≡ None → None ≡ got_start layout
no_start layout h = sym (ap (option_map (section_start layout)) h)

pub returns-else-as_usize-parts : goal.returns-else-as_usize-parts
returns-else-as_usize-parts c =
    let sections : List PlanSection = c.link.result.now.plan.sections in
    let section : ℕ → Option ℕ = slice_get (part_sections sections) in
    let p : ℕ = c.in_ok-part.part in
    let past : length (all_parts sections) ≤ p = omega (arith, c.if-as_usize-parts.false, ap length c.parts.ensures, c.as_usize.ensures) in
    no_start c.args.self.now
    (subst (λ (l : LinkInput). option_and_then (slice_get (part_sections l.plan.sections)) l.plan.named.got ≡ None) c.link.ensures.link
    (ap (option_and_then section) c.in_ok-part.was ∙ no_section sections p past))
