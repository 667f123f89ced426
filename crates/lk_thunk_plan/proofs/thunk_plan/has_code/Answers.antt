use Rattle.std.proofs.Common.{◌≡◌, true, false, not, sym, ap, ◌∙◌, arith}
use Rattle.std.specs.Prelude.{◌&&◌}
use Rattle.std.specs.List.{slice_index}
use Rattle.std.proofs.lemmas.Option.{get_or_from_slice_get}
use Rattle.lk_link.specs.declared.plan.attributes.TheConstants.{EXEC}
use Rattle.lk_link.specs.PartRules.{is_part}
use Rattle.lk_link.specs.Parts.{part_sections}
use Rattle.lk_link.specs.PlanSections.{is_set}
use Rattle.lk_link.proofs.GoodLinks.{few}
use Rattle.lk_thunk_plan.proofs.thunk_plan.has_code.Goals as goal

pub overflow_cast-number : goal.overflow_cast-number
overflow_cast-number c = omega (arith, (few c.args.link.now c.requires.good).parts, c.requires.within)

pub returns-then-is_executable : goal.returns-then-is_executable
returns-then-is_executable c =
    let sections = part_sections c.args.link.now.plan.sections in
    let part : c.from_u32-part.result ≡ c.args.number = c.from_u32-part.ensures in
    let section : slice_index sections c.args.number ≡ c.section_of_part-section.result
    = ap (slice_index sections) (sym part) ∙ get_or_from_slice_get sections c.from_u32-part.result c.section_of_part-section.result 0 c.section_of_part-section.ensures in
    let code : is_set EXEC (slice_index c.args.attributes.now (slice_index sections c.args.number)) ≡ true
    = ap (λ s. is_set EXEC (slice_index c.args.attributes.now s)) section ∙ sym c.is_executable.ensures ∙ c.if-is_executable.true in
    ap not (c.is_primary.ensures ∙ ap (λ p. is_part p c.args.link.now.plan.named.primary) part)
    ∙ sym (ap (λ b. b && not (is_part c.args.number c.args.link.now.plan.named.primary)) code)

pub returns-else-is_executable : goal.returns-else-is_executable
returns-else-is_executable c =
    let sections = part_sections c.args.link.now.plan.sections in
    let part : c.from_u32-part.result ≡ c.args.number = c.from_u32-part.ensures in
    let section : slice_index sections c.args.number ≡ c.section_of_part-section.result
    = ap (slice_index sections) (sym part) ∙ get_or_from_slice_get sections c.from_u32-part.result c.section_of_part-section.result 0 c.section_of_part-section.ensures in
    let code : is_set EXEC (slice_index c.args.attributes.now (slice_index sections c.args.number)) ≡ false
    = ap (λ s. is_set EXEC (slice_index c.args.attributes.now s)) section ∙ sym c.is_executable.ensures ∙ c.if-is_executable.false in
    c.if-is_executable.false ∙ sym (ap (λ b. b && not (is_part c.args.number c.args.link.now.plan.named.primary)) code)
