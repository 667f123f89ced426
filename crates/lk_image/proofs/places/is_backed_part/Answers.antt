use Rattle.std.proofs.Common.{◌≡◌, ℕ, ◌+◌, ◌≤◌, false, Option, Some, None, length, refl, sym, ap, arith}
use Rattle.std.specs.Option.{option_map_or}
use Rattle.std.specs.List.{slice_get}
use Rattle.lk_link.specs.Parts.{all_parts, part_sections}
use Rattle.lk_link.specs.declared.plan.Plan.{Plan}
use Rattle.lk_link.specs.PlanSections.{is_file_backed}
use Rattle.lk_link.proofs.GoodLinks.{few}
use Rattle.lk_link.proofs.PartNumbers.{first_part-le}
use Rattle.lk_image.proofs.PartPlaces.{part_in}
use Rattle.lk_image.proofs.places.is_backed_part.Goals as goal

-- past the last part there is no section
past_all : (plan : Plan) (p : ℕ) (o : Option ℕ) → slice_get (part_sections plan.sections) p ≡ o → length (all_parts plan.sections) ≤ p → option_map_or (is_file_backed plan) o false ≡ false
past_all plan p None is past = refl
past_all plan p (Some s) is past =
    let at = part_in plan.sections p s is in
    absurd (omega (arith, past, at.below, first_part-le plan.sections (s + 1)))

pub returns-then-as_usize-parts : goal.returns-then-as_usize-parts
returns-then-as_usize-parts c =
    sym (past_all c.args.link.now.plan c.args.part (slice_get (part_sections c.args.link.now.plan.sections) c.args.part) refl
    (omega (arith, c.if-as_usize-parts.true, c.as_usize.ensures, ap length c.parts.ensures)))

pub overflow_cast-section : goal.overflow_cast-section
overflow_cast-section c =
    omega (
      arith,
      (part_in c.args.link.now.plan.sections c.args.part c.section_of_part-section.result c.section_of_part-section.ensures).there,
      (few c.args.link.now c.requires.good).sections,
    )
