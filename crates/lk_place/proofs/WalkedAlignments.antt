-- The alignments of walked parts.
use Rattle.std.proofs.Common.{◌≡◌, ℕ, ◌≤◌, min, Bool, true, false, length, ap, ◌∙◌, inl, inr, arith}
use Rattle.std.specs.Prelude.{◌==◌, if◌then◌else◌}
use Rattle.std.proofs.lemmas.Bool.{cases_lt}
use Rattle.std.proofs.lemmas.List.{get_or_past}
use Rattle.lk_link.specs.declared.plan.PlanPart.{PlanPart}
use Rattle.lk_link.specs.Alignments.{is_alignment}
use Rattle.lk_link.specs.Parts.{all_parts, part_at}
use Rattle.lk_link.proofs.Powers.{min_aligned}
use Rattle.lk_place.specs.Alignments.{section_alignment}
use Rattle.lk_place.specs.Placement.{first_walked, walk_alignment}
use Rattle.lk_place.specs.Setting.{IsReady, Setting}
use Rattle.lk_place.proofs.AlignmentLaws.{section_aligned}
use Rattle.lk_place.proofs.Checked.{one_aligned}
use Rattle.lk_place.proofs.PlacedParts.{part_aligned}

-- a part that is there has an alignment
own_of : (setting : Setting) (p : ℕ) → IsReady setting → is_alignment (part_at setting.plan.sections p).alignment ≡ true
own_of setting p ready =
    let none : PlanPart = record { alignment = 1; packed = false } in
    elim (cases_lt p (length (all_parts setting.plan.sections))) [
      | inl below ↦ part_aligned setting p none ready below
      | inr past ↦ ap (λ (x : PlanPart). is_alignment x.alignment) (get_or_past (all_parts setting.plan.sections) p none past) ∙ one_aligned
    ]

lesser : (first : Bool) (own greatest : ℕ) → is_alignment own ≡ true → is_alignment greatest ≡ true
    → (is_alignment (if first then greatest else min own greatest) ≡ true) × ((if first then greatest else min own greatest) ≤ greatest)
lesser true own greatest h g = (g, omega arith)
lesser false own greatest h g = (min_aligned own greatest h g, omega arith)

-- a walked part's alignment is one, and at most its section's
pub walk_aligned : (setting : Setting) (s p : ℕ) → IsReady setting → (is_alignment (walk_alignment setting s p) ≡ true) × (walk_alignment setting s p ≤ section_alignment setting s)
walk_aligned setting s p ready =
    lesser (p == first_walked setting s) (part_at setting.plan.sections p).alignment (section_alignment setting s) (own_of setting p ready) (section_aligned setting.plan setting.sizes s ready.sections)
