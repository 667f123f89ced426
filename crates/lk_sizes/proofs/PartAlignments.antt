-- Parts have alignments.
use Rattle.std.proofs.Common.{◌≡◌, ℕ, List, true, false, length, inl, inr, ap}
use Rattle.std.proofs.lemmas.Bool.{cases_lt}
use Rattle.std.proofs.lemmas.List.{get_or_past}
use Rattle.std.proofs.lemmas.Option.{slice_get-get_or}
use Rattle.lk_link.specs.declared.link.LinkInput.{LinkInput}
use Rattle.lk_link.specs.declared.plan.PlanPart.{PlanPart}
use Rattle.lk_link.specs.Alignments.{is_alignment}
use Rattle.lk_link.specs.Parts.{all_parts, part_at}
use Rattle.lk_link.specs.WellFormed.{IsWellFormed}
use Rattle.lk_link.proofs.GoodLinks.{part_aligned}

-- each part has an alignment, and so has what stands where there is none
pub part_is_aligned : (link : LinkInput) (p : ℕ) → IsWellFormed link → is_alignment (part_at link.plan.sections p).alignment ≡ true
unfolding is_alignment
part_is_aligned link p h =
    let parts : List PlanPart = all_parts link.plan.sections in
    let none : PlanPart = record { alignment = 1; packed = false } in
    elim (cases_lt p (length parts)) [
      | inl within ↦ part_aligned link p (part_at link.plan.sections p) h (slice_get-get_or parts p none within)
      | inr past ↦ ap (λ (q : PlanPart). is_alignment q.alignment) (get_or_past parts p none past)
    ]
