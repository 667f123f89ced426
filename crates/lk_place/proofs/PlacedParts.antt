-- Facts on the parts that a walk places.
use Rattle.std.proofs.Common.{cond, refl, ◌≡◌, ℕ, suc, ◌-◌, ◌<◌, true, List, [], ◌∷◌, length, arith, inl, inr, sym, subst, length-append}
use Rattle.std.specs.Prelude.{All, ◌^◌, false, Ok, Err, Some, None}
use Rattle.std.specs.List.{slice_index_or}
use Rattle.std.proofs.Math.Seq.{get_or-append_right}
use Rattle.std.proofs.lemmas.Bool.{cases_lt}
use Rattle.std.proofs.lemmas.List.{get_or_append_left}
use Rattle.std.proofs.lemmas.Bool.Decides.{nat_tests}
use Rattle.lk_link.specs.declared.plan.PlanPart.{PlanPart}
use Rattle.lk_link.specs.declared.plan.PlanSection.{PlanSection}
use Rattle.lk_link.specs.Alignments.{is_alignment}
use Rattle.lk_link.specs.Parts.{all_parts}
use Rattle.lk_link.specs.PlanSections.{section_at}
use Rattle.lk_place.proofs.Checked.{parts_aligned}
use Rattle.lk_place.specs.declared.cursors.Offsets.{Offsets}
use Rattle.lk_place.specs.declared.error.Refusal.TheVariants.{Overflow}
use Rattle.lk_place.specs.Placement.{is_below, overflow_at, unless}
use Rattle.lk_place.specs.Setting.{IsReady, Setting}

abbrev AreAligned : List PlanPart → Type 0
AreAligned parts = All (λ (p : PlanPart). is_alignment p.alignment ≡ true) parts

-- all parts are aligned, if those of each section are
all_aligned : (sections : List PlanSection) → ((s : ℕ) → AreAligned (section_at sections s).parts) → AreAligned (all_parts sections)
all_aligned [] each = λ k d below. absurd (omega arith)
all_aligned (x ∷ xs) each = λ k d below.
    let parts = all_parts xs in
    let Good : PlanPart → Type 0 = λ p. is_alignment p.alignment ≡ true in
    elim (cases_lt k (length x.parts)) [
      | inl here ↦ subst Good (sym (get_or_append_left x.parts parts d k here)) (each 0 k d here)
      | inr later ↦ subst Good (sym (get_or-append_right x.parts parts k d later)) (all_aligned xs (λ s. each (suc s)) (k - length x.parts) d (omega (arith, length-append x.parts parts)))
    ]

-- each part has an alignment
pub part_aligned : (setting : Setting) (p : ℕ) (d : PlanPart) → IsReady setting → p < length (all_parts setting.plan.sections) → is_alignment (slice_index_or (all_parts setting.plan.sections) p d).alignment ≡ true
part_aligned setting p d ready below = all_aligned setting.plan.sections (λ s. parts_aligned setting.plan.sections s ready.sections) p d below

-- ---- cursors below 2^64

-- cursors in 64 bits are below
pub below_64 : (c : Offsets) → c.file < 2 ^ 64 → c.memory < 2 ^ 64 → is_below c ≡ true
below_64 c h g = grind (arith, nat_tests)

-- what is below is given
pub unless_below : (c : Offsets) → is_below c ≡ true → unless (overflow_at c) c ≡ Ok c
unless_below c h = rw h refl

-- what isn't below overflows
pub unless_past : (c : Offsets) → (is_below c ≡ true → ⊥) → unless (overflow_at c) c ≡ Err Overflow
unless_past c h =
    elim (is_below c) as (λ b. (b ≡ true → ⊥) → unless (cond b None (Some Overflow)) c ≡ Err Overflow) [ true ↦ λ no. absurd (no refl) | false ↦ λ no. refl ] h

pub ruleset next_parts = (below_64, unless_below, unless_past)
