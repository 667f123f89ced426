-- What good sections give, by number.
use Rattle.std.proofs.Common.{◌≡◌, ℕ, ◌<◌, true, List, length, refl, subst, sym, arith, inl, inr}
use Rattle.std.specs.Prelude.{All}
use Rattle.std.specs.List.{list_all, slice_index_or}
use Rattle.std.proofs.lemmas.Bool.{cases_lt}
use Rattle.std.proofs.lemmas.List.{get_or_past}
use Rattle.std.proofs.lemmas.Option.{slice_get-get_or}
use Rattle.lk_link.specs.declared.plan.PlanPart.{PlanPart}
use Rattle.lk_link.specs.declared.plan.PlanSection.{PlanSection}
use Rattle.lk_link.specs.Alignments.{is_alignment}
use Rattle.lk_link.specs.Rules.{IsGoodSection, is_good_section}
use Rattle.lk_link.proofs.GoodLinks.{good_section}
use Rattle.lk_link.proofs.Places.{all_at}
use Rattle.lk_link.specs.PlanSections.{no_section, section_at}

-- each section is good
abbrev pub AreGood : List PlanSection → Type 0
AreGood sections = list_all (is_good_section sections) sections ≡ true

-- a section that is there is good
good_at : (sections : List PlanSection) (s : ℕ) → AreGood sections → s < length sections → IsGoodSection sections (section_at sections s)
good_at sections s good below = good_section sections (section_at sections s) (all_at (is_good_section sections) sections s (section_at sections s) good (slice_get-get_or sections s no_section below))

-- what holds of good sections, and of none, holds by each number
by_number : (P : PlanSection → Type 0) (sections : List PlanSection) → AreGood sections → P no_section → ((x : PlanSection) → IsGoodSection sections x → P x) → (s : ℕ) → P (section_at sections s)
by_number P sections good none each s =
    elim (cases_lt s (length sections)) [
      | inl below ↦ each (section_at sections s) (good_at sections s good below)
      | inr past ↦ subst P (sym (get_or_past sections s no_section past)) none
    ]

pub one_aligned : is_alignment 1 ≡ true
unfolding is_alignment
one_aligned = refl

-- its own alignment is one
pub own_aligned : (sections : List PlanSection) (s : ℕ) → AreGood sections → is_alignment (section_at sections s).align ≡ true
own_aligned sections s good = by_number (λ x. is_alignment x.align ≡ true) sections good one_aligned (λ x h. h.aligned_self) s

-- so are those of its parts
pub parts_aligned : (sections : List PlanSection) (s : ℕ) → AreGood sections → All (λ (p : PlanPart). is_alignment p.alignment ≡ true) (section_at sections s).parts
parts_aligned sections s good =
    by_number (λ x. All (λ (p : PlanPart). is_alignment p.alignment ≡ true) x.parts) sections good (λ k d below. absurd (omega arith))
    (λ x h k d below. all_at (λ p. is_alignment p.alignment) x.parts k (slice_index_or x.parts k d) h.aligned (slice_get-get_or x.parts k d below)) s

-- and it has a part
pub has_part : (sections : List PlanSection) (s : ℕ) → AreGood sections → s < length sections → 0 < length (section_at sections s).parts
has_part sections s good below = (good_at sections s good below).has_part

pub ruleset good_sections = (own_aligned, parts_aligned, has_part)
