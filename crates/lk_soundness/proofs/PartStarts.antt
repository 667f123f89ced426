-- A part with bytes starts at a multiple of its alignment.
use Rattle.std.proofs.Common.{◌≡◌, ℕ, zero, suc, ◌+◌, ◌-◌, ◌<◌, ◌≤◌, ◌==◌, true, false, cond, List, [], ◌∷◌, length, map, filter, max, min, None, sym, ap, subst, ◌∙◌, inl, inr, arith, length-append}
use Rattle.std.specs.Prelude.{◌||◌}
use Rattle.std.specs.Int.{◌∣◌}
use Rattle.std.specs.List.{enumerate_from, slice_index_or}
use Rattle.std.proofs.Math.Nat.{dvd_trans, le-max_right}
use Rattle.std.proofs.lemmas.Bool.{cases_lt, lt-ltb}
use Rattle.std.proofs.lemmas.List.Concat.{get_or-flat_map}
use Rattle.std.proofs.lemmas.Option.{slice_get_within}
use Rattle.lk_link.specs.declared.link.LinkInput.{LinkInput}
use Rattle.lk_link.specs.declared.plan.OrderEvent.TheVariants.{Section}
use Rattle.lk_link.specs.declared.plan.PlanPart.{PlanPart}
use Rattle.lk_link.specs.declared.plan.PlanSection.{PlanSection}
use Rattle.lk_link.specs.Parts.{all_parts, first_part, part_at}
use Rattle.lk_link.specs.PlanSections.{no_section, section_at}
use Rattle.lk_link.specs.WellFormed.{IsWellFormed}
use Rattle.lk_place.specs.Alignments.{greatest_of, section_alignment}
use Rattle.lk_place.specs.Placement.{first_walked, is_walked}
use Rattle.lk_expressions.specs.Records.{record_at}
use Rattle.lk_place.specs.Setting.{Setting, has_bytes, part_count, part_number, size_at}
use Rattle.lk_sizes.proofs.PartAlignments.{part_is_aligned}
use Rattle.lk_link.proofs.Powers.{alignment_divides}
use Rattle.lk_place.proofs.AlignmentLaws.{greatest_of-least, section_aligned}
use Rattle.lk_place.proofs.Steps.{step_at}
use Rattle.lk_layout.proofs.Settings.{ready}
use Rattle.lk_live.specs.declared.live.Live.{Live}
use Rattle.lk_relax.specs.RelaxedLaws.{StandsFor}
use Rattle.lk_relax.specs.Stages.{Stage, filling_after, refusal_of, setting_after}
use Rattle.lk_layout.specs.Made.{relaxing_for}
use Rattle.lk_layout.specs.Machines.{Machine}
use Rattle.lk_sizes.specs.PartOwners.{part_sizes}

-- ---- alignments

-- the greatest alignment is at least that of each part with bytes
reaches : (sizes : List ℕ) (least n : ℕ) (parts : List PlanPart) (j : ℕ) (d : PlanPart) → j < length parts → has_bytes sizes (n + j) ≡ true
    → (slice_index_or parts j d).alignment ≤ greatest_of least (map (λ q. q.1.alignment) (filter (λ q. has_bytes sizes q.0) (enumerate_from n parts)))
reaches sizes least n [] j d below full = absurd (omega arith)
reaches sizes least n (p ∷ parts) zero d below full =
    let rest : List (ℕ × PlanPart) = filter (λ q. has_bytes sizes q.0) (enumerate_from (n + 1) parts) in
    let number : n ≡ n + 0 = omega arith in
    let here : has_bytes sizes n ≡ true = ap (has_bytes sizes) number ∙ full in
    subst (λ b. p.alignment ≤ greatest_of least (map (λ q. q.1.alignment) (cond b ((n, p) ∷ rest) rest))) (sym here)
    (omega (arith, greatest_of-least (max least p.alignment) (map (λ (q : ℕ × PlanPart). q.1.alignment) rest), le-max_right least p.alignment))
reaches sizes least n (p ∷ parts) (suc j) d below full =
    let rest : List (ℕ × PlanPart) = filter (λ q. has_bytes sizes q.0) (enumerate_from (n + 1) parts) in
    let number : n + 1 + j ≡ n + suc j = omega arith in
    let there : has_bytes sizes (n + 1 + j) ≡ true = ap (has_bytes sizes) number ∙ full in
    elim (has_bytes sizes n) as (λ b. (slice_index_or parts j d).alignment ≤ greatest_of least (map (λ q. q.1.alignment) (cond b ((n, p) ∷ rest) rest))) [
      | true ↦ reaches sizes (max least p.alignment) (n + 1) parts j d (omega arith) there
      | false ↦ reaches sizes least (n + 1) parts j d (omega arith) there
    ]

-- ---- the section of a part

pub record HasSection (sections : List PlanSection) (p : ℕ) : Type 0 where
  pub section : ℕ
  pub place : ℕ
  pub there : section < length sections
  pub within : place < part_count sections section
  pub is : p ≡ part_number sections section place

pub section_in : (sections : List PlanSection) (p : ℕ) → p < length (all_parts sections) → HasSection sections p
section_in [] p h = absurd (omega arith)
section_in (x ∷ xs) p h =
    elim (cases_lt p (length x.parts)) [
      | inl here ↦ record { section = 0; place = p; there = omega arith; within = here; is = omega arith }
      | inr later ↦
          let r = section_in xs (p - length x.parts) (omega (arith, length-append x.parts (all_parts xs))) in
          let first : first_part (x ∷ xs) (suc r.section) ≡ length x.parts + first_part xs r.section = length-append x.parts _ in
          record { section = suc r.section; place = r.place; there = omega (arith, r.there); within = r.within; is = omega (arith, r.is, first, later) }
    ]

-- ---- the law

pub part_starts : (machine : Machine) (link : LinkInput) (live : Live) (stage : Stage) (p : ℕ) → IsWellFormed link
    → StandsFor (relaxing_for machine link live) stage → refusal_of (relaxing_for machine link live) stage ≡ None
    → p < length (all_parts link.plan.sections) → 0 < size_at (part_sizes (filling_after (relaxing_for machine link live) stage.deletions)) p
    → (part_at link.plan.sections p).alignment ∣ (record_at stage.records p).mem_offset
part_starts machine link live stage p good stands unrefused within left =
    let s : Setting = setting_after (relaxing_for machine link live) stage.walked in
    let is = stands.placed in
    let some : 0 < size_at s.sizes p = subst (λ (sizes : List ℕ). 0 < size_at sizes p) (sym stands.parts) left in
    let sections : List PlanSection = link.plan.sections in
    let i : HasSection sections p = section_in sections p within in
    let t : ℕ = i.section in
    let event = good.events.placed t i.there in
    let early : event.0 + 1 < length stage.states = omega (arith, is.ends unrefused, slice_get_within link.plan.events event.0 (Section t) event.1) in
    let step = step_at s stage.states stage.records event.0 (Section t) (ready machine link live stage.walked good) is (omega (arith, early)) event.1 in
    let q : ℕ = part_number sections t i.place in
    let number : q ≡ p = sym i.is in
    let bytes : has_bytes s.sizes q ≡ true = ap (has_bytes s.sizes) number ∙ lt-ltb 0 (size_at s.sizes p) some in
    let walked : is_walked s t q ≡ true = ap (λ b. b || (q == first_walked s t)) bytes in
    let placed = step.places.placed.walked i.place i.within walked in
    let own : ℕ = (part_at sections q).alignment in
    let greatest : ℕ = section_alignment s t in
    let none : PlanPart = record { alignment = 1; packed = false } in
    let mine : part_at sections q ≡ slice_index_or (section_at sections t).parts i.place none
    = get_or-flat_map (λ (x : PlanSection). x.parts) sections t i.place no_section none i.there i.within in
    let least : own ≤ greatest
    = subst (λ (x : PlanPart). x.alignment ≤ greatest) (sym mine)
    (reaches s.sizes (section_at sections t).align (first_part sections t) (section_at sections t).parts i.place none i.within bytes) in
    let divides : own ∣ greatest = alignment_divides own greatest (part_is_aligned link q good) (section_aligned link.plan s.sizes t good.sections) least in
    let found : own ∣ (record_at stage.records q).mem_offset
    = elim (q == first_walked s t) as (λ b. (cond b greatest (min own greatest)) ∣ (record_at stage.records q).mem_offset → own ∣ (record_at stage.records q).mem_offset) [
      | true ↦ λ h. dvd_trans own divides h
      | false ↦ λ h. let one : min own greatest ≡ own = omega (arith, least) in subst (λ n. n ∣ (record_at stage.records q).mem_offset) one h
    ] placed.at.multiple in
    subst (λ n. (part_at sections n).alignment ∣ (record_at stage.records n).mem_offset) number found
