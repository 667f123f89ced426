-- Which events place a part, and what none of them places.
use Rattle.std.proofs.Common.{◌≡◌, ℕ, ◌+◌, ◌-◌, ◌≤◌, ◌<◌, true, false, List, length, Some, refl, ap, ◌∙◌, arith, inl, inr}
use Rattle.std.proofs.lemmas.Bool.{cases_Bool}
use Rattle.std.proofs.lemmas.Bool.Decides.{nat_tests}
use Rattle.lk_link.specs.declared.plan.OrderEvent.{OrderEvent}
use Rattle.lk_link.specs.declared.plan.OrderEvent.TheVariants.{SegmentStart, SegmentEnd, Section, SetLocation, SetLocationRelative, SetSectionAddress}
use Rattle.lk_link.specs.declared.plan.PlanSection.{PlanSection}
use Rattle.lk_link.specs.Parts.{first_part}
use Rattle.lk_link.proofs.Places.{among, found}
use Rattle.lk_place.specs.CarriedOut.{IsPlacedBefore, OthersAreNowhere}
use Rattle.lk_place.specs.PlacedBefore.{is_placed_before, is_placing_part, lies_in}
use Rattle.lk_place.specs.Setting.{Setting, part_count}

-- ---- whether a part is one of a section

pub among_part : (first count j : ℕ) → j < count → lies_in first count (first + j) ≡ true
among_part first count j h = grind (arith, nat_tests)

pub among_is : (first count p : ℕ) → lies_in first count p ≡ true → (j : ℕ) × (j < count) × (p ≡ first + j)
among_is first count p h =
    let from : first ≤ p = grind (arith, nat_tests) in
    let below : p < first + count = grind (arith, nat_tests) in
    (p - first, omega arith, omega arith)

-- ---- whether an event places it

pub placing_part : (sections : List PlanSection) (e : OrderEvent) (p : ℕ) → is_placing_part sections p e ≡ true
    → (s : ℕ) × (e ≡ Section s) × (lies_in (first_part sections s) (part_count sections s) p ≡ true)
placing_part sections (Section t) p h = (t, refl, h)
placing_part sections (SegmentStart i) p h = absurd (cc)
placing_part sections (SegmentEnd i) p h = absurd (cc)
placing_part sections (SetLocation x) p h = absurd (cc)
placing_part sections (SetLocationRelative x t) p h = absurd (cc)
placing_part sections (SetSectionAddress x) p h = absurd (cc)

-- a part that is found to be placed is
pub part_placed : (setting : Setting) (k p : ℕ) → is_placed_before setting.plan k p ≡ true → IsPlacedBefore setting k p
part_placed setting k p h =
    let there = found (is_placing_part setting.plan.sections p) setting.plan.events k h in
    let at = placing_part setting.plan.sections there.1 p there.4 in
    let place = among_is (first_part setting.plan.sections at.0) (part_count setting.plan.sections at.0) p at.2 in
    record { k = there.0; s = at.0; j = place.0; early = there.2; places = there.3 ∙ ap (λ (e : OrderEvent). Some e) at.1; within = place.1; is = place.2 }

-- and one that is placed is found to be
pub placed_found : (setting : Setting) (k p : ℕ) → IsPlacedBefore setting k p → is_placed_before setting.plan k p ≡ true
placed_found setting k p h =
    let first : ℕ = first_part setting.plan.sections h.s in
    let count : ℕ = part_count setting.plan.sections h.s in
    among (is_placing_part setting.plan.sections p) setting.plan.events h.k k (Section h.s) h.early h.places
    (ap (lies_in first count) h.is ∙ among_part first count h.j h.within)

-- one that isn't found isn't
pub none_placed : (setting : Setting) (k p : ℕ) → is_placed_before setting.plan k p ≡ false → IsPlacedBefore setting k p → ⊥
none_placed setting k p none h = let yes = placed_found setting k p h in absurd (cc)

-- ---- the law

pub others_are_nowhere : OthersAreNowhere
others_are_nowhere setting states records is p none =
    elim (cases_Bool (is_placed_before setting.plan (length states - 1) p)) [
      | inl hit ↦ absurd (none (part_placed setting (length states - 1) p hit))
      | inr miss ↦ is.others p miss
    ]
