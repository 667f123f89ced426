-- Each part's record takes the part's bytes in memory.
use Rattle.std.proofs.Common.{◌≡◌, ℕ, suc, ◌+◌, ◌-◌, ◌<◌, false, List, [], ◌∷◌, length, take, map, None, sym, ap, ◌∙◌, arith, inl, inr, length-append}
use Rattle.std.proofs.Math.ListN.{get_or-map}
use Rattle.std.proofs.lemmas.Bool.{cases_Bool, cases_lt}
use Rattle.std.proofs.lemmas.Bool.Decides.{nat_tests}
use Rattle.std.proofs.lemmas.List.{ext_get_or, length-map}
use Rattle.std.proofs.lemmas.Option.{slice_get_within}
use Rattle.lk_link.specs.declared.plan.OrderEvent.TheVariants.{Section}
use Rattle.lk_link.specs.declared.plan.PlanSection.{PlanSection}
use Rattle.lk_link.specs.Parts.{all_parts}
use Rattle.lk_place.specs.declared.cursors.Cursors.{Cursors}
use Rattle.lk_place.specs.Placement.{IsPlaced, known_before, is_walked, placement_refusal, state_at}
use Rattle.lk_place.specs.CarriedOut.{PlacesSection, CarriesOut}
use Rattle.lk_place.specs.PlacementLaws.{PartsTakeTheirBytes}
use Rattle.lk_expressions.specs.Records.{Record, nowhere, record_at}
use Rattle.lk_place.specs.Setting.{IsReady, Setting, part_count, part_number, size_at}
use Rattle.lk_place.proofs.Passing.{events_are_carried_out}

-- ---- the section of a part

-- part p is the one with this place in section s
pub record IsPartAt (sections : List PlanSection) (s j p : ℕ) : Type 0 where
  pub there : s < length sections
  pub within : j < part_count sections s
  pub is : p ≡ part_number sections s j

-- each part has a place in a section
pub part_place : (sections : List PlanSection) (p : ℕ) → p < length (all_parts sections) → (s : ℕ) × (j : ℕ) × IsPartAt sections s j p
part_place [] p below = absurd (omega arith)
part_place (x ∷ xs) p below =
    elim (cases_lt p (length x.parts)) [
      | inl here ↦ (0, p, record { there = omega arith; within = here; is = omega arith })
      | inr later ↦
          let rest = part_place xs (p - length x.parts) (omega (arith, length-append x.parts (all_parts xs))) in
          let s : ℕ = rest.0 in
          let j : ℕ = rest.1 in
          let at : IsPartAt xs s j (p - length x.parts) = rest.2 in
          (suc s, j, record { there = omega (arith, at.there); within = at.within; is = omega (arith, at.is, length-append x.parts (all_parts (take s xs))) })
    ]

-- ---- the bytes of a part

-- a part that isn't walked has none
pub no_bytes : (setting : Setting) (s p : ℕ) → is_walked setting s p ≡ false → size_at setting.sizes p ≡ 0
no_bytes setting s p h = grind (arith, nat_tests)

section_takes : (setting : Setting) (s j : ℕ) (from to : Cursors) (records : List Record) → PlacesSection setting s from records to → j < part_count setting.plan.sections s
    → (record_at records (part_number setting.plan.sections s j)).mem_size ≡ size_at setting.sizes (part_number setting.plan.sections s j)
section_takes setting s j from to records places less =
    let p : ℕ = part_number setting.plan.sections s j in
    elim (cases_Bool (is_walked setting s p)) [
      | inl walked ↦ (places.walked j less walked).takes
      | inr rests ↦ (places.resting j less rests).takes ∙ sym (no_bytes setting s p rests)
    ]

part_takes : (setting : Setting) (states : List Cursors) (records : List Record) → IsReady setting → IsPlaced setting states records → placement_refusal setting states records ≡ None
    → (p : ℕ) → p < length (all_parts setting.plan.sections) → (record_at records p).mem_size ≡ size_at setting.sizes p
part_takes setting states records ready is unrefused p below =
    let place = part_place setting.plan.sections p below in
    let s : ℕ = place.0 in
    let j : ℕ = place.1 in
    let at : IsPartAt setting.plan.sections s j p = place.2 in
    let event = ready.events.placed s at.there in
    let k : ℕ = event.0 in
    let early : k < length setting.plan.events = slice_get_within setting.plan.events k (Section s) event.1 in
    let steps : CarriesOut setting (known_before setting states records k) (Section s) (state_at states k) records (state_at states (k + 1)) = events_are_carried_out setting states records ready is k (Section s) (omega (arith, is.ends unrefused)) event.1 in
    ap (λ (n : ℕ). (record_at records n).mem_size) at.is
    ∙ section_takes setting s j steps.entered (state_at states (k + 1)) records steps.places.placed at.within
    ∙ ap (size_at setting.sizes) (sym at.is)

pub parts_take_their_bytes : PartsTakeTheirBytes
parts_take_their_bytes setting states records ready is unrefused =
    let count : length (map (λ (r : Record). r.mem_size) records) ≡ length records = length-map records (λ (r : Record). r.mem_size) in
    ext_get_or 0 (map (λ (r : Record). r.mem_size) records) setting.sizes (omega (arith, count, is.each, ready.sizes))
    (λ p below. get_or-map (λ (r : Record). r.mem_size) records p nowhere ∙ part_takes setting states records ready is unrefused p (omega (arith, count, is.each)))
