-- The records behind some events: those of the sections that they place, and nowhere for all others.
use Rattle.std.proofs.Common.{◌≡◌, ℕ, zero, suc, ◌+◌, ◌≤◌, ◌<◌, ◌⊎◌, Bool, true, false, cond, List, length, Option, Some, None, refl, sym, ap, subst, ◌∙◌, arith, inl, inr}
use Rattle.std.specs.Prelude.{slice_get}
use Rattle.std.proofs.lemmas.Bool.{cases_Bool, cases_lt}
use Rattle.lk_link.specs.declared.plan.OrderEvent.{OrderEvent}
use Rattle.lk_link.specs.declared.plan.OrderEvent.TheVariants.{SegmentStart, SegmentEnd, Section, SetLocation, SetLocationRelative, SetSectionAddress}
use Rattle.lk_link.specs.declared.plan.PlanSection.{PlanSection}
use Rattle.lk_link.specs.Parts.{all_parts, first_part}
use Rattle.lk_link.proofs.PartNumbers.{first_part-suc, parts_end-le}
use Rattle.lk_place.specs.declared.cursors.Cursors.{Cursors}
use Rattle.lk_place.specs.Placement.{loaded_by, record_by, section_start}
use Rattle.lk_place.specs.CarriedOut.{IsPlacedBefore}
use Rattle.lk_place.specs.PlacedBefore.{Known, lies_in}
use Rattle.lk_place.specs.Ranges.{HasPart}
use Rattle.lk_expressions.specs.Records.{Record, nowhere}
use Rattle.lk_place.specs.Setting.{IsReady, Setting, part_count, part_number}
use Rattle.lk_place.specs.Walk.{cursors_after, entered, known_after, load_of, record_after, recorded, rewritten, walk_after}
use Rattle.lk_place.proofs.ApartLaws.{section_one}
use Rattle.lk_place.proofs.Insides.{placed_in_range}
use Rattle.lk_place.proofs.PartEvents.{among_is, among_part}
use Rattle.lk_place.proofs.SectionParts.{loaded_record}

-- event k places section s
abbrev pub PlacesAt : Setting → ℕ → ℕ → Type 0
PlacesAt setting k s = slice_get setting.plan.events k ≡ Some (Section s)

-- a section that an event places is there
pub section_there : (setting : Setting) (k s : ℕ) → IsReady setting → PlacesAt setting k s → s < length setting.plan.sections
section_there setting k s ready here = placed_in_range setting.plan (Section s) s (ready.events.in_range k (Section s) here) refl

-- a part of one section isn't one of another
pub among_other : (setting : Setting) (s t j : ℕ) → s < length setting.plan.sections → t < length setting.plan.sections → (s ≡ t → ⊥) → j < part_count setting.plan.sections s
    → lies_in (first_part setting.plan.sections t) (part_count setting.plan.sections t) (part_number setting.plan.sections s j) ≡ false
among_other setting s t j below there other less =
    let sections : List PlanSection = setting.plan.sections in
    let p : ℕ = part_number sections s j in
    elim (cases_Bool (lies_in (first_part sections t) (part_count sections t) p)) [
      | inl hit ↦
          let at = among_is (first_part sections t) (part_count sections t) p hit in
          let one : HasPart setting.plan s p = record { from = omega arith; below = omega (arith, first_part-suc sections s below) } in
          let two : HasPart setting.plan t p = record { from = omega (arith, at.2); below = omega (arith, at.1, at.2, first_part-suc sections t there) } in
          absurd (other (section_one setting.plan s t p one two))
      | inr miss ↦ miss
    ]

-- ---- one event

-- an event that places section s makes the records of its parts
recorded_here : (setting : Setting) (known : Known) (s j : ℕ) (c : Cursors) (old : Record) → j < part_count setting.plan.sections s
    → recorded setting known (Some (Section s)) c (part_number setting.plan.sections s j) old ≡ loaded_record setting known.standing s (entered setting known (Section s) c) (part_number setting.plan.sections s j)
unfolding rewritten
recorded_here setting known s j c old less =
    let p : ℕ = part_number setting.plan.sections s j in
    let from : Cursors = entered setting known (Section s) c in
    let placed : Record = record_by setting s (section_start setting s from) p in
    ap (λ (b : Bool). cond b (loaded_by (load_of setting known.standing s from) (cond b placed old)) (cond b placed old)) (among_part (first_part setting.plan.sections s) (part_count setting.plan.sections s) j less)

-- and leaves a part that isn't one of them
recorded_miss : (setting : Setting) (known : Known) (t p : ℕ) (c : Cursors) (old : Record) → lies_in (first_part setting.plan.sections t) (part_count setting.plan.sections t) p ≡ false
    → recorded setting known (Some (Section t)) c p old ≡ old
unfolding rewritten
recorded_miss setting known t p c old miss =
    let from : Cursors = entered setting known (Section t) c in
    let placed : Record = record_by setting t (section_start setting t from) p in
    ap (λ (b : Bool). cond b (loaded_by (load_of setting known.standing t from) (cond b placed old)) (cond b placed old)) miss

-- an event leaves each part that isn't one of its section
recorded_other : (setting : Setting) (known : Known) (o : Option OrderEvent) (p : ℕ) (c : Cursors) (old : Record)
    → ((t : ℕ) → o ≡ Some (Section t) → lies_in (first_part setting.plan.sections t) (part_count setting.plan.sections t) p ≡ false)
    → recorded setting known o c p old ≡ old
unfolding rewritten
recorded_other setting known None p c old miss = refl
recorded_other setting known (Some (SegmentStart i)) p c old miss = refl
recorded_other setting known (Some (SegmentEnd i)) p c old miss = refl
recorded_other setting known (Some (SetLocation x)) p c old miss = refl
recorded_other setting known (Some (SetLocationRelative x t)) p c old miss = refl
recorded_other setting known (Some (SetSectionAddress x)) p c old miss = refl
recorded_other setting known (Some (Section t)) p c old miss = recorded_miss setting known t p c old (miss t refl)

-- ---- some events

-- the records of a section that one of them places are those that the walk computes for it
pub record_placed : (setting : Setting) (k s j n : ℕ) → IsReady setting → PlacesAt setting k s → j < part_count setting.plan.sections s → k < n
    → record_after setting n (part_number setting.plan.sections s j)
    ≡ loaded_record setting (known_after setting k).standing s (entered setting (known_after setting k) (Section s) (cursors_after setting k)) (part_number setting.plan.sections s j)
unfolding walk_after
record_placed setting k s j zero ready here less early = absurd (omega arith)
record_placed setting k s j (suc m) ready here less early =
    let p : ℕ = part_number setting.plan.sections s j in
    let old : Record = record_after setting m p in
    elim (cases_lt k m) [
      | inl before ↦
          let other : (t : ℕ) → slice_get setting.plan.events m ≡ Some (Section t) → lies_in (first_part setting.plan.sections t) (part_count setting.plan.sections t) p ≡ false
          = λ t there.
          among_other setting s t j (section_there setting k s ready here) (section_there setting m t ready there)
          (λ same. absurd (omega (arith, ready.events.once k m (Section t) tt (here ∙ ap (λ (n : ℕ). Some (Section n)) same) there))) less in
          recorded_other setting (known_after setting m) (slice_get setting.plan.events m) p (cursors_after setting m) old other ∙ record_placed setting k s j m ready here less before
      | inr at ↦
          let same : m ≡ k = omega arith in
          ap (λ (i : ℕ). recorded setting (known_after setting i) (slice_get setting.plan.events i) (cursors_after setting i) p old) same
          ∙ ap (λ (o : Option OrderEvent). recorded setting (known_after setting k) o (cursors_after setting k) p old) here
          ∙ recorded_here setting (known_after setting k) s j (cursors_after setting k) old less
    ]

-- a part that an earlier event places is placed before a later one
pub placed_earlier : (setting : Setting) (m n p : ℕ) → m ≤ n → IsPlacedBefore setting m p → IsPlacedBefore setting n p
placed_earlier setting m n p le h = record { k = h.k; s = h.s; j = h.j; early = omega (arith, h.early); places = h.places; within = h.within; is = h.is }

-- what none of them places is nowhere
pub record_absent : (setting : Setting) (n p : ℕ) → (IsPlacedBefore setting n p → ⊥) → record_after setting n p ≡ nowhere
unfolding walk_after
record_absent setting zero p none = refl
record_absent setting (suc m) p none =
    let other : (t : ℕ) → slice_get setting.plan.events m ≡ Some (Section t) → lies_in (first_part setting.plan.sections t) (part_count setting.plan.sections t) p ≡ false
    = λ t there.
    elim (cases_Bool (lies_in (first_part setting.plan.sections t) (part_count setting.plan.sections t) p)) [
      | inl hit ↦
          let at = among_is (first_part setting.plan.sections t) (part_count setting.plan.sections t) p hit in
          absurd (none (record { k = m; s = t; j = at.0; early = omega arith; places = there; within = at.1; is = at.2 }))
      | inr miss ↦ miss
    ] in
    recorded_other setting (known_after setting m) (slice_get setting.plan.events m) p (cursors_after setting m) (record_after setting m p) other
    ∙ record_absent setting m p (λ h. none (placed_earlier setting m (suc m) p (omega arith) h))

-- ---- whether a part is placed

-- an event places a section with this part, or doesn't
here_or_not : (setting : Setting) (m p : ℕ) (o : Option OrderEvent) → slice_get setting.plan.events m ≡ o
    → IsPlacedBefore setting (suc m) p ⊎ ((t j : ℕ) → o ≡ Some (Section t) → j < part_count setting.plan.sections t → p ≡ part_number setting.plan.sections t j → ⊥)
here_or_not setting m p None at = inr (λ t j is less same. absurd (cc))
here_or_not setting m p (Some (SegmentStart i)) at = inr (λ t j is less same. absurd (cc))
here_or_not setting m p (Some (SegmentEnd i)) at = inr (λ t j is less same. absurd (cc))
here_or_not setting m p (Some (SetLocation x)) at = inr (λ t j is less same. absurd (cc))
here_or_not setting m p (Some (SetLocationRelative x i)) at = inr (λ t j is less same. absurd (cc))
here_or_not setting m p (Some (SetSectionAddress x)) at = inr (λ t j is less same. absurd (cc))
here_or_not setting m p (Some (Section s)) at =
    elim (cases_Bool (lies_in (first_part setting.plan.sections s) (part_count setting.plan.sections s) p)) [
      | inl hit ↦
          let there = among_is (first_part setting.plan.sections s) (part_count setting.plan.sections s) p hit in
          inl (record { k = m; s = s; j = there.0; early = omega arith; places = at; within = there.1; is = there.2 })
      | inr miss ↦ inr (λ t j is less same.
          let one : s ≡ t = cc in
          let part : p ≡ first_part setting.plan.sections s + j = same ∙ ap (λ (n : ℕ). part_number setting.plan.sections n j) (sym one) in
          let hit : lies_in (first_part setting.plan.sections s) (part_count setting.plan.sections s) p ≡ true =
          ap (lies_in (first_part setting.plan.sections s) (part_count setting.plan.sections s)) part
          ∙ among_part (first_part setting.plan.sections s) (part_count setting.plan.sections s) j (subst (λ (n : ℕ). j < part_count setting.plan.sections n) (sym one) less) in
          absurd (cc))
    ]

-- a part is placed by one of the first events, or by none
pub placed_or_not : (setting : Setting) (n p : ℕ) → IsPlacedBefore setting n p ⊎ (IsPlacedBefore setting n p → ⊥)
placed_or_not setting zero p = inr (λ h. absurd (omega (arith, h.early)))
placed_or_not setting (suc m) p =
    elim (placed_or_not setting m p) [
      | inl before ↦ inl (placed_earlier setting m (suc m) p (omega arith) before)
      | inr none ↦ elim (here_or_not setting m p (slice_get setting.plan.events m) refl) [
        | inl here ↦ inl here
        | inr miss ↦ inr (λ h.
            elim (cases_lt h.k m) [
              | inl less ↦ none (record { k = h.k; s = h.s; j = h.j; early = less; places = h.places; within = h.within; is = h.is })
              | inr at ↦
                  let same : h.k ≡ m = omega (arith, h.early, at) in
                  miss h.s h.j (ap (slice_get setting.plan.events) (sym same) ∙ h.places) h.within h.is
            ])
      ]
    ]

-- ---- what is known

-- a part that an earlier event places keeps its record
pub record_kept : (setting : Setting) (k n p : ℕ) → IsReady setting → k ≤ n → IsPlacedBefore setting k p → record_after setting n p ≡ record_after setting k p
record_kept setting k n p ready le h =
    ap (record_after setting n) h.is
    ∙ record_placed setting h.k h.s h.j n ready h.places h.within (omega (arith, h.early))
    ∙ sym (record_placed setting h.k h.s h.j k ready h.places h.within h.early)
    ∙ ap (record_after setting k) (sym h.is)

-- a part that is placed is there
pub placed_below : (setting : Setting) (k p : ℕ) → IsReady setting → IsPlacedBefore setting k p → p < length (all_parts setting.plan.sections)
placed_below setting k p ready h = omega (arith, h.is, h.within, parts_end-le setting.plan.sections h.s (section_there setting h.k h.s ready h.places))
