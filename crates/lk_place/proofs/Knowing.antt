-- What expressions read of what earlier events place goes by the records of just that.
use Rattle.std.proofs.Common.{◌≡◌, ℕ, zero, suc, ◌+◌, ◌≤◌, ◌<◌, Bool, true, false, List, length, take, Option, Some, None, refl, sym, ap, subst, ◌∙◌, arith}
use Rattle.std.specs.Prelude.{if◌then◌else◌, slice_get, OnOk, Result}
use Rattle.std.specs.List.{enumerate_from, filter_map, last_or, list_any, slice_index}
use Rattle.std.specs.Option.{option_map_or, option_or}
use Rattle.std.proofs.Math.Path.{fun_ext}
use Rattle.std.proofs.lemmas.Bool.{eqb-true}
use Rattle.std.proofs.lemmas.List.{ext_get_or}
use Rattle.lk_link.specs.declared.plan.OrderEvent.{OrderEvent}
use Rattle.lk_link.specs.declared.plan.OrderEvent.TheVariants.{SegmentStart, SegmentEnd, Section, SetLocation, SetLocationRelative, SetSectionAddress}
use Rattle.lk_link.specs.declared.plan.PlanSection.{PlanSection}
use Rattle.lk_link.specs.Parts.{all_parts}
use Rattle.lk_link.proofs.InputLemmas.{numbered_get}
use Rattle.lk_link.proofs.Numbers.{length-made, made_of_or}
use Rattle.lk_link.proofs.Places.{found}
use Rattle.lk_place.specs.declared.cursors.Cursors.{Cursors}
use Rattle.lk_place.specs.declared.error.Refusal.{Refusal}
use Rattle.lk_place.specs.Placement.{carried_out, known_before, state_at}
use Rattle.lk_place.specs.CarriedOut.{IsPlacedBefore}
use Rattle.lk_place.specs.InRegions.{goes_on_by, places_in, placing_in, span_of}
use Rattle.lk_place.specs.PlacedBefore.{Known, PlacedRecords, is_placed_before, is_placing, last_before, standing_before}
use Rattle.lk_expressions.specs.Records.{Record, nowhere, record_at}
use Rattle.lk_place.specs.Segments.{hull, part_records}
use Rattle.lk_place.specs.Setting.{IsReady, Setting, part_count, part_number}
use Rattle.lk_place.specs.Walk.{GoesOn, cursors_after, cursors_of, goes_on_after, known_after, known_in, listed, walk_after, record_after, recorded, records_after, left_by}
use Rattle.lk_place.proofs.LastOnes.{last_next, numbered_none, take_past}
use Rattle.lk_place.proofs.PartEvents.{part_placed}
use Rattle.lk_place.proofs.SectionParts.{part_of, parts_count}
use Rattle.lk_place.proofs.WalkRecords.{section_there}

-- ---- what is placed before

pub placing_event : (e : OrderEvent) (s : ℕ) → is_placing s e ≡ true → e ≡ Section s
placing_event (Section t) s h = ap (λ n. Section n) (eqb-true t s h)
placing_event (SegmentStart i) s h = absurd (cc)
placing_event (SegmentEnd i) s h = absurd (cc)
placing_event (SetLocation x) s h = absurd (cc)
placing_event (SetLocationRelative x t) s h = absurd (cc)
placing_event (SetSectionAddress x) s h = absurd (cc)

-- the parts of a section that is known are
pub section_placed : (setting : Setting) (k s j : ℕ) → list_any (is_placing s) (take k setting.plan.events) ≡ true → j < part_count setting.plan.sections s
    → IsPlacedBefore setting k (part_number setting.plan.sections s j)
section_placed setting k s j h within =
    let there = found (is_placing s) setting.plan.events k h in
    record { k = there.0; s = s; j = j; early = there.2; places = there.3 ∙ ap (λ (e : OrderEvent). Some e) (placing_event there.1 s there.4); within = within; is = refl }

-- ---- the records of a section

parts_alike : (sections : List PlanSection) (r r' : List Record) (s : ℕ) → length r ≡ length (all_parts sections) → length r' ≡ length (all_parts sections) → s < length sections
    → ((j : ℕ) → j < part_count sections s → record_at r (part_number sections s j) ≡ record_at r' (part_number sections s j))
    → part_records sections r s ≡ part_records sections r' s
parts_alike sections r r' s each each' below alike =
    ext_get_or nowhere (part_records sections r s) (part_records sections r' s) (parts_count sections r s each below ∙ sym (parts_count sections r' s each' below))
    (λ j less.
    let within : j < part_count sections s = omega (arith, parts_count sections r s each below) in
    part_of sections r s j below within ∙ alike j within ∙ sym (part_of sections r' s j below within))

-- ---- what is known

-- where the records of what is placed before are the same, so is what stands
pub standing_alike : (setting : Setting) (k : ℕ) (r r' : List Record) → IsReady setting → length r ≡ length (all_parts setting.plan.sections) → length r' ≡ length (all_parts setting.plan.sections)
    → ((p : ℕ) → IsPlacedBefore setting k p → record_at r p ≡ record_at r' p) → standing_before setting.plan r k ≡ standing_before setting.plan r' k
standing_alike setting k r r' ready each each' alike =
    let sections : List PlanSection = setting.plan.sections in
    let section : List Record → ℕ → Option Record = λ rs s. if list_any (is_placing s) (take k setting.plan.events) then Some (hull (part_records sections rs s)) else None in
    let part : List Record → ℕ → Option Record = λ rs p. if is_placed_before setting.plan k p then Some (record_at rs p) else None in
    let same_section : section r ≡ section r' = fun_ext (λ s.
    elim (list_any (is_placing s) (take k setting.plan.events)) as (λ b. list_any (is_placing s) (take k setting.plan.events) ≡ b
    → (if b then Some (hull (part_records sections r s)) else None) ≡ (if b then Some (hull (part_records sections r' s)) else None)) [
      | true ↦ λ is.
          let there = found (is_placing s) setting.plan.events k is in
          let below : s < length sections = section_there setting there.0 s ready (there.3 ∙ ap (λ (e : OrderEvent). Some e) (placing_event there.1 s there.4)) in
          ap (λ rs. Some (hull rs)) (parts_alike sections r r' s each each' below (λ j within. alike (part_number sections s j) (section_placed setting k s j is within)))
      | false ↦ λ is. refl
    ] refl) in
    let same_part : part r ≡ part r' = fun_ext (λ p.
    elim (is_placed_before setting.plan k p) as (λ b. is_placed_before setting.plan k p ≡ b
    → (if b then Some (record_at r p) else None) ≡ (if b then Some (record_at r' p) else None)) [
      | true ↦ λ is. ap (λ (x : Record). Some x) (alike p (part_placed setting k p is))
      | false ↦ λ is. refl
    ] refl) in
    let of : (ℕ → Option Record) → (ℕ → Option Record) → PlacedRecords = λ f g. record { section = f; part = g } in
    ap (λ f. of f (part r)) same_section ∙ ap (of (section r')) same_part

-- ---- what the walk knows

listed_count : (setting : Setting) (f : ℕ → Record) → length (listed setting f) ≡ length (all_parts setting.plan.sections)
listed_count setting f = length-made f (all_parts setting.plan.sections) 0

-- behind one event more a region goes on behind it, if it places a section there, else where it did
goes_next : (setting : Setting) (memory : ℕ → ℕ) (k r : ℕ)
    → goes_on_by setting memory (suc k) r ≡ (if places_in setting.plan r (slice_get setting.plan.events k) then memory (suc k) else goes_on_by setting memory k r)
goes_next setting memory k r =
    let events : List (ℕ × OrderEvent) = enumerate_from 0 setting.plan.events in
    let last : List (ℕ × OrderEvent) → Option ℕ = λ qs. last_or None (filter_map (placing_in setting.plan r) qs) in
    let end : Option ℕ → ℕ = λ o. option_map_or (λ j. memory (j + 1)) o (span_of setting r).0 in
    let before : Option ℕ = last (take k events) in
    elim (slice_get setting.plan.events k) as (λ o. slice_get setting.plan.events k ≡ o → end (last (take (suc k) events)) ≡ (if places_in setting.plan r o then memory (suc k) else end before)) [
      | None ↦ λ none. ap (λ qs. end (last qs)) (take_past events k (numbered_none 0 setting.plan.events k none))
      | Some e ↦ λ here.
          ap end (last_next (placing_in setting.plan r) None events k (0 + k, e) (numbered_get 0 setting.plan.events k e here))
          ∙ elim (places_in setting.plan r (Some e)) as (λ b. end (option_or (if b then Some (0 + k) else None) before) ≡ (if b then memory (suc k) else end before)) [
            | true ↦ ap memory (omega arith)
            | false ↦ refl
          ]
    ] refl

-- where memory is the walk's behind each event, so is where a region goes on
went_alike : (setting : Setting) (memory : ℕ → ℕ) (k r : ℕ) → ((j : ℕ) → j ≤ k → memory j ≡ (cursors_after setting j).memory) → goes_on_by setting memory k r ≡ goes_on_after setting k r
unfolding walk_after
went_alike setting memory zero r same = refl
went_alike setting memory (suc k) r same =
    let hit : Bool = places_in setting.plan r (slice_get setting.plan.events k) in
    goes_next setting memory k r
    ∙ ap (λ (m : ℕ). if hit then m else goes_on_by setting memory k r) (same (suc k) (omega arith))
    ∙ ap (λ (m : ℕ). if hit then (cursors_after setting (suc k)).memory else m) (went_alike setting memory k r (λ j le. same j (omega arith)))

abbrev known_of : Setting → ℕ → PlacedRecords → (ℕ → ℕ) → Known
known_of setting k standing goes_on = record { standing = standing; last = last_before setting.plan.events k; goes_on = goes_on }

-- states and records that agree with those of the walk up to event k tell what the walk knows
pub known_is : (setting : Setting) (k : ℕ) (states : List Cursors) (r : List Record) → IsReady setting → length r ≡ length (all_parts setting.plan.sections)
    → ((p : ℕ) → IsPlacedBefore setting k p → record_at r p ≡ record_at (records_after setting k) p)
    → ((j : ℕ) → j ≤ k → state_at states j ≡ cursors_after setting j) → known_before setting states r k ≡ known_after setting k
known_is setting k states r ready each alike same =
    let memory : ℕ → ℕ = λ j. (state_at states j).memory in
    let standing = standing_alike setting k r (records_after setting k) ready each (listed_count setting (record_after setting k)) alike in
    let goes_on : goes_on_by setting memory k ≡ goes_on_after setting k = fun_ext (λ q. went_alike setting memory k q (λ j le. ap (λ (c : Cursors). c.memory) (same j le))) in
    ap (λ x. known_of setting k x (goes_on_by setting memory k)) standing ∙ ap (known_of setting k (standing_before setting.plan (records_after setting k) k)) goes_on

-- a table of the records behind the first k events is their list
pub table_is : (setting : Setting) (k : ℕ) (r : List Record) → length r ≡ length (all_parts setting.plan.sections) → ((p : ℕ) → record_at r p ≡ record_after setting k p)
    → r ≡ records_after setting k
table_is setting k r each at = made_of_or (record_after setting k) nowhere r (all_parts setting.plan.sections) each (λ p below. at p)

-- what tables of the records and the regions behind the first k events tell is what the walk knows
pub known_table : (setting : Setting) (k : ℕ) (r : List Record) (g : List ℕ) → length r ≡ length (all_parts setting.plan.sections) → ((p : ℕ) → record_at r p ≡ record_after setting k p)
    → ((q : ℕ) → slice_index g q ≡ goes_on_after setting k q) → known_in setting.plan r g k ≡ known_after setting k
known_table setting k r g each at goes_on =
    let regions : slice_index g ≡ goes_on_after setting k = fun_ext (λ q. goes_on q) in
    ap (λ rs. known_of setting k (standing_before setting.plan rs k) (slice_index g)) (table_is setting k r each at) ∙ ap (known_of setting k (standing_before setting.plan (records_after setting k) k)) regions

-- what carrying out an event gave, by what the walk knows
pub tried_as : (setting : Setting) (k : ℕ) (e : OrderEvent) (from : Cursors) (end : Result Cursors Refusal) {known : Known} → known ≡ known_after setting k
    → end ≡ cursors_of (carried_out setting known e from) → end ≡ cursors_of (carried_out setting (known_after setting k) e from)
tried_as setting k e from end same gave = gave ∙ ap (λ (x : Known). cursors_of (carried_out setting x e from)) same

pub recorded_as : (setting : Setting) (k : ℕ) (e : OrderEvent) (from : Cursors) (end : Result Cursors Refusal) (old new : ℕ → Record) {known : Known} → known ≡ known_after setting k
    → OnOk end ((p : ℕ) → new p ≡ recorded setting known (Some e) from p (old p)) → OnOk end ((p : ℕ) → new p ≡ recorded setting (known_after setting k) (Some e) from p (old p))
recorded_as setting k e from end old new same writes = subst (λ (x : Known). OnOk end ((p : ℕ) → new p ≡ recorded setting x (Some e) from p (old p))) same writes

pub went_as : (setting : Setting) (k : ℕ) (e : OrderEvent) (from : Cursors) (end : Result Cursors Refusal) (old new : List ℕ) {known : Known} → known ≡ known_after setting k
    → OnOk end (GoesOn setting.plan (Some e) (left_by setting known (Some e) from) old new) → OnOk end (GoesOn setting.plan (Some e) (left_by setting (known_after setting k) (Some e) from) old new)
went_as setting k e from end old new same writes = subst (λ (x : Known). OnOk end (GoesOn setting.plan (Some e) (left_by setting x (Some e) from) old new)) same writes
