-- Singletons are told as they are, behind the emitted sections.
use Rattle.std.proofs.Common.{◌≡◌, ℕ, zero, suc, ◌+◌, ◌<◌, ◌≤◌, ◌==◌, ◌&&◌, ◌||◌, not, Bool, true, false, cond, List, [], ◌∷◌, length, map, get_or, Option, Some, None, refl, sym, ap, subst, ◌∙◌, arith, ltb}
use Rattle.std.specs.Prelude.{filter, is_some, slice_get}
use Rattle.std.specs.List.{count_by, enumerate_from, filter_map, list_any, position, position_or_len}
use Rattle.std.proofs.Math.Dec.{eqb}
use Rattle.std.proofs.lemmas.Bool.{eq-eqb, eqb-true, false_from_ne_true, lt-ltb}
use Rattle.std.proofs.lemmas.List.Quantifiers.{position-Some}
use Rattle.std.proofs.lemmas.List.Sums.{sum_by-cons}
use Rattle.std.proofs.lemmas.Map.Steps.{le-length_from_below}
use Rattle.std.proofs.lemmas.Option.{slice_get-get_or, slice_get_within}
use Rattle.lk_live.specs.Reach.{marked}
use Rattle.lk_live.specs.Slots.{is_singleton}
use Rattle.lk_link.specs.declared.link.LinkInput.{LinkInput}
use Rattle.lk_link.specs.declared.plan.OrderEvent.{OrderEvent}
use Rattle.lk_link.specs.declared.plan.OrderEvent.TheVariants.{Section, SegmentEnd, SegmentStart, SetLocation, SetLocationRelative, SetSectionAddress}
use Rattle.lk_link.specs.declared.plan.PlanSection.{PlanSection}
use Rattle.lk_link.specs.Inputs.{Input, all_inputs}
use Rattle.lk_link.specs.Inside.{placed_section}
use Rattle.lk_link.specs.Marks.{is_marked}
use Rattle.lk_link.specs.WellFormed.{IsWellFormed}
use Rattle.lk_link.specs.PlanSections.{no_section}
use Rattle.lk_link.proofs.Elements.{filter_at, map_at, map_in}
use Rattle.lk_link.proofs.InputLemmas.{numbered_get}
use Rattle.lk_reach.proofs.Rising.{Rises, filter_map_at, rises_filtered, rises_nil}
use Rattle.lk_sizes.specs.Attributes.{by_section}
use Rattle.lk_sizes.specs.Emitted.{is_emitted, output_index}
use Rattle.lk_sizes.specs.Owners.{Content}
use Rattle.lk_tables.specs.HeaderParts.{event_sections}
use Rattle.lk_layout.specs.LayoutRecord.{LayoutRecord}
use Rattle.lk_layout.specs.Machines.{Machine}
use Rattle.lk_soundness.proofs.Stands.{SinglesStandBehind}
use Rattle.lk_resolutions.specs.OutputContent.{output_content}
use Rattle.lk_layout.proofs.LaidOut.{IsLaidOut, made_by}

-- ---- which they are

-- those that have a mark and pass, of input sections numbered from n on, are those that pass among the marked ones
passing : (all marks : List Bool) (p : Input → Bool) (xs : List Input) (n : ℕ) → ((k : ℕ) → is_marked all (n + k) ≡ is_marked marks k)
    → map (λ (q : ℕ × Input). q.1) (filter (λ (q : ℕ × Input). is_marked all q.0 && p q.1) (enumerate_from n xs)) ≡ filter p (marked marks xs)
passing all [] p [] n h = refl
passing all (m ∷ marks) p [] n h = refl
passing all [] p (x ∷ xs) n h =
    let rest : List (ℕ × Input) = filter (λ (q : ℕ × Input). is_marked all q.0 && p q.1) (enumerate_from (n + 1) xs) in
    let number : n ≡ n + 0 = omega arith in
    let none : is_marked all n ≡ false = ap (is_marked all) number ∙ h 0 in
    ap (λ b. map (λ (q : ℕ × Input). q.1) (cond (b && p x) ((n, x) ∷ rest) rest)) none
    ∙ passing all [] p xs (n + 1) (λ k. let further : n + 1 + k ≡ n + suc k = omega arith in ap (is_marked all) further ∙ h (suc k))
passing all (false ∷ marks) p (x ∷ xs) n h =
    let rest : List (ℕ × Input) = filter (λ (q : ℕ × Input). is_marked all q.0 && p q.1) (enumerate_from (n + 1) xs) in
    let number : n ≡ n + 0 = omega arith in
    let none : is_marked all n ≡ false = ap (is_marked all) number ∙ h 0 in
    ap (λ b. map (λ (q : ℕ × Input). q.1) (cond (b && p x) ((n, x) ∷ rest) rest)) none
    ∙ passing all marks p xs (n + 1) (λ k. let further : n + 1 + k ≡ n + suc k = omega arith in ap (is_marked all) further ∙ h (suc k))
passing all (true ∷ marks) p (x ∷ xs) n h =
    let rest : List (ℕ × Input) = filter (λ (q : ℕ × Input). is_marked all q.0 && p q.1) (enumerate_from (n + 1) xs) in
    let number : n ≡ n + 0 = omega arith in
    let set : is_marked all n ≡ true = ap (is_marked all) number ∙ h 0 in
    let later = passing all marks p xs (n + 1) (λ k. let further : n + 1 + k ≡ n + suc k = omega arith in ap (is_marked all) further ∙ h (suc k)) in
    ap (λ b. map (λ (q : ℕ × Input). q.1) (cond (b && p x) ((n, x) ∷ rest) rest)) set
    ∙ (elim (p x) as (λ c. map (λ (q : ℕ × Input). q.1) (cond c ((n, x) ∷ rest) rest) ≡ cond c (x ∷ filter p (marked marks xs)) (filter p (marked marks xs))) [
      | true ↦ ap (λ (ys : List Input). x ∷ ys) later
      | false ↦ later
    ])

-- ---- the indexes of emitted sections

abbrev Differ : ℕ → ℕ → Type 0
Differ a b = a ≡ b → ⊥

kept_step : (p : ℕ → Bool) (x : ℕ) (xs : List ℕ) (c : Bool) → Rises Differ (filter p xs) → ((j b : ℕ) → slice_get (filter p xs) j ≡ Some b → Differ x b)
    → Rises Differ (cond c (x ∷ filter p xs) (filter p xs))
kept_step p x xs false rest first i j a b lt q r = rest i j a b lt q r
kept_step p x xs true rest first zero zero a b lt q r = absurd (omega (arith, lt))
kept_step p x xs true rest first zero (suc j) a b lt q r =
    let same : x ≡ a = cc in
    subst (λ y. Differ y b) same (first j b r)
kept_step p x xs true rest first (suc i) zero a b lt q r = absurd (omega (arith, lt))
kept_step p x xs true rest first (suc i) (suc j) a b lt q r = rest i j a b (omega (arith, lt)) q r

-- what is left of a list without twins has none
rises_kept : (p : ℕ → Bool) (xs : List ℕ) → Rises Differ xs → Rises Differ (filter p xs)
rises_kept p [] h = rises_nil Differ
rises_kept p (x ∷ xs) h =
    kept_step p x xs (p x) (rises_kept p xs (λ i j a b lt. h (suc i) (suc j) a b (omega (arith, lt)))) (λ j b q.
    let at = filter_at p xs j b q in
    h 0 (suc at.0) x b (omega arith) refl at.1)

section_event : (e : OrderEvent) (u : ℕ) → placed_section e ≡ Some u → e ≡ Section u
section_event (Section t) u h = let same : t ≡ u = cc in ap (λ (n : ℕ). Section n) same
section_event (SegmentStart j) u h = absurd (cc)
section_event (SegmentEnd j) u h = absurd (cc)
section_event (SetLocation x) u h = absurd (cc)
section_event (SetLocationRelative x t) u h = absurd (cc)
section_event (SetSectionAddress x) u h = absurd (cc)

-- no section is placed twice
placed_once : (link : LinkInput) → IsWellFormed link → Rises Differ (event_sections link.plan.events)
placed_once link good = rises_filtered Differ placed_section link.plan.events (λ i j x y a b lt at_i at_j of_x of_y same.
    let first : x ≡ Section a = section_event x a of_x in
    let later : y ≡ Section a = section_event y b of_y ∙ ap (λ (n : ℕ). Section n) (sym same) in
    let twice : i ≡ j = good.events.once i j (Section a) tt (at_i ∙ ap (λ (e : OrderEvent). Some e) first) (at_j ∙ ap (λ (e : OrderEvent). Some e) later) in
    absurd (omega (arith, lt, twice)))

-- in a list without twins, what stands at a place is found there
place_of : (xs : List ℕ) (s q : ℕ) → Rises Differ xs → slice_get xs q ≡ Some s → position_or_len (λ t. t == s) xs ≡ q
place_of [] s q h there = absurd (cc)
place_of (x ∷ xs) s zero h there =
    let same : x ≡ s = cc in
    let hit : (x == s) ≡ true = eq-eqb x s same in
    ap (λ b. cond (not b) (1 + position_or_len (λ t. t == s) xs) 0) hit
place_of (x ∷ xs) s (suc q) h there =
    let miss : (x == s) ≡ false = false_from_ne_true (x == s) (λ same. h 0 (suc q) x s (omega arith) refl there (eqb-true x s same)) in
    ap (λ b. cond (not b) (1 + position_or_len (λ t. t == s) xs) 0) miss
    ∙ omega (arith, place_of xs s q (λ i j a b lt. h (suc i) (suc j) a b (omega (arith, lt))) there)

found_at : (xs : List ℕ) (s q : ℕ) → Rises Differ xs → slice_get xs q ≡ Some s → position (λ t. t == s) xs ≡ Some q
found_at xs s q h there =
    let place = place_of xs s q h there in
    let within : ltb q (length xs) ≡ true = lt-ltb q (length xs) (slice_get_within xs q s there) in
    ap (λ (n : ℕ). cond (ltb n (length xs)) (Some n) None) place ∙ ap (λ b. cond b (Some q) None) within

-- what there is of a list of what there may be
abbrev given : List (Option ℕ) → List ℕ
given os = filter_map (λ o. o) os

given_count : (os : List (Option ℕ)) → length (given os) ≡ count_by is_some os
given_count [] = refl
given_count (None ∷ os) = omega (arith, sum_by-cons (λ (o : Option ℕ). cond (is_some o) 1 0) None os, given_count os)
given_count (Some n ∷ os) = omega (arith, sum_by-cons (λ (o : Option ℕ). cond (is_some o) 1 0) (Some n) os, given_count os)

or_true : (a b : Bool) → b ≡ true → (a || b) ≡ true
or_true true b h = refl
or_true false b h = h

given_has : (os : List (Option ℕ)) (k q : ℕ) → slice_get os k ≡ Some (Some q) → list_any (eqb q) (given os) ≡ true
given_has [] k q h = absurd (cc)
given_has (None ∷ os) zero q h = absurd (cc)
given_has (None ∷ os) (suc k) q h = given_has os k q h
given_has (Some n ∷ os) zero q h =
    let same : q ≡ n = cc in
    ap (λ b. b || list_any (eqb q) (given os)) (eq-eqb q n same)
given_has (Some n ∷ os) (suc k) q h = or_true (eqb q n) (list_any (eqb q) (given os)) (given_has os k q h)

-- so many sections have an index as are emitted
as_many : (content : Content) → IsWellFormed content.link
    → length (filter (is_emitted content) (event_sections content.link.plan.events)) ≤ count_by is_some (by_section (output_index content) content.link)
as_many content good =
    let link : LinkInput = content.link in
    let sections : List PlanSection = link.plan.sections in
    let emitted : List ℕ = filter (is_emitted content) (event_sections link.plan.events) in
    let indexes : List (Option ℕ) = by_section (output_index content) link in
    let once : Rises Differ emitted = rises_kept (is_emitted content) (event_sections link.plan.events) (placed_once link good) in
    let each : (q : ℕ) → q < length emitted → list_any (eqb q) (given indexes) ≡ true = λ q below.
    let s : ℕ = get_or emitted q 0 in
    let there : slice_get emitted q ≡ Some s = slice_get-get_or emitted q 0 below in
    let from = filter_at (is_emitted content) (event_sections link.plan.events) q s there in
    let event = filter_map_at placed_section link.plan.events from.0 s from.1 in
    let is : event.1 ≡ Section s = section_event event.1 s event.3 in
    let within : s < length sections = good.events.in_range event.0 (Section s) (event.2 ∙ ap (λ (e : OrderEvent). Some e) is) in
    let section : PlanSection = get_or sections s no_section in
    let numbered : slice_get (enumerate_from 0 sections) s ≡ Some (0 + s, section) = numbered_get 0 sections s section (slice_get-get_or sections s no_section within) in
    let index : slice_get indexes s ≡ Some (output_index content (0 + s)) = map_in (λ (r : ℕ × PlanSection). output_index content r.0) (enumerate_from 0 sections) s (0 + s, section) numbered in
    let number : 0 + s ≡ s = omega arith in
    let own : output_index content (0 + s) ≡ Some q = ap (output_index content) number ∙ found_at emitted s q once there in
    given_has indexes s q (index ∙ ap (λ (o : Option ℕ). Some o) own) in
    omega (arith, le-length_from_below (given indexes) (length emitted) each, given_count indexes)

-- ---- all

pub singles_stand : (machine : Machine) (link : LinkInput) (layout : LayoutRecord) (laid : IsLaidOut machine link layout) → SinglesStandBehind (made_by laid) layout
singles_stand machine link layout laid =
    let content : Content = output_content machine.sizes link laid.live in
    subst (SinglesStandBehind (made_by laid)) (sym laid.same) (record {
      told = passing laid.live.marks laid.live.marks (λ x. is_singleton link x.section) (all_inputs link.groups) 0 (λ k. let number : 0 + k ≡ k = omega arith in ap (is_marked laid.live.marks) number);
      behind = λ s k at.
          let from = map_at (λ (r : ℕ × PlanSection). output_index content r.0) (enumerate_from 0 link.plan.sections) s (Some k) at in
          let place = position-Some (λ t. t == from.0.0) (filter (is_emitted content) (event_sections link.plan.events)) k 0 from.2 in
          omega (arith, place.0, as_many content laid.good);
    })
