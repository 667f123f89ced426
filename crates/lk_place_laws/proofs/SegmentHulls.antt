-- What a segment spans holds the sections inside, and starts as far from those with bytes in the file in memory as in the file.
use Rattle.std.proofs.Common.{◌≡◌, ℕ, zero, suc, ◌+◌, ◌-◌, ◌<◌, ◌≤◌, ◌^◌, ◌⊎◌, Bool, true, false, cond, List, [], ◌∷◌, length, map, get_or, Some, refl, sym, ap, subst, ◌∙◌, inl, inr, arith, fold, eq-eqb}
use Rattle.std.specs.Prelude.{min, filter, not, slice_get, ◌==◌, ◌&&◌, ◌||◌, if◌then◌else◌}
use Rattle.std.specs.List.{All, list_any, slice_index_or}
use Rattle.std.proofs.lemmas.Bool.{and_parts, cases_Bool, cases_lt, eqb-true, false≢true, not-true, or_left, or_right}
use Rattle.std.proofs.lemmas.List.{get_or-map, get_or_default, length-map}
use Rattle.std.proofs.lemmas.List.Elements.{All-filter, filter_passes}
use Rattle.lk_link.specs.declared.plan.OrderEvent.TheVariants.{Section}
use Rattle.lk_link.specs.declared.plan.SegmentKind.{SegmentKind}
use Rattle.lk_link.specs.declared.plan.SegmentKind.TheVariants as kind
use Rattle.lk_link.specs.Inside.{sections_inside}
use Rattle.lk_link.specs.PlanSections.{has_memory, is_file_backed, is_zero_fill_thread_local, primary_of}
use Rattle.lk_link.specs.SegmentKinds.{is_load, is_stack, is_tls, segment_at}
use Rattle.lk_expressions.specs.Records.{Fits, Record, has_file_bytes, nowhere, record_at}
use Rattle.lk_place.specs.declared.cursors.Cursors.{Cursors}
use Rattle.lk_place_laws.specs.Distance.{AreEquallyFar}
use Rattle.lk_place_laws.specs.Laws.{IsSoundlySet}
use Rattle.lk_place.specs.Plain.{IsPlain, PlacesInLoad}
use Rattle.lk_place_laws.specs.SectionRanges.{span_of}
use Rattle.lk_place_laws.specs.SegmentHulls.{HoldsRecord, PlainSegmentsHoldSections, SegmentsFit, segment_span}
use Rattle.lk_place.specs.Segments.{counts, hull, is_skipped, section_records, stack_record}
use Rattle.lk_place.specs.Setting.{IsReady, Setting}
use Rattle.lk_place_laws.proofs.InsideLaws.{inside_is_placed}
use Rattle.lk_place.proofs.Insides.{placed_in_range}
use Rattle.lk_place_laws.proofs.SectionDistances.{plain_backed_sections_keep_distance}
use Rattle.lk_place_laws.proofs.SectionRanges.{file_sections_rise, hull_in_file, hull_in_memory, plain_memory_sections_rise}
use Rattle.lk_place_laws.proofs.SectionSpans.{below_last, below_limit, file_bytes_are_backed, hull_holds, sections_fit}

-- ---- lists of sections

-- each element of a list is found there
element_found : (us : List ℕ) (n : ℕ) → n < length us → list_any (λ t. t == get_or us n 0) us ≡ true
element_found [] n below = absurd (omega arith)
element_found (u ∷ us) zero below = or_left (u == u) (list_any (λ t. t == u) us) (eq-eqb u u refl)
element_found (u ∷ us) (suc n) below = or_right (u == get_or us n 0) (list_any (λ t. t == get_or us n 0) us) (element_found us n (omega arith))

all_found : (us : List ℕ) → All (λ u. list_any (λ t. t == u) us ≡ true) us
all_found us = λ i d below. subst (λ u. list_any (λ t. t == u) us ≡ true) (get_or_default us i 0 d below) (element_found us i below)

-- one that is found and passes stands among those that pass
abbrev StandsAmong : List ℕ → ℕ → Type 0
StandsAmong us s = (j : ℕ) × (j < length us) × (get_or us j 0 ≡ s)

among_more : (u s : ℕ) (us : List ℕ) → StandsAmong us s → StandsAmong (u ∷ us) s
among_more u s us (j, below, is) = (suc j, omega (arith, below), is)

among_passing : (p : ℕ → Bool) (us : List ℕ) (s : ℕ) → p s ≡ true → list_any (λ t. t == s) us ≡ true → StandsAmong (filter p us) s
among_passing p [] s passes found = absurd (cc)
among_passing p (u ∷ us) s passes found =
    elim (cases_Bool (u == s)) [
      | inl same ↦
          let is : u ≡ s = eqb-true u s same in
          subst (λ b. StandsAmong (cond b (u ∷ filter p us) (filter p us)) s) (sym (ap p is ∙ passes)) (0, omega arith, is)
      | inr other ↦
          let later : list_any (λ t. t == s) us ≡ true = ap (λ b. b || list_any (λ t. t == s) us) (sym other) ∙ found in
          let rest = among_passing p us s passes later in
          elim (p u) as (λ b. StandsAmong (cond b (u ∷ filter p us) (filter p us)) s) [ true ↦ among_more u s (filter p us) rest | false ↦ rest ]
    ]

-- ---- kinds

load_no_stack : (kind : SegmentKind) → is_load kind ≡ true → is_stack kind ≡ false
load_no_stack kind.Load load = refl
load_no_stack kind.Tls load = refl
load_no_stack kind.Stack load = absurd (cc)
load_no_stack kind.Other load = refl

load_no_tls : (kind : SegmentKind) → is_load kind ≡ true → is_tls kind ≡ false
load_no_tls kind.Load load = refl
load_no_tls kind.Tls load = absurd (cc)
load_no_tls kind.Stack load = refl
load_no_tls kind.Other load = refl

-- ---- where a hull begins

-- two starts stand as far from each other as those of a record, or lie no lower than they
abbrev StandsBy : Record → ℕ → ℕ → Type 0
StandsBy r memory file = (r.mem_offset + file ≡ memory + r.file_offset) ⊎ ((r.mem_offset ≤ memory) × (r.file_offset ≤ file))

lesser_stands : (r : Record) (m f m' f' : ℕ) → StandsBy r m f → StandsBy r m' f' → StandsBy r (min m m') (min f f')
lesser_stands r m f m' f' (inl h) (inl g) = inl (omega (arith, h, g))
lesser_stands r m f m' f' (inr h) (inr g) = inr (omega (arith, h.0, g.0), omega (arith, h.1, g.1))
lesser_stands r m f m' f' (inl h) (inr g) =
    elim (cases_lt r.mem_offset m) [ inl above ↦ inr (omega (arith, above, g.0), omega (arith, above, h, g.1)) | inr below ↦ inl (omega (arith, below, h, g.0, g.1)) ]
lesser_stands r m f m' f' (inr h) (inl g) =
    elim (cases_lt r.mem_offset m') [ inl above ↦ inr (omega (arith, above, h.0), omega (arith, above, g, h.1)) | inr below ↦ inl (omega (arith, below, g, h.0, h.1)) ]

least_stands : (r : Record) (m f : ℕ) (rs : List Record) → StandsBy r m f → ((j : ℕ) → j < length rs → StandsBy r (slice_index_or rs j nowhere).mem_offset (slice_index_or rs j nowhere).file_offset)
    → StandsBy r (fold min m (map (λ q. q.mem_offset) rs)) (fold min f (map (λ q. q.file_offset) rs))
least_stands r m f [] h each = h
least_stands r m f (q ∷ rs) h each =
    least_stands r (min m q.mem_offset) (min f q.file_offset) rs (lesser_stands r m f q.mem_offset q.file_offset h (each 0 (omega arith))) (λ j below. each (suc j) (omega (arith, below)))

hull_stands : (r : Record) (rs : List Record) → 0 < length rs → ((j : ℕ) → j < length rs → StandsBy r (slice_index_or rs j nowhere).mem_offset (slice_index_or rs j nowhere).file_offset)
    → StandsBy r (hull rs).mem_offset (hull rs).file_offset
hull_stands r [] some each = absurd (omega (arith, some))
hull_stands r (q ∷ rs) some each = least_stands r q.mem_offset q.file_offset rs (each 0 (omega arith)) (λ j below. each (suc j) (omega (arith, below)))

-- where it holds the record, it starts as far from it
equally_far : (outer r : Record) → StandsBy r outer.mem_offset outer.file_offset → HoldsRecord outer r → AreEquallyFar outer r
equally_far outer r (inl h) holds = omega (arith, h)
equally_far outer r (inr h) holds = omega (arith, h.0, h.1, holds.memory_from, holds.file_from)

-- ---- the sections inside

module _ (setting : Setting) (states : List Cursors) (records : List Record) (set : IsSoundlySet setting states records) (plain : IsPlain setting.plan setting.output)
    (whole : length states ≡ length setting.plan.events + 1) (emitted : ℕ → Bool) (i s k : ℕ) (places : PlacesInLoad setting.plan i s k)
    (bytes : has_file_bytes (span_of setting records s) ≡ true) where
  abbrev spans : List Record
  spans = section_records setting.plan.sections records

  -- whether a section inside counts
  abbrev can : ℕ → Bool
  can u = counts setting.plan spans emitted i u

  -- those that count
  abbrev counting : List ℕ
  counting = filter can (sections_inside setting.plan.events i)

  there : s < length setting.plan.sections
  there = placed_in_range setting.plan (Section s) s (set.ready.events.in_range k (Section s) places.places.here) refl

  backed : is_file_backed setting.plan s ≡ true
  backed = (file_bytes_are_backed setting states records set.ready set.placed whole s there bytes).0

  no_zero_fill : is_zero_fill_thread_local setting.plan s ≡ false
  no_zero_fill = elim (cases_Bool (is_zero_fill_thread_local setting.plan s)) [ inl zero_fill ↦ absurd (false≢true (sym (plain.zero_fill i s k places zero_fill) ∙ backed)) | inr none ↦ none ]

  -- the section counts
  it_counts : can s ≡ true
  it_counts =
      let filled = (file_bytes_are_backed setting states records set.ready set.placed whole s there bytes).1 in
      let kept : is_skipped setting.plan spans emitted s ≡ false = ap (λ b. not b && not (emitted (primary_of setting.plan.sections s))) filled in
      ap (λ b. not b && (is_tls (segment_at setting.plan.segments i).kind || not (is_zero_fill_thread_local setting.plan s))) kept
      ∙ ap (λ b. is_tls (segment_at setting.plan.segments i).kind || not b) no_zero_fill
      ∙ ap (λ b. b || true) (load_no_tls (segment_at setting.plan.segments i).kind places.load)

  has_memory_of : (u m : ℕ) → PlacesInLoad setting.plan i u m → is_zero_fill_thread_local setting.plan u ≡ false → has_memory setting.plan u ≡ true
  has_memory_of u m at none = ap (λ b. b && not (is_zero_fill_thread_local setting.plan u)) (plain.allocated i u m at) ∙ ap not none

  -- one that takes no bytes of the file stands behind it
  later : (u m : ℕ) → PlacesInLoad setting.plan i u m → is_file_backed setting.plan u ≡ false → is_zero_fill_thread_local setting.plan u ≡ false → k < m
  later u m at unbacked none =
      elim (cases_lt k m) [
        | inl less ↦ less
        | inr other ↦ elim (cases_lt m k) [
          | inl before ↦
              let first = plain.backed_first i u s m k before at places backed in
              let other : (is_file_backed setting.plan u || is_zero_fill_thread_local setting.plan u) ≡ false = ap (λ b. b || is_zero_fill_thread_local setting.plan u) unbacked ∙ none in
              absurd (false≢true (sym other ∙ first))
          | inr same ↦
              let is : k ≡ m = omega (arith, other, same) in
              let named : Some (Section s) ≡ Some (Section u) = sym places.places.here ∙ ap (slice_get setting.plan.events) is ∙ at.places.here in
              let section : s ≡ u = cc in
              absurd (false≢true (sym unbacked ∙ ap (is_file_backed setting.plan) (sym section) ∙ backed))
        ]
      ]

  -- each that counts stands by it
  stands_by : (u : ℕ) → list_any (λ t. t == u) (sections_inside setting.plan.events i) ≡ true → can u ≡ true → StandsBy (span_of setting records s) (span_of setting records u).mem_offset (span_of setting records u).file_offset
  stands_by u inside counted =
      let (m, at) = (inside_is_placed setting.plan i u).0 inside in
      let placed : PlacesInLoad setting.plan i u m = record { load = places.load; places = at } in
      let both = and_parts (not (is_skipped setting.plan spans emitted u)) (is_tls (segment_at setting.plan.segments i).kind || not (is_zero_fill_thread_local setting.plan u)) counted in
      let none : is_zero_fill_thread_local setting.plan u ≡ false
      = not-true (is_zero_fill_thread_local setting.plan u) (ap (λ b. b || not (is_zero_fill_thread_local setting.plan u)) (sym (load_no_tls (segment_at setting.plan.segments i).kind places.load)) ∙ both.1) in
      elim (cases_Bool (is_file_backed setting.plan u)) [
        | inl backed_too ↦ inl (plain_backed_sections_keep_distance setting states records set plain whole i s u k m places placed backed backed_too)
        | inr unbacked ↦
            let behind = later u m placed unbacked none in
            let file = file_sections_rise setting states records set.ready set.placed whole s u k m behind places.places.here at.here in
            let memory = plain_memory_sections_rise setting states records set plain whole s u k m behind places.places.here at.here (has_memory_of s k places no_zero_fill) (has_memory_of u m placed none) in
            inr (omega (arith, memory), omega (arith, file))
      ]

  span_at : (j : ℕ) → j < length counting → slice_index_or (map (record_at spans) counting) j nowhere ≡ record_at spans (get_or counting j 0)
  span_at j below = get_or-map (record_at spans) counting j 0 nowhere below

  each_stands : (j : ℕ) → j < length (map (record_at spans) counting)
      → StandsBy (span_of setting records s) (slice_index_or (map (record_at spans) counting) j nowhere).mem_offset (slice_index_or (map (record_at spans) counting) j nowhere).file_offset
  each_stands j below =
      let within : j < length counting = omega (arith, below, length-map counting (record_at spans)) in
      let inside = All-filter can (λ u. list_any (λ t. t == u) (sections_inside setting.plan.events i) ≡ true) (sections_inside setting.plan.events i) (all_found (sections_inside setting.plan.events i)) in
      subst (λ (r : Record). StandsBy (span_of setting records s) r.mem_offset r.file_offset) (sym (span_at j within))
      (stands_by (get_or counting j 0) (inside j 0 within) (filter_passes can (sections_inside setting.plan.events i) j 0 within))

  -- the hull of those that count
  holds_it : HoldsRecord (hull (map (record_at spans) counting)) (span_of setting records s) × AreEquallyFar (hull (map (record_at spans) counting)) (span_of setting records s)
  holds_it =
      let (j, below, is) = among_passing can (sections_inside setting.plan.events i) s it_counts ((inside_is_placed setting.plan i s).1 (k, places.places)) in
      let within : j < length (map (record_at spans) counting) = omega (arith, below, length-map counting (record_at spans)) in
      let holds = subst (HoldsRecord (hull (map (record_at spans) counting))) (span_at j below ∙ ap (record_at spans) is) (hull_holds (map (record_at spans) counting) j within) in
      (holds, equally_far (hull (map (record_at spans) counting)) (span_of setting records s) (hull_stands (span_of setting records s) (map (record_at spans) counting) (omega (arith, within)) each_stands) holds)

pub plain_segments_hold_sections : PlainSegmentsHoldSections
plain_segments_hold_sections setting states records set plain whole stack emitted i s k places bytes =
    let all : Record = hull (map (record_at (section_records setting.plan.sections records)) (filter (counts setting.plan (section_records setting.plan.sections records) emitted i) (sections_inside setting.plan.events i))) in
    let is : segment_span setting records stack emitted i ≡ all = ap (λ b. if b then stack_record stack else all) (load_no_stack (segment_at setting.plan.segments i).kind places.load) in
    subst (λ r. HoldsRecord r (span_of setting records s) × AreEquallyFar r (span_of setting records s)) (sym is) (holds_it setting states records set plain whole emitted i s k places bytes)

-- ---- ends

hull_fits : (rs : List Record) → ((j : ℕ) → j < length rs → Fits (slice_index_or rs j nowhere)) → Fits (hull rs)
hull_fits [] each = record { file = omega arith; mem = omega arith }
hull_fits (r ∷ rs) each =
    let some : 0 < length (r ∷ rs) = omega arith in
    let file = hull_in_file 0 (2 ^ 64 - 1) (r ∷ rs) some (λ j below. below_limit (slice_index_or (r ∷ rs) j nowhere) (each j below)) in
    let memory = hull_in_memory 0 (2 ^ 64 - 1) (r ∷ rs) some (λ j below. below_last (slice_index_or (r ∷ rs) j nowhere) (each j below)) in
    record { file = omega (arith, file.1); mem = omega (arith, memory.1) }

stack_fits : (stack : ℕ) → stack < 2 ^ 64 → Fits (stack_record stack)
stack_fits stack small = record { file = omega arith; mem = omega (arith, small) }

-- sections inside are sections of the plan
inside_there : (setting : Setting) (i u : ℕ) → IsReady setting → list_any (λ t. t == u) (sections_inside setting.plan.events i) ≡ true → u < length setting.plan.sections
inside_there setting i u ready found =
    let (m, at) = (inside_is_placed setting.plan i u).0 found in
    placed_in_range setting.plan (Section u) u (ready.events.in_range m (Section u) at.here) refl

pub segments_fit : SegmentsFit
segments_fit setting states records ready placed whole stack small emitted i =
    let spans : List Record = section_records setting.plan.sections records in
    let inside : List ℕ = sections_inside setting.plan.events i in
    let counting : List ℕ = filter (counts setting.plan spans emitted i) inside in
    let found = All-filter (counts setting.plan spans emitted i) (λ u. list_any (λ t. t == u) inside ≡ true) inside (all_found inside) in
    let each : (j : ℕ) → j < length (map (record_at spans) counting) → Fits (slice_index_or (map (record_at spans) counting) j nowhere)
    = λ j below.
    let within : j < length counting = omega (arith, below, length-map counting (record_at spans)) in
    subst Fits (sym (get_or-map (record_at spans) counting j 0 nowhere within)) (sections_fit setting states records ready placed whole (get_or counting j 0) (inside_there setting i (get_or counting j 0) ready (found j 0 within))) in
    elim (is_stack (segment_at setting.plan.segments i).kind) as (λ b. Fits (if b then stack_record stack else hull (map (record_at spans) counting))) [
      | true ↦ stack_fits stack small
      | false ↦ hull_fits (map (record_at spans) counting) each
    ]
