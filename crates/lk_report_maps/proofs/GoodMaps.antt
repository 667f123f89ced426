-- Sections and segments of a plain placement, told as a map has them, are good.
use Rattle.std.proofs.Common.{◌≡◌, ℕ, ◌+◌, ◌<◌, ◌≤◌, ◌⊎◌, ◌^◌, Bool, true, List, length, map, get_or, None, refl, sym, ap, subst, ◌∙◌, arith, zero-add}
use Rattle.std.specs.Prelude.{filter, not, nat_lt, unwrap_or, ◌&&◌}
use Rattle.std.specs.List.{All, AllPairs, Contains, enumerate_from}
use Rattle.std.proofs.lemmas.Bool.{and_parts}
use Rattle.std.proofs.lemmas.List.{get_or-map, get_or_default, length-map}
use Rattle.std.proofs.lemmas.List.Elements.{All-contains, All-map, Contains-get_or, filter_passes}
use Rattle.std.proofs.lemmas.List.FromFn.{get_or-enumerate_from, length-enumerate_from}
use Rattle.std.proofs.lemmas.List.Kept.{AllPairs-filter}
use Rattle.lk_link.specs.declared.plan.PlanSection.{PlanSection}
use Rattle.lk_link.specs.PlanSections.{has_memory, is_allocated as is_allocated_by, is_set, is_zero_fill_thread_local, no_section, own_attributes, primary_of, section_at}
use Rattle.lk_expressions.specs.Records.{Fits, Record, has_file_bytes, nowhere}
use Rattle.lk_map.specs.declared.map_text.SectionLine.{SectionLine}
use Rattle.lk_map.specs.declared.map_text.SegmentLine.{SegmentLine}
use Rattle.lk_map.specs.declared.spans.Span.{Span}
use Rattle.lk_map.specs.Checking.{needs_segment}
use Rattle.lk_map.specs.Good.{IsGood, IsHeldBy}
use Rattle.lk_map.specs.Spans.{counts_in_file, counts_in_memory}
use Rattle.lk_map.proofs.Goodness.{file_span, memory_span}
use Rattle.lk_place.specs.declared.cursors.Cursors.{Cursors}
use Rattle.lk_place.specs.declared.segments.SegmentFileLayout.TheVariants.{FromSections}
use Rattle.lk_place.specs.declared.segments.SegmentLayout.{SegmentLayout}
use Rattle.lk_place_laws.specs.Distance.{AreEquallyFar}
use Rattle.lk_place_laws.specs.Laws.{IsSoundlySet}
use Rattle.lk_place.specs.Plain.{IsPlain, PlacesInLoad}
use Rattle.lk_place_laws.specs.SectionRanges.{AreApartInFile, AreApartInMemory, FileSectionsAreApart, PlainMemorySectionsAreApart, SectionsFit, span_of}
use Rattle.lk_place_laws.specs.SegmentHulls.{HoldsRecord, PlainSegmentsHoldSections, SegmentsFit, segment_span}
use Rattle.lk_place.specs.Segments.{section_records, segment_layout}
use Rattle.lk_place.specs.Setting.{Setting}

-- ---- lists

-- a section's line for where there is none
abbrev no_line : SectionLine
no_line = record { line = 0; mem_offset = 0; mem_size = 0; file_offset = 0; file_size = 0; attrs = 0 }

-- what holds of each two of what is made of lines
pairs_made : (R : Span → Span → Type 0) (f : SectionLine → Span) (lines : List SectionLine) → AllPairs (λ x y. R (f x) (f y)) lines → AllPairs R (map f lines)
pairs_made R f lines each = λ i j d less below.
    let within : j < length lines = omega (arith, below, length-map lines f) in
    let first : get_or (map f lines) i d ≡ f (get_or lines i no_line) = get_or-map f lines i no_line d (omega (arith, less, within)) in
    let second : get_or (map f lines) j d ≡ f (get_or lines j no_line) = get_or-map f lines j no_line d within in
    subst (λ x. R x (get_or (map f lines) j d)) (sym first) (subst (λ y. R (f (get_or lines i no_line)) y) (sym second) (each i j no_line less within))

-- each two that pass
pairs_passing : (R : SectionLine → SectionLine → Type 0) (p : SectionLine → Bool) (lines : List SectionLine) → AllPairs (λ x y. p x ≡ true → p y ≡ true → R x y) lines → AllPairs R (filter p lines)
pairs_passing R p lines each =
    let kept = AllPairs-filter (λ x y. p x ≡ true → p y ≡ true → R x y) p lines each in
    λ i j d less below. kept i j d less below (filter_passes p lines i d (omega (arith, less, below))) (filter_passes p lines j d below)

-- what is told of sections, by what their number says
module _ (sections : List PlanSection) (told : ℕ → SectionLine) where
  abbrev all_told : List SectionLine
  all_told = map (λ q. told q.0) (enumerate_from 0 sections)

  told_count : length all_told ≡ length sections
  told_count = length-map (enumerate_from 0 sections) (λ (q : ℕ × PlanSection). told q.0) ∙ length-enumerate_from 0 sections

  told_at : (s : ℕ) (d : SectionLine) → s < length sections → get_or all_told s d ≡ told s
  told_at s d below =
      get_or-map (λ (q : ℕ × PlanSection). told q.0) (enumerate_from 0 sections) s (0, no_section) d (omega (arith, below, length-enumerate_from 0 sections))
      ∙ ap (λ (q : ℕ × PlanSection). told q.0) (get_or-enumerate_from 0 sections s (0, no_section) below)
      ∙ ap told (zero-add s)

  each_told : (P : SectionLine → Type 0) → ((s : ℕ) → s < length sections → P (told s)) → All P all_told
  each_told P h = λ i d below.
      let within : i < length sections = omega (arith, below, told_count) in
      subst P (sym (told_at i d within)) (h i within)

  pairs_told : (R : SectionLine → SectionLine → Type 0) → ((s t : ℕ) → s < t → t < length sections → R (told s) (told t)) → AllPairs R all_told
  pairs_told R h = λ i j d less below.
      let within : j < length sections = omega (arith, below, told_count) in
      subst (λ x. R x (get_or all_told j d)) (sym (told_at i d (omega (arith, less, within)))) (subst (λ y. R (told i) y) (sym (told_at j d within)) (h i j less within))

-- what is told of segments
module _ (layouts : List SegmentLayout) (told : ℕ → Record → SegmentLine) where
  abbrev all_segments : List SegmentLine
  all_segments = map (λ q. told q.0 q.1.sizes) (enumerate_from 0 layouts)

  abbrev no_layout : SegmentLayout
  no_layout = record { id = 0; sizes = nowhere }

  segment_at_place : (n : ℕ) (d : SegmentLine) → n < length layouts → get_or all_segments n d ≡ told n (get_or layouts n no_layout).sizes
  segment_at_place n d below =
      get_or-map (λ (q : ℕ × SegmentLayout). told q.0 q.1.sizes) (enumerate_from 0 layouts) n (0, no_layout) d (omega (arith, below, length-enumerate_from 0 layouts))
      ∙ ap (λ (q : ℕ × SegmentLayout). told q.0 q.1.sizes) (get_or-enumerate_from 0 layouts n (0, no_layout) below)
      ∙ ap (λ m. told m (get_or layouts n no_layout).sizes) (zero-add n)

  segment_count : length all_segments ≡ length layouts
  segment_count = length-map (enumerate_from 0 layouts) (λ (q : ℕ × SegmentLayout). told q.0 q.1.sizes) ∙ length-enumerate_from 0 layouts

  each_segment : (P : SegmentLine → Type 0) → ((n : ℕ) → n < length layouts → P (told n (get_or layouts n no_layout).sizes)) → All P all_segments
  each_segment P h = λ i d below.
      let within : i < length layouts = omega (arith, below, segment_count) in
      subst P (sym (segment_at_place i d within)) (h i within)

  told_each : All (λ l. (n : ℕ) × Contains all_segments (told n l.sizes)) layouts
  told_each = λ i d below.
      let none : SegmentLine = told 0 nowhere in
      let same : get_or layouts i no_layout ≡ get_or layouts i d = get_or_default layouts i no_layout d below in
      let is : get_or all_segments i none ≡ told i (get_or layouts i d).sizes = segment_at_place i none below ∙ ap (λ (l : SegmentLayout). told i l.sizes) same in
      (i, subst (Contains all_segments) is (Contains-get_or all_segments i none (omega (arith, below, segment_count))))

  -- a line tells of each
  stands_told : (l : SegmentLayout) → Contains layouts l → (n : ℕ) × Contains all_segments (told n l.sizes)
  stands_told l = All-contains (λ l. (n : ℕ) × Contains all_segments (told n l.sizes)) layouts l told_each

-- ---- a placement that is told

module _ (setting : Setting) (states : List Cursors) (records : List Record) (set : IsSoundlySet setting states records) (plain : IsPlain setting.plan setting.output)
    (whole : length states ≡ length setting.plan.events + 1) (stack : ℕ) (emitted : ℕ → Bool) (active : List ℕ) (attributes : ℕ → ℕ) (first : ℕ) where
  -- the line of a section
  abbrev line_of : ℕ → SectionLine
  line_of s = record {
    line = s + 2;
    mem_offset = (span_of setting records s).mem_offset;
    mem_size = (span_of setting records s).mem_size;
    file_offset = (span_of setting records s).file_offset;
    file_size = (span_of setting records s).file_size;
    attrs = attributes s;
  }

  -- of a segment
  abbrev segment_line : ℕ → Record → SegmentLine
  segment_line n r = record { line = first + n; mem_offset = r.mem_offset; mem_size = r.mem_size; file_offset = r.file_offset; file_size = r.file_size }

  -- the segments that are told
  abbrev layouts : List SegmentLayout
  layouts = map (segment_layout FromSections setting.plan stack (section_records setting.plan.sections records) emitted) active

  -- no section is secondary, attributes are told as the plan has them, and each section that is allocated and has bytes in the file
  -- stands in a load segment that is told
  pub record IsToldWhole : Type 0 where
    pub primary : (s : ℕ) → s < length setting.plan.sections → (section_at setting.plan.sections s).primary ≡ None
    pub allocated : (s : ℕ) → s < length setting.plan.sections → is_set 1 (attributes s) ≡ is_set 1 (own_attributes setting.plan s)
    pub thread_local : (s : ℕ) → s < length setting.plan.sections → is_set 8 (attributes s) ≡ is_set 8 (own_attributes setting.plan s)
    pub zero_filled : (s : ℕ) → s < length setting.plan.sections → is_set 16 (attributes s) ≡ is_set 16 (own_attributes setting.plan s)
    pub held : (s : ℕ) → s < length setting.plan.sections → is_allocated_by setting.plan s ≡ true → has_file_bytes (span_of setting records s) ≡ true
        → (l : SegmentLayout) × Contains layouts l × (k : ℕ) × PlacesInLoad setting.plan l.id s k
    pub small : stack < 2 ^ 64

  module _ (told : IsToldWhole) (file_apart : FileSectionsAreApart) (memory_apart : PlainMemorySectionsAreApart) (sections_fit : SectionsFit) (segments_fit : SegmentsFit) (hold : PlainSegmentsHoldSections) where
    -- a section is its own primary
    allocated_is : (s : ℕ) → s < length setting.plan.sections → is_allocated_by setting.plan s ≡ is_set 1 (attributes s)
    allocated_is s below =
        let own : primary_of setting.plan.sections s ≡ s = ap (λ o. unwrap_or o s) (told.primary s below) in
        ap (λ n. is_set 1 (own_attributes setting.plan n)) own ∙ sym (told.allocated s below)

    zero_fill_is : (s : ℕ) → s < length setting.plan.sections → is_zero_fill_thread_local setting.plan s ≡ (is_set 8 (attributes s) && is_set 16 (attributes s))
    zero_fill_is s below =
        ap (λ b. b && is_set 16 (own_attributes setting.plan s)) (sym (told.thread_local s below)) ∙ ap (λ b. is_set 8 (attributes s) && b) (sym (told.zero_filled s below))

    -- one that counts in memory has memory
    counted_has_memory : (s : ℕ) → s < length setting.plan.sections → counts_in_memory (line_of s) ≡ true → has_memory setting.plan s ≡ true
    unfolding counts_in_memory
    counted_has_memory s below counted =
        let rest = (and_parts (nat_lt 0 (span_of setting records s).mem_size) (is_set 1 (attributes s) && not (is_set 8 (attributes s) && is_set 16 (attributes s))) counted).1 in
        ap (λ b. b && not (is_zero_fill_thread_local setting.plan s)) (allocated_is s below) ∙ ap (λ b. is_set 1 (attributes s) && not b) (zero_fill_is s below) ∙ rest

    section_ends : (s : ℕ) → s < length setting.plan.sections → ((line_of s).mem_offset + (line_of s).mem_size < 2 ^ 64) × ((line_of s).file_offset + (line_of s).file_size < 2 ^ 64)
    section_ends s below =
        let fits = sections_fit setting states records set.ready set.placed whole s below in
        (fits.mem, fits.file)

    sections_end : All (λ s. (s.mem_offset + s.mem_size < 2 ^ 64) × (s.file_offset + s.file_size < 2 ^ 64)) (all_told setting.plan.sections line_of)
    sections_end = each_told setting.plan.sections line_of (λ s. (s.mem_offset + s.mem_size < 2 ^ 64) × (s.file_offset + s.file_size < 2 ^ 64)) section_ends

    layout_is : All (λ l. l.sizes ≡ segment_span setting records stack emitted l.id) layouts
    layout_is = All-map (λ (l : SegmentLayout). l.sizes ≡ segment_span setting records stack emitted l.id) (segment_layout FromSections setting.plan stack (section_records setting.plan.sections records) emitted) active (λ i d below. refl)

    layout_count : (n : ℕ) → n < length layouts → (get_or layouts n (no_layout layouts segment_line)).sizes ≡ segment_span setting records stack emitted (get_or layouts n (no_layout layouts segment_line)).id
    layout_count n below = layout_is n (no_layout layouts segment_line) below

    segment_ends : (n : ℕ) → n < length layouts
        → let r : Record = (get_or layouts n (no_layout layouts segment_line)).sizes in ((segment_line n r).mem_offset + (segment_line n r).mem_size < 2 ^ 64) × ((segment_line n r).file_offset + (segment_line n r).file_size < 2 ^ 64)
    segment_ends n below =
        let l : SegmentLayout = get_or layouts n (no_layout layouts segment_line) in
        let fits = subst Fits (sym (layout_count n below)) (segments_fit setting states records set.ready set.placed whole stack told.small emitted l.id) in
        (fits.mem, fits.file)

    segments_end : All (λ g. (g.mem_offset + g.mem_size < 2 ^ 64) × (g.file_offset + g.file_size < 2 ^ 64)) (all_segments layouts segment_line)
    segments_end = each_segment layouts segment_line (λ g. (g.mem_offset + g.mem_size < 2 ^ 64) × (g.file_offset + g.file_size < 2 ^ 64)) segment_ends

    memory_pair : (s t : ℕ) → s < t → t < length setting.plan.sections → counts_in_memory (line_of s) ≡ true → counts_in_memory (line_of t) ≡ true
        → AreApartInMemory (span_of setting records s) (span_of setting records t)
    memory_pair s t less below one two =
        let there : s < length setting.plan.sections = omega (arith, less, below) in
        memory_apart setting states records set plain whole s t (λ same. omega (arith, same, less)) there below (counted_has_memory s there one) (counted_has_memory t below two)

    file_pair : (s t : ℕ) → s < t → t < length setting.plan.sections → counts_in_file (line_of s) ≡ true → counts_in_file (line_of t) ≡ true
        → AreApartInFile (span_of setting records s) (span_of setting records t)
    file_pair s t less below one two = file_apart setting states records set.ready set.placed whole s t (λ same. omega (arith, same, less)) (omega (arith, less, below)) below

    apart_in_memory : AllPairs (λ x y. (x.start + x.size ≤ y.start) ⊎ (y.start + y.size ≤ x.start)) (map memory_span (filter counts_in_memory (all_told setting.plan.sections line_of)))
    apart_in_memory =
        pairs_made (λ x y. (x.start + x.size ≤ y.start) ⊎ (y.start + y.size ≤ x.start)) memory_span (filter counts_in_memory (all_told setting.plan.sections line_of))
        (pairs_passing (λ x y. (x.mem_offset + x.mem_size ≤ y.mem_offset) ⊎ (y.mem_offset + y.mem_size ≤ x.mem_offset)) counts_in_memory (all_told setting.plan.sections line_of)
        (pairs_told setting.plan.sections line_of
        (λ x y. counts_in_memory x ≡ true → counts_in_memory y ≡ true → (x.mem_offset + x.mem_size ≤ y.mem_offset) ⊎ (y.mem_offset + y.mem_size ≤ x.mem_offset))
        memory_pair))

    apart_in_file : AllPairs (λ x y. (x.start + x.size ≤ y.start) ⊎ (y.start + y.size ≤ x.start)) (map file_span (filter counts_in_file (all_told setting.plan.sections line_of)))
    apart_in_file =
        pairs_made (λ x y. (x.start + x.size ≤ y.start) ⊎ (y.start + y.size ≤ x.start)) file_span (filter counts_in_file (all_told setting.plan.sections line_of))
        (pairs_passing (λ x y. (x.file_offset + x.file_size ≤ y.file_offset) ⊎ (y.file_offset + y.file_size ≤ x.file_offset)) counts_in_file (all_told setting.plan.sections line_of)
        (pairs_told setting.plan.sections line_of
        (λ x y. counts_in_file x ≡ true → counts_in_file y ≡ true → (x.file_offset + x.file_size ≤ y.file_offset) ⊎ (y.file_offset + y.file_size ≤ x.file_offset))
        file_pair))

    held_by : (r : Record) (n s : ℕ) → HoldsRecord r (span_of setting records s) → AreEquallyFar r (span_of setting records s) → IsHeldBy (segment_line n r) (line_of s)
    held_by r n s hull far =
        record { memory_from = hull.memory_from; memory_to = hull.memory_to; file_from = hull.file_from; file_to = hull.file_to; distance = far }

    one_held : (s : ℕ) → s < length setting.plan.sections → needs_segment (line_of s) ≡ true
        → (g : SegmentLine) × Contains (all_segments layouts segment_line) g × IsHeldBy g (line_of s)
    unfolding needs_segment
    one_held s below need =
        let (bytes, set_flag) = and_parts (nat_lt 0 (span_of setting records s).file_size) (is_set 1 (attributes s)) need in
        let (l, among, k, places) = told.held s below (allocated_is s below ∙ set_flag) bytes in
        let (n, tells) = stands_told layouts segment_line l among in
        let is : l.sizes ≡ segment_span setting records stack emitted l.id = All-contains (λ l. l.sizes ≡ segment_span setting records stack emitted l.id) layouts l layout_is among in
        let hull = hold setting states records set plain whole stack emitted l.id s k places bytes in
        let so = subst (λ r. HoldsRecord r (span_of setting records s) × AreEquallyFar r (span_of setting records s)) (sym is) hull in
        (segment_line n l.sizes, tells, held_by l.sizes n s so.0 so.1)

    -- the map is good
    pub told_is_good : IsGood (all_told setting.plan.sections line_of) (all_segments layouts segment_line)
    told_is_good = record {
      sections_end = sections_end;
      segments_end = segments_end;
      apart_in_memory = apart_in_memory;
      apart_in_file = apart_in_file;
      held = λ s among need. All-contains (λ s. needs_segment s ≡ true → (g : SegmentLine) × Contains (all_segments layouts segment_line) g × IsHeldBy g s) (all_told setting.plan.sections line_of) s
          (each_told setting.plan.sections line_of (λ s. needs_segment s ≡ true → (g : SegmentLine) × Contains (all_segments layouts segment_line) g × IsHeldBy g s) one_held) among need;
    }
