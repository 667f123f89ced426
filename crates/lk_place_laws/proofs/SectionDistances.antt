-- What sections span stands equally far from the file too: where the least of their parts do.
use Rattle.std.proofs.Common.{◌≡◌, ℕ, zero, suc, ◌+◌, ◌-◌, ◌<◌, ◌≤◌, Bool, true, false, List, [], ◌∷◌, length, map, drop, Some, refl, sym, ap, subst, ◌∙◌, inl, inr, arith, fold, zero-add}
use Rattle.std.specs.Prelude.{max, min, nat_lt, slice_get}
use Rattle.std.specs.List.{enumerate_from, slice_index_or}
use Rattle.std.proofs.lemmas.Bool.{cases_Bool, cases_lt}
use Rattle.std.proofs.lemmas.List.{get_or-drop, get_or-take, length-drop, length-take}
use Rattle.std.proofs.lemmas.Option.{slice_get_within}
use Rattle.lk_link.specs.declared.plan.OrderEvent.TheVariants.{SegmentStart, Section}
use Rattle.lk_link.specs.declared.plan.PlanSection.{PlanSection}
use Rattle.lk_link.specs.Parts.{all_parts, first_part}
use Rattle.lk_link.specs.PlanSections.{is_file_backed, section_at}
use Rattle.lk_link.proofs.PartNumbers.{first_part-le, first_part-suc}
use Rattle.lk_place.specs.declared.cursors.Cursors.{Cursors}
use Rattle.lk_place.specs.declared.cursors.Offsets.{Offsets}
use Rattle.lk_place_laws.specs.Distance.{AreEquallyFar, HasSectionBytesIn, PlainBackedSectionsKeepDistance, PlainSectionsKeepDistance}
use Rattle.lk_place_laws.specs.Laws.{IsSoundlySet}
use Rattle.lk_place.specs.Placement.{is_walked, section_start, state_at, walk_alignment}
use Rattle.lk_place.specs.CarriedOut.{IsPlacedAt, PlacesSection, reached}
use Rattle.lk_place.specs.Plain.{IsPlain, PlacesInLoad}
use Rattle.lk_place.specs.Ranges.{HasPart}
use Rattle.lk_expressions.specs.Records.{Record, file_end, has_file_bytes, nowhere, record_at}
use Rattle.lk_place.specs.Segments.{hull, part_records, section_record, section_records}
use Rattle.lk_place.specs.Setting.{IsReady, Setting, part_count, part_number, size_at}
use Rattle.lk_place.proofs.ApartLaws.{section_one}
use Rattle.lk_place.proofs.PartEvents.{others_are_nowhere}
use Rattle.lk_place_laws.proofs.MemoryApart.{placed_of}
use Rattle.lk_place_laws.proofs.DistanceLaws.{IsAsFar, IsSectionAlong, IsThrough, StartsAsFar, base_at, equally, section_along, unbacked_size}
use Rattle.lk_place.proofs.Insides.{placed_in_range}
use Rattle.lk_place.proofs.Checked.{has_part}
use Rattle.lk_place.proofs.Ranges.{passed}
use Rattle.lk_place.proofs.SectionEnds.{first_is_walked, first_walked_place}
use Rattle.lk_place.proofs.Steps.{step_at}

-- ---- hulls

lesser_as_far : (base : Offsets) (m f m' f' : ℕ) → IsAsFar base m f → IsAsFar base m' f' → IsAsFar base (min m m') (min f f')
lesser_as_far base m f m' f' h g = omega (arith, h, g)

least_as_far : (base : Offsets) (m f : ℕ) (rs : List Record) → IsAsFar base m f → ((j : ℕ) → j < length rs → StartsAsFar base (slice_index_or rs j nowhere))
    → IsAsFar base (fold min m (map (λ r. r.mem_offset) rs)) (fold min f (map (λ r. r.file_offset) rs))
least_as_far base m f [] h each = h
least_as_far base m f (r ∷ rs) h each =
    least_as_far base (min m r.mem_offset) (min f r.file_offset) rs (lesser_as_far base m f r.mem_offset r.file_offset h (each 0 (omega arith))) (λ j below. each (suc j) (omega arith))

-- a hull of some records that are as far as the base begins as far
hull_as_far : (base : Offsets) (rs : List Record) → 0 < length rs → ((j : ℕ) → j < length rs → StartsAsFar base (slice_index_or rs j nowhere)) → StartsAsFar base (hull rs)
hull_as_far base [] some each = absurd (omega arith)
hull_as_far base (r ∷ rs) some each = least_as_far base r.mem_offset r.file_offset rs (each 0 (omega arith)) (λ j below. each (suc j) (omega arith))

-- of records that all start here in the file and end here
abbrev AreEmptyAt : ℕ → List Record → Type 0
AreEmptyAt c rs = (j : ℕ) → j < length rs → ((slice_index_or rs j nowhere).file_offset ≡ c) × ((slice_index_or rs j nowhere).file_size ≡ 0)

greatest_stays : (c : ℕ) (rs : List Record) → AreEmptyAt c rs → fold max c (map file_end rs) ≡ c
greatest_stays c [] each = refl
greatest_stays c (r ∷ rs) each =
    let here = each 0 (omega arith) in
    let same : max c (file_end r) ≡ c = omega (arith, here.0, here.1) in
    ap (λ n. fold max n (map file_end rs)) same ∙ greatest_stays c rs (λ j below. each (suc j) (omega arith))

least_stays : (c : ℕ) (rs : List Record) → AreEmptyAt c rs → fold min c (map (λ r. r.file_offset) rs) ≡ c
least_stays c [] each = refl
least_stays c (r ∷ rs) each =
    let here = each 0 (omega arith) in
    let same : min c r.file_offset ≡ c = omega (arith, here.0) in
    ap (λ n. fold min n (map (λ r. r.file_offset) rs)) same ∙ least_stays c rs (λ j below. each (suc j) (omega arith))

-- the hull has no bytes of the file
hull_empty : (c : ℕ) (rs : List Record) → AreEmptyAt c rs → (hull rs).file_size ≡ 0
hull_empty c [] each = refl
hull_empty c (r ∷ rs) each =
    let here = each 0 (omega arith) in
    let rest : AreEmptyAt c rs = λ j below. each (suc j) (omega arith) in
    let end : file_end r ≡ c = omega (arith, here.0, here.1) in
    let high : fold max (file_end r) (map file_end rs) ≡ c = ap (λ n. fold max n (map file_end rs)) end ∙ greatest_stays c rs rest in
    let low : fold min r.file_offset (map (λ r. r.file_offset) rs) ≡ c = ap (λ n. fold min n (map (λ r. r.file_offset) rs)) here.0 ∙ least_stays c rs rest in
    omega (arith, high, low)

-- ---- the records of a section's parts

-- as many as parts
pub count_is : (setting : Setting) (records : List Record) (s : ℕ) → length records ≡ length (all_parts setting.plan.sections) → s < length setting.plan.sections
    → length (part_records setting.plan.sections records s) ≡ part_count setting.plan.sections s
count_is setting records s each below =
    omega (
      arith,
      length-take (first_part setting.plan.sections (s + 1) - first_part setting.plan.sections s) (drop (first_part setting.plan.sections s) records),
      length-drop (first_part setting.plan.sections s) records,
      each,
      first_part-suc setting.plan.sections s below,
      first_part-le setting.plan.sections (s + 1),
    )

-- each is that of its part
pub part_is : (setting : Setting) (records : List Record) (s j : ℕ) → s < length setting.plan.sections → j < part_count setting.plan.sections s
    → slice_index_or (part_records setting.plan.sections records s) j nowhere ≡ record_at records (part_number setting.plan.sections s j)
part_is setting records s j below within =
    let first : ℕ = first_part setting.plan.sections s in
    let next : ℕ = first_part setting.plan.sections (s + 1) in
    get_or-take (next - first) (drop first records) j nowhere (omega (arith, first_part-suc setting.plan.sections s below)) ∙ get_or-drop first records j nowhere

-- the record of a section among all
among_all : (f : ℕ × PlanSection → Record) (xs : List PlanSection) (o s : ℕ) → s < length xs → slice_index_or (map f (enumerate_from o xs)) s nowhere ≡ f (o + s, section_at xs s)
among_all f [] o s below = absurd (omega arith)
among_all f (x ∷ xs) o zero below = ap (λ n. f (n, x)) (omega arith)
among_all f (x ∷ xs) o (suc s) below = among_all f xs (o + 1) s (omega arith) ∙ ap (λ n. f (n, section_at xs s)) (omega arith)

pub section_is : (setting : Setting) (records : List Record) (s : ℕ) → s < length setting.plan.sections
    → record_at (section_records setting.plan.sections records) s ≡ section_record (section_at setting.plan.sections s) (part_records setting.plan.sections records s)
section_is setting records s below =
    let sections : List PlanSection = setting.plan.sections in
    among_all (λ q. section_record q.1 (part_records sections records q.0)) sections 0 s below
    ∙ ap (λ n. section_record (section_at sections s) (part_records sections records n)) (zero-add s)

-- ---- sections without bytes in the file

passed_file : (walked : Bool) (a size : ℕ) (from : Offsets) (r : Record) → (walked ≡ true → IsPlacedAt false a size from r) → (passed walked r from).file ≡ from.file
passed_file true a size from r is = let placed = is refl in omega (arith, placed.in_file, placed.takes_file)
passed_file false a size from r is = refl

placed_unbacked : (setting : Setting) (s j : ℕ) (from to : Cursors) (records : List Record) → is_file_backed setting.plan s ≡ false → PlacesSection setting s from records to
    → j < part_count setting.plan.sections s → is_walked setting s (part_number setting.plan.sections s j) ≡ true
    → IsPlacedAt false (walk_alignment setting s (part_number setting.plan.sections s j)) (size_at setting.sizes (part_number setting.plan.sections s j))
    (reached setting s records (section_start setting s from) j) (record_at records (part_number setting.plan.sections s j))
placed_unbacked setting s j from to records unbacked h below walked =
    let p : ℕ = part_number setting.plan.sections s j in
    subst (λ b. IsPlacedAt b (walk_alignment setting s p) (size_at setting.sizes p) (reached setting s records (section_start setting s from) j) (record_at records p)) unbacked (h.walked j below walked)

reached_file : (setting : Setting) (s j : ℕ) (from to : Cursors) (records : List Record) → is_file_backed setting.plan s ≡ false → PlacesSection setting s from records to
    → j ≤ part_count setting.plan.sections s → (reached setting s records (section_start setting s from) j).file ≡ from.file
reached_file setting s zero from to records unbacked h le = refl
reached_file setting s (suc j) from to records unbacked h le =
    let p : ℕ = part_number setting.plan.sections s j in
    passed_file (is_walked setting s p) (walk_alignment setting s p) (size_at setting.sizes p) (reached setting s records (section_start setting s from) j) (record_at records p)
    (λ walked. placed_unbacked setting s j from to records unbacked h (omega arith) walked)
    ∙ reached_file setting s j from to records unbacked h (omega arith)

walked_file : (setting : Setting) (s j : ℕ) (from to : Cursors) (records : List Record) → is_file_backed setting.plan s ≡ false → PlacesSection setting s from records to
    → j < part_count setting.plan.sections s → is_walked setting s (part_number setting.plan.sections s j) ≡ true → (record_at records (part_number setting.plan.sections s j)).file_offset ≡ from.file
walked_file setting s j from to records unbacked h below walked =
    (placed_unbacked setting s j from to records unbacked h below walked).in_file ∙ reached_file setting s j from to records unbacked h (omega arith)

-- all its parts start where the file stands
pub part_file : (setting : Setting) (s j : ℕ) (from to : Cursors) (records : List Record) → IsReady setting → s < length setting.plan.sections → is_file_backed setting.plan s ≡ false
    → PlacesSection setting s from records to → j < part_count setting.plan.sections s → (record_at records (part_number setting.plan.sections s j)).file_offset ≡ from.file
part_file setting s j from to records ready there unbacked h below =
    let p : ℕ = part_number setting.plan.sections s j in
    elim (is_walked setting s p) as (λ b. is_walked setting s p ≡ b → (record_at records p).file_offset ≡ from.file) [
      | true ↦ λ is. walked_file setting s j from to records unbacked h below is
      | false ↦ λ is.
          let first = first_walked_place setting s ready there in
          let walked = ap (is_walked setting s) (sym first.1.is) ∙ first_is_walked setting s in
          (h.resting j below is).in_file ∙ ap (λ n. (record_at records n).file_offset) first.1.is
          ∙ walked_file setting s first.0 from to records unbacked h first.1.within walked
    ] refl

-- ---- sections with bytes

-- a section of which all parts are empty in the file has no bytes there
pub emptied : (setting : Setting) (records : List Record) (s c : ℕ) → length records ≡ length (all_parts setting.plan.sections) → s < length setting.plan.sections
    → ((j : ℕ) → j < part_count setting.plan.sections s
    → ((record_at records (part_number setting.plan.sections s j)).file_offset ≡ c) × ((record_at records (part_number setting.plan.sections s j)).file_size ≡ 0))
    → has_file_bytes (record_at (section_records setting.plan.sections records) s) ≡ false
emptied setting records s c each there empty =
    let parts : List Record = part_records setting.plan.sections records s in
    let all : AreEmptyAt c parts = λ j below.
    let within : j < part_count setting.plan.sections s = omega (arith, below, count_is setting records s each there) in
    let is = part_is setting records s j there within in
    let none = empty j within in
    (ap (λ (r : Record). r.file_offset) is ∙ none.0, ap (λ (r : Record). r.file_size) is ∙ none.1) in
    ap has_file_bytes (section_is setting records s there) ∙ ap (nat_lt 0) (hull_empty c parts all)

-- one with bytes is placed before the last state
section_early : (setting : Setting) (states : List Cursors) (records : List Record) (i s : ℕ) → IsSoundlySet setting states records → (h : HasSectionBytesIn setting.plan records i s)
    → s < length setting.plan.sections → h.k < length states - 1
section_early setting states records i s set h there =
    elim (cases_lt h.k (length states - 1)) [
      | inl early ↦ early
      | inr late ↦
          let none : (j : ℕ) → j < part_count setting.plan.sections s → record_at records (part_number setting.plan.sections s j) ≡ nowhere
          = λ j below. others_are_nowhere setting states records set.placed (part_number setting.plan.sections s j) (λ a.
          let part : HasPart setting.plan s (part_number setting.plan.sections s j) = record { from = omega arith; below = omega (arith, below, first_part-suc setting.plan.sections s there) } in
          let section : a.s ≡ s = section_one setting.plan a.s s (part_number setting.plan.sections s j) (placed_of setting (length states - 1) (part_number setting.plan.sections s j) set.ready a) part in
          let event : slice_get setting.plan.events a.k ≡ Some (Section s) = a.places ∙ ap (λ n. Some (Section n)) section in
          let same : a.k ≡ h.k = set.ready.events.once a.k h.k (Section s) tt event h.places.places.here in
          omega (arith, same, a.early, late)) in
          let no = emptied setting records s 0 set.placed.each there (λ j below. (ap (λ (r : Record). r.file_offset) (none j below), ap (λ (r : Record). r.file_size) (none j below))) in
          let yes = h.bytes in
          absurd (cc)
    ]

-- and takes bytes of the file
section_takes : (setting : Setting) (states : List Cursors) (records : List Record) (i s : ℕ) → IsSoundlySet setting states records → (h : HasSectionBytesIn setting.plan records i s)
    → s < length setting.plan.sections → h.k < length states - 1 → is_file_backed setting.plan s ≡ true
section_takes setting states records i s set h there early =
    elim (cases_Bool (is_file_backed setting.plan s)) [
      | inl backed ↦ backed
      | inr unbacked ↦
          let step = step_at setting states records h.k (Section s) set.ready set.placed early h.places.places.here in
          let no = emptied setting records s step.entered.file set.placed.each there (λ j below. (
            part_file setting s j step.entered (state_at states (h.k + 1)) records set.ready there unbacked step.places.placed below,
            unbacked_size setting s j step.entered (state_at states (h.k + 1)) records unbacked step.places.placed below,
          )) in
          let yes = h.bytes in
          absurd (cc)
    ]

-- ---- the law

backed_stands : (setting : Setting) (states : List Cursors) (records : List Record) (i s k : ℕ) → IsSoundlySet setting states records → IsPlain setting.plan setting.output
    → PlacesInLoad setting.plan i s k → is_file_backed setting.plan s ≡ true → k < length states - 1
    → (a : IsSectionAlong setting states records i s) × StartsAsFar (base_at states a.o) (record_at (section_records setting.plan.sections records) s)
backed_stands setting states records i s k set plain places backed early =
    let there = placed_in_range setting.plan (Section s) s (set.ready.events.in_range k (Section s) places.places.here) refl in
    let through : IsThrough setting states records i s k = record { set = set; plain = plain; places = places; backed = backed; early = early } in
    let a : IsSectionAlong setting states records i s = section_along setting states records i s k through in
    let base : Offsets = base_at states a.o in
    let parts : List Record = part_records setting.plan.sections records s in
    let count = count_is setting records s set.placed.each there in
    let all : (j : ℕ) → j < length parts → StartsAsFar base (slice_index_or parts j nowhere) = λ j below.
    let within : j < part_count setting.plan.sections s = omega (arith, below, count) in
    subst (StartsAsFar base) (sym (part_is setting records s j there within)) (a.far j within) in
    let some : 0 < length parts = omega (arith, count, has_part setting.plan.sections s set.ready.sections there) in
    let spans : StartsAsFar base (hull parts) = hull_as_far base parts some all in
    (a, subst (StartsAsFar base) (sym (section_is setting records s there)) spans)

-- two that stand as far as the base of one segment stand equally far
both_far : (setting : Setting) (states : List Cursors) (records : List Record) (i s t : ℕ) → IsSoundlySet setting states records
    → (a : IsSectionAlong setting states records i s) × StartsAsFar (base_at states a.o) (record_at (section_records setting.plan.sections records) s)
    → (b : IsSectionAlong setting states records i t) × StartsAsFar (base_at states b.o) (record_at (section_records setting.plan.sections records) t)
    → AreEquallyFar (record_at (section_records setting.plan.sections records) s) (record_at (section_records setting.plan.sections records) t)
both_far setting states records i s t set one two =
    let same : two.0.o ≡ one.0.o = set.ready.events.once two.0.o one.0.o (SegmentStart i) tt two.0.opens.here one.0.opens.here in
    let base : Offsets = base_at states one.0.o in
    let r : Record = record_at (section_records setting.plan.sections records) s in
    let q : Record = record_at (section_records setting.plan.sections records) t in
    equally r.mem_offset r.file_offset q.mem_offset q.file_offset base.memory base.file one.1 (subst (λ n. StartsAsFar (base_at states n) q) same two.1)

section_stands : (setting : Setting) (states : List Cursors) (records : List Record) (i s : ℕ) → IsSoundlySet setting states records → IsPlain setting.plan setting.output
    → (h : HasSectionBytesIn setting.plan records i s)
    → (a : IsSectionAlong setting states records i s) × StartsAsFar (base_at states a.o) (record_at (section_records setting.plan.sections records) s)
section_stands setting states records i s set plain h =
    let there = placed_in_range setting.plan (Section s) s (set.ready.events.in_range h.k (Section s) h.places.places.here) refl in
    let early = section_early setting states records i s set h there in
    backed_stands setting states records i s h.k set plain h.places (section_takes setting states records i s set h there early) early

pub plain_sections_keep_distance : PlainSectionsKeepDistance
plain_sections_keep_distance setting states records set plain i s t a b =
    both_far setting states records i s t set (section_stands setting states records i s set plain a) (section_stands setting states records i t set plain b)

-- where no event is refused, bytes aren't asked for
placed_early : (setting : Setting) (states : List Cursors) (i s k : ℕ) → length states ≡ length setting.plan.events + 1 → PlacesInLoad setting.plan i s k → k < length states - 1
placed_early setting states i s k whole places = omega (arith, whole, slice_get_within setting.plan.events k (Section s) places.places.here)

pub plain_backed_sections_keep_distance : PlainBackedSectionsKeepDistance
plain_backed_sections_keep_distance setting states records set plain whole i s t k m one two backed_one backed_two =
    both_far setting states records i s t set
    (backed_stands setting states records i s k set plain one backed_one (placed_early setting states i s k whole one))
    (backed_stands setting states records i t m set plain two backed_two (placed_early setting states i t m whole two))
