-- The records of sections have the alignments at which the sections were placed.
use Rattle.std.proofs.Common.{◌≡◌, ℕ, zero, suc, ◌+◌, ◌-◌, ◌<◌, ◌≤◌, max, min, Bool, true, false, cond, List, [], ◌∷◌, length, map, drop, refl, sym, ap, subst, ◌∙◌, arith, zero-add}
use Rattle.std.specs.Prelude.{◌==◌, ◌||◌, filter, if◌then◌else◌, nat_lt}
use Rattle.std.specs.List.{AllByRecursion, enumerate_from, slice_index_or}
use Rattle.std.proofs.Math.Nat.{le-max_right}
use Rattle.std.proofs.lemmas.List.{get_or-drop, get_or-take, length-drop, length-take}
use Rattle.std.proofs.lemmas.List.Concat.{get_or-flat_map}
use Rattle.std.proofs.lemmas.List.Elements.{recursion_from_All}
use Rattle.std.proofs.lemmas.Option.{slice_get_within}
use Rattle.std.proofs.lemmas.List.FromFn.{get_or-enumerate_from, length-enumerate_from}
use Rattle.lk_link.specs.declared.plan.PlanPart.{PlanPart}
use Rattle.lk_link.specs.declared.plan.PlanSection.{PlanSection}
use Rattle.lk_link.specs.declared.plan.OrderEvent.TheVariants.{Section}
use Rattle.lk_link.specs.Inside.{sections_inside}
use Rattle.lk_link.specs.Parts.{all_parts, first_part, part_at}
use Rattle.lk_link.specs.PlanSections.{no_section, section_at}
use Rattle.lk_link.proofs.PartNumbers.{first_part-le, first_part-suc}
use Rattle.lk_place.specs.declared.cursors.Cursors.{Cursors}
use Rattle.lk_place.specs.Alignments.{greatest_alignment, greatest_of, numbered_parts, section_alignment}
use Rattle.lk_place_laws.specs.Laws.{RecordsKeepAlignments}
use Rattle.lk_place.specs.Placement.{IsPlaced, first_walked, is_walked, state_at}
use Rattle.lk_place.specs.CarriedOut.{PlacesSection}
use Rattle.lk_expressions.specs.Records.{Record, is_filled, nowhere, record_at}
use Rattle.lk_place.specs.Segments.{part_records, section_record, section_records}
use Rattle.lk_place.specs.Setting.{IsReady, Setting, has_bytes, part_count, part_number}
use Rattle.lk_place.proofs.AlignmentLaws.{greatest_of-least}
use Rattle.lk_place.proofs.Insides.{inside_in_range}
use Rattle.lk_place.proofs.Steps.{step_at}

-- ---- the greatest of those that pass

-- it is at least each of them
reaches_filled : {X : Type 0} (f : X → Bool) (g : X → ℕ) (xs : List X) (j least : ℕ) (d : X) → j < length xs → f (slice_index_or xs j d) ≡ true → g (slice_index_or xs j d) ≤ greatest_of least (map g (filter f xs))
reaches_filled f g [] j least d below passes = absurd (omega arith)
reaches_filled {X} f g (x ∷ xs) zero least d below passes =
    subst (λ b. g x ≤ greatest_of least (map g (cond b (x ∷ filter f xs) (filter f xs)))) (sym passes)
    (omega (arith, greatest_of-least (max least (g x)) (map g (filter f xs)), le-max_right least (g x)))
reaches_filled {X} f g (x ∷ xs) (suc j) least d below passes =
    elim (f x) as (λ b. g (slice_index_or xs j d) ≤ greatest_of least (map g (cond b (x ∷ filter f xs) (filter f xs)))) [
      | true ↦ reaches_filled f g xs j (max least (g x)) d (omega arith) passes
      | false ↦ reaches_filled f g xs j least d (omega arith) passes
    ]

-- and at most what all of them are at most
within_filled : {X : Type 0} (f : X → Bool) (g : X → ℕ) (xs : List X) (least most : ℕ) (d : X) → least ≤ most
    → ((j : ℕ) → j < length xs → f (slice_index_or xs j d) ≡ true → g (slice_index_or xs j d) ≤ most) → greatest_of least (map g (filter f xs)) ≤ most
within_filled f g [] least most d le each = le
within_filled {X} f g (x ∷ xs) least most d le each =
    let later : (j : ℕ) → j < length xs → f (slice_index_or xs j d) ≡ true → g (slice_index_or xs j d) ≤ most = λ j below passes. each (suc j) (omega arith) passes in
    elim (f x) as (λ b. f x ≡ b → greatest_of least (map g (cond b (x ∷ filter f xs) (filter f xs))) ≤ most) [
      | true ↦ λ is. within_filled f g xs (max least (g x)) most d (let here = each 0 (omega arith) is in omega (arith, here)) later
      | false ↦ λ is. within_filled f g xs least most d le later
    ] refl

-- ---- the parts of a section

abbrev no_part : PlanPart
no_part = record { alignment = 1; packed = false }

-- a part of a section is the one with its number
part_is : (sections : List PlanSection) (s j : ℕ) (d : PlanPart) → s < length sections → j < part_count sections s
    → slice_index_or (all_parts sections) (part_number sections s j) d ≡ slice_index_or (section_at sections s).parts j d
part_is sections s j d below within = get_or-flat_map (λ (x : PlanSection). x.parts) sections s j no_section d below within

-- as many records as parts
records_count : (setting : Setting) (records : List Record) (s : ℕ) → length records ≡ length (all_parts setting.plan.sections) → s < length setting.plan.sections
    → length (part_records setting.plan.sections records s) ≡ part_count setting.plan.sections s
records_count setting records s each below =
    omega (
      arith,
      length-take (first_part setting.plan.sections (s + 1) - first_part setting.plan.sections s) (drop (first_part setting.plan.sections s) records),
      length-drop (first_part setting.plan.sections s) records,
      each,
      first_part-suc setting.plan.sections s below,
      first_part-le setting.plan.sections (s + 1),
    )

-- each is that of its part
record_is : (setting : Setting) (records : List Record) (s j : ℕ) → s < length setting.plan.sections → j < part_count setting.plan.sections s
    → slice_index_or (part_records setting.plan.sections records s) j nowhere ≡ record_at records (part_number setting.plan.sections s j)
record_is setting records s j below within =
    let first : ℕ = first_part setting.plan.sections s in
    let next : ℕ = first_part setting.plan.sections (s + 1) in
    get_or-take (next - first) (drop first records) j nowhere (omega (arith, first_part-suc setting.plan.sections s below)) ∙ get_or-drop first records j nowhere

-- ---- the records of a section's parts

-- of two, neither is above the greatest, and the own one isn't above what is taken
taken : (first : Bool) (own greatest : ℕ) → own ≤ greatest → (own ≤ (if first then greatest else min own greatest)) × ((if first then greatest else min own greatest) ≤ greatest)
taken true own greatest le = (le, omega arith)
taken false own greatest le = (omega arith, omega arith)

at_most : (first : Bool) (own greatest : ℕ) → (if first then greatest else min own greatest) ≤ greatest
at_most true own greatest = omega arith
at_most false own greatest = omega arith

-- a record with bytes is at most at its section's alignment
filled_within : (setting : Setting) (s j : ℕ) (from to : Cursors) (records : List Record) → PlacesSection setting s from records to → j < part_count setting.plan.sections s
    → is_filled (record_at records (part_number setting.plan.sections s j)) ≡ true → (record_at records (part_number setting.plan.sections s j)).alignment ≤ section_alignment setting s
filled_within setting s j from to records h below filled =
    let p : ℕ = part_number setting.plan.sections s j in
    elim (is_walked setting s p) as (λ b. is_walked setting s p ≡ b → (record_at records p).alignment ≤ section_alignment setting s) [
      | true ↦ λ is. omega (arith, (h.walked j below is).aligned, at_most (p == first_walked setting s) (part_at setting.plan.sections p).alignment (section_alignment setting s))
      | false ↦ λ is. let none : is_filled (record_at records p) ≡ false = ap (nat_lt 0) (h.resting j below is).takes in absurd (cc)
    ] refl

-- a part with bytes has a record with bytes, at least at its own alignment
filled_own : (setting : Setting) (s j : ℕ) (from to : Cursors) (records : List Record) → PlacesSection setting s from records to → j < part_count setting.plan.sections s
    → has_bytes setting.sizes (part_number setting.plan.sections s j) ≡ true → (part_at setting.plan.sections (part_number setting.plan.sections s j)).alignment ≤ section_alignment setting s
    → (is_filled (record_at records (part_number setting.plan.sections s j)) ≡ true)
    × ((part_at setting.plan.sections (part_number setting.plan.sections s j)).alignment ≤ (record_at records (part_number setting.plan.sections s j)).alignment)
filled_own setting s j from to records h below bytes le =
    let p : ℕ = part_number setting.plan.sections s j in
    let walked : is_walked setting s p ≡ true = ap (λ b. b || (p == first_walked setting s)) bytes in
    let there = h.walked j below walked in (
      ap (nat_lt 0) there.takes ∙ bytes,
      omega (arith, there.aligned, (taken (p == first_walked setting s) (part_at setting.plan.sections p).alignment (section_alignment setting s) le).0),
    )

-- the alignment of a placed section's record is its greatest
section_keeps : (setting : Setting) (s : ℕ) (from to : Cursors) (records : List Record) → length records ≡ length (all_parts setting.plan.sections) → s < length setting.plan.sections
    → PlacesSection setting s from records to
    → (section_record (section_at setting.plan.sections s) (part_records setting.plan.sections records s)).alignment ≡ section_alignment setting s
section_keeps setting s from to records each below h =
    let sections : List PlanSection = setting.plan.sections in
    let least : ℕ = (section_at sections s).align in
    let parts : List Record = part_records sections records s in
    let numbered : List (ℕ × PlanPart) = numbered_parts setting.plan s in
    let greatest : ℕ = section_alignment setting s in
    let count : length parts ≡ part_count sections s = records_count setting records s each below in
    let amount : length numbered ≡ part_count sections s = length-enumerate_from (first_part sections s) (section_at sections s).parts in
    let read : ℕ × PlanPart → ℕ = λ q. q.1.alignment in
    let shown : ℕ × PlanPart → Bool = λ q. has_bytes setting.sizes q.0 in
    let d : ℕ × PlanPart = (0, no_part) in
    let part : (j : ℕ) → j < part_count sections s → slice_index_or numbered j d ≡ (part_number sections s j, part_at sections (part_number sections s j))
    = λ j within.
    get_or-enumerate_from (first_part sections s) (section_at sections s).parts j d within
    ∙ ap (λ (x : PlanPart). (part_number sections s j, x)) (sym (part_is sections s j no_part below within)) in
    let up : greatest_of least (map (λ r. r.alignment) (filter is_filled parts)) ≤ greatest
    = within_filled is_filled (λ r. r.alignment) parts least greatest nowhere (greatest_of-least least (map read (filter shown numbered)))
    (λ j within filled.
    let inside : j < part_count sections s = omega (arith, count) in
    let is = record_is setting records s j below inside in
    subst (λ (r : Record). r.alignment ≤ greatest) (sym is) (filled_within setting s j from to records h inside (ap is_filled (sym is) ∙ filled))) in
    let down : greatest ≤ greatest_of least (map (λ r. r.alignment) (filter is_filled parts))
    = within_filled shown read numbered least (greatest_of least (map (λ r. r.alignment) (filter is_filled parts))) d (greatest_of-least least (map (λ r. r.alignment) (filter is_filled parts)))
    (λ j within bytes.
    let inside : j < part_count sections s = omega (arith, amount) in
    let is = part j inside in
    let own : (part_at sections (part_number sections s j)).alignment ≤ greatest = subst (λ (q : ℕ × PlanPart). q.1.alignment ≤ greatest) is (reaches_filled shown read numbered j least d within bytes) in
    let placed = filled_own setting s j from to records h inside (ap shown (sym is) ∙ bytes) own in
    let there = record_is setting records s j below inside in
    let reached = reaches_filled is_filled (λ r. r.alignment) parts j least nowhere (omega (arith, count)) (ap is_filled there ∙ placed.0) in
    omega (arith, ap read is, ap (λ (r : Record). r.alignment) there, placed.1, reached)) in
    omega (arith, up, down)

-- ---- all sections

-- the record of a section among all
record_of : (f : ℕ × PlanSection → Record) (xs : List PlanSection) (o s : ℕ) → s < length xs → slice_index_or (map f (enumerate_from o xs)) s nowhere ≡ f (o + s, section_at xs s)
record_of f [] o s below = absurd (omega arith)
record_of f (x ∷ xs) o zero below = ap (λ n. f (n, x)) (omega arith)
record_of f (x ∷ xs) o (suc s) below = record_of f xs (o + 1) s (omega arith) ∙ ap (λ n. f (n, section_at xs s)) (omega arith)

each_keeps : (setting : Setting) (states : List Cursors) (records : List Record) → IsReady setting → IsPlaced setting states records → length states ≡ length setting.plan.events + 1
    → (s : ℕ) → s < length setting.plan.sections → (record_at (section_records setting.plan.sections records) s).alignment ≡ section_alignment setting s
each_keeps setting states records ready is whole s below =
    let sections : List PlanSection = setting.plan.sections in
    let event = ready.events.placed s below in
    let early : event.0 < length states - 1 = omega (arith, whole, slice_get_within setting.plan.events event.0 (Section s) event.1) in
    let step = step_at setting states records event.0 (Section s) ready is early event.1 in
    let there : record_at (section_records sections records) s ≡ section_record (section_at sections s) (part_records sections records s)
    = record_of (λ q. section_record q.1 (part_records sections records q.0)) sections 0 s below ∙ ap (λ n. section_record (section_at sections s) (part_records sections records n)) (zero-add s) in
    ap (λ (r : Record). r.alignment) there ∙ section_keeps setting s step.entered (state_at states (event.0 + 1)) records is.each below step.places.placed

-- what the records of some sections say is their alignments
all_keep : (setting : Setting) (records : List Record) → ((s : ℕ) → s < length setting.plan.sections → (record_at (section_records setting.plan.sections records) s).alignment ≡ section_alignment setting s)
    → (some : List ℕ) → AllByRecursion (λ s. s < length setting.plan.sections) some
    → map (λ s. (record_at (section_records setting.plan.sections records) s).alignment) some ≡ map (greatest_alignment setting.plan setting.sizes) some
all_keep setting records keeps [] below = refl
all_keep setting records keeps (s ∷ some) below =
    let here = keeps s below.0 in
    let rest = all_keep setting records keeps some below.1 in
    cc

pub records_keep_alignments : RecordsKeepAlignments
records_keep_alignments setting states records ready is whole =
    let keeps = each_keeps setting states records ready is whole in
    record {
      section = keeps;
      segment = λ i. ap (greatest_of setting.plan.page)
          (all_keep setting records keeps (sections_inside setting.plan.events i)
          (recursion_from_All (λ s. s < length setting.plan.sections) (sections_inside setting.plan.events i) (inside_in_range setting.plan i ready.events)));
    }
