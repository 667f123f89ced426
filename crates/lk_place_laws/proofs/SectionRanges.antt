-- What sections span is apart, as their parts stand between the cursors round their events.
use Rattle.std.proofs.Common.{◌≡◌, ◌≢◌, ℕ, suc, ◌+◌, ◌-◌, ◌≤◌, ◌<◌, ◌⊎◌, Bool, true, false, List, [], ◌∷◌, length, map, Some, None, Option, refl, sym, ap, subst, ◌∙◌, inl, inr, arith, fold, add-one}
use Rattle.std.specs.Prelude.{max, min, slice_get, if◌then◌else◌, unwrap_or}
use Rattle.std.specs.List.{slice_index_or}
use Rattle.std.proofs.lemmas.Bool.{and_parts, cases_lt, not-true}
use Rattle.std.proofs.lemmas.Option.{slice_get_within}
use Rattle.lk_link.specs.declared.plan.OrderEvent.TheVariants.{Section}
use Rattle.lk_link.specs.Parts.{all_parts, part_at}
use Rattle.lk_link.specs.PlanSections.{has_memory, is_allocated, is_file_backed, is_zero_fill_thread_local, section_at}
use Rattle.lk_expressions.specs.Records.{Record, file_end, mem_end, nowhere, record_at}
use Rattle.lk_place.specs.declared.cursors.Cursors.{Cursors}
use Rattle.lk_place.specs.declared.cursors.Offsets.{Offsets}
use Rattle.lk_place_laws.specs.Laws.{IsSoundlySet}
use Rattle.lk_place.specs.Placement.{first_walked, IsPlaced, is_walked, known_before, section_start, state_at, walk_alignment}
use Rattle.lk_place.specs.CarriedOut.{IsRestingAt, PlacesSection, reached}
use Rattle.lk_place.specs.Plain.{IsPlain}
use Rattle.lk_place.specs.Segments.{hull, part_records, section_record}
use Rattle.lk_place.specs.Setting.{IsReady, Setting, part_count, part_number, size_at}
use Rattle.lk_place.specs.ThreadLocal.{free_memory}
use Rattle.lk_place.proofs.Checked.{has_part}
use Rattle.lk_place.proofs.Insides.{placed_in_range}
use Rattle.lk_place.proofs.Moves.{file_grows}
use Rattle.lk_place_laws.proofs.MemoryMoves.{enters}
use Rattle.lk_place.proofs.Ranges.{AreRanges, file_ranges, memory_ranges, passed, rises}
use Rattle.lk_place_laws.proofs.SectionDistances.{count_is, part_is, section_is}
use Rattle.lk_place.proofs.SectionEnds.{first_is_walked, first_walked_place}
use Rattle.lk_place.proofs.Steps.{file_rises, step_at}
use Rattle.lk_place_laws.proofs.MemorySteps.{addressed, memory_rises, never_waits, plain_plan}
use Rattle.lk_place_laws.specs.SectionRanges.{FileSectionsAreApart, FileSectionsRise, PlainMemorySectionsAreApart, PlainMemorySectionsRise, span_of}

-- ---- hulls lie where all lies

least_from : (f : Record → ℕ) (low n : ℕ) (rs : List Record) → low ≤ n → ((j : ℕ) → j < length rs → low ≤ f (slice_index_or rs j nowhere)) → low ≤ fold min n (map f rs)
least_from f low n [] h each = h
least_from f low n (r ∷ rs) h each =
    let here : low ≤ f r = each 0 (omega arith) in
    least_from f low (min n (f r)) rs (omega arith) (λ j below. each (suc j) (omega arith))

pub least_below : (f : Record → ℕ) (high n : ℕ) (rs : List Record) → n ≤ high → fold min n (map f rs) ≤ high
least_below f high n [] h = h
least_below f high n (r ∷ rs) h = least_below f high (min n (f r)) rs (omega arith)

greatest_below : (f : Record → ℕ) (high n : ℕ) (rs : List Record) → n ≤ high → ((j : ℕ) → j < length rs → f (slice_index_or rs j nowhere) ≤ high) → fold max n (map f rs) ≤ high
greatest_below f high n [] h each = h
greatest_below f high n (r ∷ rs) h each =
    let here : f r ≤ high = each 0 (omega arith) in
    greatest_below f high (max n (f r)) rs (omega arith) (λ j below. each (suc j) (omega arith))

-- from a start on, up to an end that lies where all does
ends_below : (first last high : ℕ) → first ≤ high → last ≤ high → first + (last - first) ≤ high
ends_below first last high h k = omega arith

-- all ranges lie between two places
abbrev pub LieBetween : (Record → ℕ) → (Record → ℕ) → ℕ → ℕ → List Record → Type 0
LieBetween begin end low high rs = (j : ℕ) → j < length rs → (low ≤ begin (slice_index_or rs j nowhere)) × (end (slice_index_or rs j nowhere) ≤ high)

pub hull_in_file : (low high : ℕ) (rs : List Record) → 0 < length rs → LieBetween (λ r. r.file_offset) file_end low high rs → (low ≤ (hull rs).file_offset) × (file_end (hull rs) ≤ high)
hull_in_file low high [] some each = absurd (omega arith)
hull_in_file low high (r ∷ rs) some each =
    let here = each 0 (omega arith) in
    let first : ℕ = fold min r.file_offset (map (λ q. q.file_offset) rs) in
    let last : ℕ = fold max (file_end r) (map file_end rs) in (
      least_from (λ q. q.file_offset) low r.file_offset rs here.0 (λ j below. (each (suc j) (omega arith)).0),
      ends_below first last high (least_below (λ q. q.file_offset) high r.file_offset rs (omega (arith, here.1))) (greatest_below file_end high (file_end r) rs here.1 (λ j below. (each (suc j) (omega arith)).1)),
    )

pub hull_in_memory : (low high : ℕ) (rs : List Record) → 0 < length rs → LieBetween (λ r. r.mem_offset) mem_end low high rs → (low ≤ (hull rs).mem_offset) × (mem_end (hull rs) ≤ high)
hull_in_memory low high [] some each = absurd (omega arith)
hull_in_memory low high (r ∷ rs) some each =
    let here = each 0 (omega arith) in
    let first : ℕ = fold min r.mem_offset (map (λ q. q.mem_offset) rs) in
    let last : ℕ = fold max (mem_end r) (map mem_end rs) in (
      least_from (λ q. q.mem_offset) low r.mem_offset rs here.0 (λ j below. (each (suc j) (omega arith)).0),
      ends_below first last high (least_below (λ q. q.mem_offset) high r.mem_offset rs (omega (arith, here.1))) (greatest_below mem_end high (mem_end r) rs here.1 (λ j below. (each (suc j) (omega arith)).1)),
    )

-- ---- the parts of a section lie between the cursors round it

module _ (begin end : Record → ℕ) (cursor : Offsets → ℕ) (kind : AreRanges begin end cursor) (starts : (own : ℕ) (first r : Record) → IsRestingAt own first r → begin r ≡ begin first)
    (setting : Setting) (s : ℕ) (entered to : Cursors) (records : List Record) (ready : IsReady setting) (there : s < length setting.plan.sections) (h : PlacesSection setting s entered records to) where
  -- where the first j parts end
  abbrev ends_at : ℕ → ℕ
  ends_at j = cursor (reached setting s records (section_start setting s entered) j)

  -- the j-th part
  abbrev part : ℕ → Record
  part j = record_at records (part_number setting.plan.sections s j)

  -- a walked part
  passes : (j : ℕ) → j < part_count setting.plan.sections s → (b : Bool) → is_walked setting s (part_number setting.plan.sections s j) ≡ b
      → ends_at j ≤ cursor (passed b (part j) (reached setting s records (section_start setting s entered) j))
  passes j below true walked =
      let after = kind.after (is_file_backed setting.plan s) (walk_alignment setting s (part_number setting.plan.sections s j)) (size_at setting.sizes (part_number setting.plan.sections s j))
      (reached setting s records (section_start setting s entered) j) (part j) (h.walked j below walked) in
      omega (arith, after, kind.rises (part j), kind.behind (part j))
  passes j below false walked = omega arith

  step : (j : ℕ) → j < part_count setting.plan.sections s → ends_at j ≤ ends_at (j + 1)
  step j below = subst (λ n. ends_at j ≤ ends_at n) (sym (add-one j)) (passes j below (is_walked setting s (part_number setting.plan.sections s j)) refl)

  walked_inside : (j : ℕ) → j < part_count setting.plan.sections s → is_walked setting s (part_number setting.plan.sections s j) ≡ true
      → (ends_at 0 ≤ begin (part j)) × (end (part j) ≤ ends_at (part_count setting.plan.sections s))
  walked_inside j below walked =
      let count : ℕ = part_count setting.plan.sections s in
      let after = kind.after (is_file_backed setting.plan s) (walk_alignment setting s (part_number setting.plan.sections s j)) (size_at setting.sizes (part_number setting.plan.sections s j))
      (reached setting s records (section_start setting s entered) j) (part j) (h.walked j below walked) in
      let behind : ends_at (suc j) ≡ end (part j) = ap (λ b. cursor (passed b (part j) (reached setting s records (section_start setting s entered) j))) walked ∙ kind.behind (part j) in
      let low = rises ends_at count step 0 j (omega arith) (omega arith) in
      let high = rises ends_at count step (j + 1) count (omega arith) (omega arith) in
      let next : ends_at (j + 1) ≡ ends_at (suc j) = ap ends_at (add-one j) in
      (omega (arith, after, low), omega (arith, behind, next, high))

  inside : (j : ℕ) → j < part_count setting.plan.sections s → (b : Bool) → is_walked setting s (part_number setting.plan.sections s j) ≡ b
      → (ends_at 0 ≤ begin (part j)) × (end (part j) ≤ ends_at (part_count setting.plan.sections s))
  inside j below true is = walked_inside j below is
  inside j below false is =
      let own : ℕ = (part_at setting.plan.sections (part_number setting.plan.sections s j)).alignment in
      let first = first_walked_place setting s ready there in
      let walked = ap (is_walked setting s) (sym first.1.is) ∙ first_is_walked setting s in
      let around = walked_inside first.0 first.1.within walked in
      let rests = h.resting j below is in
      let begins : begin (part j) ≡ begin (part first.0) = starts own (record_at records (first_walked setting s)) (part j) rests ∙ ap (λ n. begin (record_at records n)) first.1.is in
      let ends = kind.rests own (record_at records (first_walked setting s)) (part j) rests in
      let full = kind.rises (part first.0) in
      (omega (arith, begins, around.0), omega (arith, begins, ends, full, around.1))

-- ---- the records of a section's parts

-- ranges of all parts of a section are those of its records
pub all_between : (begin end : Record → ℕ) (setting : Setting) (records : List Record) (s low high : ℕ) → length records ≡ length (all_parts setting.plan.sections) → s < length setting.plan.sections
    → ((j : ℕ) → j < part_count setting.plan.sections s → (low ≤ begin (record_at records (part_number setting.plan.sections s j))) × (end (record_at records (part_number setting.plan.sections s j)) ≤ high))
    → LieBetween begin end low high (part_records setting.plan.sections records s)
all_between begin end setting records s low high each there around j below =
    let within : j < part_count setting.plan.sections s = omega (arith, below, count_is setting records s each there) in
    subst (λ r. (low ≤ begin r) × (end r ≤ high)) (sym (part_is setting records s j there within)) (around j within)

-- a section has a part, and so a record of one
pub some_part : (setting : Setting) (records : List Record) (s : ℕ) → IsReady setting → length records ≡ length (all_parts setting.plan.sections) → s < length setting.plan.sections
    → 0 < length (part_records setting.plan.sections records s)
some_part setting records s ready each there = omega (arith, count_is setting records s each there, has_part setting.plan.sections s ready.sections there)

-- ---- sections between the cursors round their events

file_between : (setting : Setting) (states : List Cursors) (records : List Record) → IsReady setting → IsPlaced setting states records → (s k : ℕ) → s < length setting.plan.sections
    → k < length states - 1 → slice_get setting.plan.events k ≡ Some (Section s)
    → ((state_at states k).file ≤ (span_of setting records s).file_offset) × (file_end (span_of setting records s) ≤ (state_at states (k + 1)).file)
file_between setting states records ready placed s k there less here =
    let step = step_at setting states records k (Section s) ready placed less here in
    let from : Cursors = state_at states k in
    let to : Cursors = state_at states (k + 1) in
    let places : PlacesSection setting s step.entered records to = step.places.placed in
    let end : Offsets = reached setting s records (section_start setting s step.entered) (part_count setting.plan.sections s) in
    let last : to.file ≡ end.file = ap (λ (c : Cursors). c.file) places.leaves in
    let grows = file_grows setting (known_before setting states records k) (Section s) from step.entered step.moves in
    let parts : List Record = part_records setting.plan.sections records s in
    let around = all_between (λ r. r.file_offset) file_end setting records s step.entered.file end.file placed.each there
    (λ j below. inside (λ r. r.file_offset) file_end (λ c. c.file) file_ranges (λ own first r rests. rests.in_file) setting s step.entered to records ready there places j below
    (is_walked setting s (part_number setting.plan.sections s j)) refl) in
    let spans = hull_in_file step.entered.file end.file parts (some_part setting records s ready placed.each there) around in
    let is : span_of setting records s ≡ section_record (section_at setting.plan.sections s) parts = section_is setting records s there in
    (omega (arith, grows, spans.0, ap (λ (r : Record). r.file_offset) is), omega (arith, spans.1, last, ap file_end is))

memory_between : (setting : Setting) (states : List Cursors) (records : List Record) → IsSoundlySet setting states records → IsPlain setting.plan setting.output → (s k : ℕ) → s < length setting.plan.sections
    → k < length states - 1 → slice_get setting.plan.events k ≡ Some (Section s) → has_memory setting.plan s ≡ true
    → (free_memory (state_at states k) ≤ (span_of setting records s).mem_offset) × (mem_end (span_of setting records s) ≤ free_memory (state_at states (k + 1)))
memory_between setting states records set plain s k there less here memory =
    let unmoved = plain_plan setting.plan setting.output plain in
    let step = step_at setting states records k (Section s) set.ready set.placed less here in
    let has = and_parts (is_allocated setting.plan s) _ memory in
    let from : Cursors = state_at states k in
    let to : Cursors = state_at states (k + 1) in
    let quiet : from.pending ≡ None = never_waits setting states records set.ready set.placed unmoved k (omega arith) in
    let taken = (enters setting (known_before setting states records k) s from step.entered unmoved.free quiet step.moves).taken (not-true (is_zero_fill_thread_local setting.plan s) has.1) in
    let places : PlacesSection setting s step.entered records to = step.places.placed in
    let unsaved : to.saved ≡ None = ap (λ (c : Cursors). c.saved) places.leaves ∙ taken.1 in
    let behind : free_memory to ≡ to.memory = ap (λ (o : Option ℕ). unwrap_or o to.memory) unsaved in
    let takes = addressed setting s has.0 plain.whole in
    let end : Offsets = reached setting s records (section_start setting s step.entered) (part_count setting.plan.sections s) in
    let begins : (section_start setting s step.entered).memory ≡ step.entered.memory = ap (λ b. if b then step.entered.memory else 0) takes in
    let ends : end.memory ≡ to.memory = sym (ap (λ (c : Cursors). c.memory) places.leaves ∙ ap (λ b. if b then end.memory else step.entered.memory) takes) in
    let parts : List Record = part_records setting.plan.sections records s in
    let around = all_between (λ r. r.mem_offset) mem_end setting records s (section_start setting s step.entered).memory end.memory set.placed.each there
    (λ j below. inside (λ r. r.mem_offset) mem_end (λ c. c.memory) memory_ranges (λ own first r rests. rests.at) setting s step.entered to records set.ready there places j below
    (is_walked setting s (part_number setting.plan.sections s j)) refl) in
    let spans = hull_in_memory (section_start setting s step.entered).memory end.memory parts (some_part setting records s set.ready set.placed.each there) around in
    let is : span_of setting records s ≡ section_record (section_at setting.plan.sections s) parts = section_is setting records s there in (
      omega (arith, taken.0, begins, spans.0, ap (λ (r : Record). r.mem_offset) is),
      omega (arith, spans.1, ends, behind, ap mem_end is),
    )

-- ---- two sections

-- what lies between the cursors round different events is apart
apart_by_events : (at : ℕ → ℕ) (n : ℕ) → ((k : ℕ) → k < n → at k ≤ at (k + 1)) → (k m b e c f : ℕ) → k < n → m < n → k ≢ m → at k ≤ b → e ≤ at (k + 1) → at m ≤ c → f ≤ at (m + 1)
    → (e ≤ c) ⊎ (f ≤ b)
apart_by_events at n step k m b e c f one two other low high low' high' =
    elim (cases_lt k m) [
      | inl less ↦ inl (omega (arith, high, low', rises at n step (k + 1) m (omega arith) (omega arith)))
      | inr more ↦ inr (omega (arith, low, high', rises at n step (m + 1) k (omega (arith, other)) (omega arith)))
    ]

-- different sections are placed by different events
events_differ : (setting : Setting) (s t k m : ℕ) → s ≢ t → slice_get setting.plan.events k ≡ Some (Section s) → slice_get setting.plan.events m ≡ Some (Section t) → k ≢ m
events_differ setting s t k m other here there same =
    let named : Some (Section s) ≡ Some (Section t) = sym here ∙ ap (slice_get setting.plan.events) same ∙ there in
    let section : s ≡ t = cc in
    other section

pub early : (setting : Setting) (states : List Cursors) (k s : ℕ) → length states ≡ length setting.plan.events + 1 → slice_get setting.plan.events k ≡ Some (Section s) → k < length states - 1
early setting states k s whole here = omega (arith, whole, slice_get_within setting.plan.events k (Section s) here)

pub file_sections_are_apart : FileSectionsAreApart
file_sections_are_apart setting states records ready placed whole s t other one two =
    let a = ready.events.placed s one in
    let b = ready.events.placed t two in
    let first = early setting states a.0 s whole a.1 in
    let second = early setting states b.0 t whole b.1 in
    let r = file_between setting states records ready placed s a.0 one first a.1 in
    let q = file_between setting states records ready placed t b.0 two second b.1 in
    apart_by_events (λ k. (state_at states k).file) (length states - 1) (file_rises setting states records ready placed) a.0 b.0
    (span_of setting records s).file_offset (file_end (span_of setting records s)) (span_of setting records t).file_offset (file_end (span_of setting records t))
    first second (events_differ setting s t a.0 b.0 other a.1 b.1) r.0 r.1 q.0 q.1

pub plain_memory_sections_are_apart : PlainMemorySectionsAreApart
plain_memory_sections_are_apart setting states records set plain whole s t other one two has_one has_two =
    let a = set.ready.events.placed s one in
    let b = set.ready.events.placed t two in
    let first = early setting states a.0 s whole a.1 in
    let second = early setting states b.0 t whole b.1 in
    let r = memory_between setting states records set plain s a.0 one first a.1 has_one in
    let q = memory_between setting states records set plain t b.0 two second b.1 has_two in
    apart_by_events (λ k. free_memory (state_at states k)) (length states - 1) (memory_rises setting states records set (plain_plan setting.plan setting.output plain)) a.0 b.0
    (span_of setting records s).mem_offset (mem_end (span_of setting records s)) (span_of setting records t).mem_offset (mem_end (span_of setting records t))
    first second (events_differ setting s t a.0 b.0 other a.1 b.1) r.0 r.1 q.0 q.1

-- ---- in order

-- what an earlier event places ends where or before what a later one does starts
in_order : (at : ℕ → ℕ) (n : ℕ) → ((k : ℕ) → k < n → at k ≤ at (k + 1)) → (k m e c : ℕ) → k < m → m < n → e ≤ at (k + 1) → at m ≤ c → e ≤ c
in_order at n step k m e c less within high low = omega (arith, high, low, rises at n step (k + 1) m (omega arith) (omega arith))

placed_there : (setting : Setting) (s k : ℕ) → IsReady setting → slice_get setting.plan.events k ≡ Some (Section s) → s < length setting.plan.sections
placed_there setting s k ready here = placed_in_range setting.plan (Section s) s (ready.events.in_range k (Section s) here) refl

pub file_sections_rise : FileSectionsRise
file_sections_rise setting states records ready placed whole s t k m less here there =
    let first = early setting states k s whole here in
    let second = early setting states m t whole there in
    let r = file_between setting states records ready placed s k (placed_there setting s k ready here) first here in
    let q = file_between setting states records ready placed t m (placed_there setting t m ready there) second there in
    in_order (λ n. (state_at states n).file) (length states - 1) (file_rises setting states records ready placed) k m
    (file_end (span_of setting records s)) (span_of setting records t).file_offset less second r.1 q.0

pub plain_memory_sections_rise : PlainMemorySectionsRise
plain_memory_sections_rise setting states records set plain whole s t k m less here there has_one has_two =
    let first = early setting states k s whole here in
    let second = early setting states m t whole there in
    let r = memory_between setting states records set plain s k (placed_there setting s k set.ready here) first here has_one in
    let q = memory_between setting states records set plain t m (placed_there setting t m set.ready there) second there has_two in
    in_order (λ n. free_memory (state_at states n)) (length states - 1) (memory_rises setting states records set (plain_plan setting.plan setting.output plain)) k m
    (mem_end (span_of setting records s)) (span_of setting records t).mem_offset less second r.1 q.0
