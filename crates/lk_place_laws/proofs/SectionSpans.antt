-- What each section spans: it ends below 2^64, and where it has bytes of the file it has some in memory.
use Rattle.std.proofs.Common.{◌≡◌, ℕ, zero, suc, ◌+◌, ◌-◌, ◌≤◌, ◌<◌, ◌^◌, Bool, true, false, List, [], ◌∷◌, length, map, refl, sym, ap, ◌∙◌, inl, inr, arith, fold}
use Rattle.std.specs.Prelude.{max, min, nat_lt, ◌==◌, ◌||◌, if◌then◌else◌}
use Rattle.std.specs.List.{slice_index_or}
use Rattle.std.proofs.lemmas.Bool.{cases_Bool, eqb-true}
use Rattle.std.proofs.lemmas.Bool.Decides.{nat_tests}
use Rattle.lk_link.specs.declared.plan.OrderEvent.TheVariants.{Section}
use Rattle.lk_link.specs.Parts.{all_parts}
use Rattle.lk_link.specs.PlanSections.{is_file_backed, section_at}
use Rattle.lk_expressions.specs.Records.{Fits, Record, file_end, is_filled, mem_end, nowhere, record_at}
use Rattle.lk_place.specs.declared.cursors.Cursors.{Cursors}
use Rattle.lk_place.specs.Placement.{IsPlaced, first_walked, is_walked, state_at}
use Rattle.lk_place.specs.CarriedOut.{PlacesSection}
use Rattle.lk_place_laws.specs.SectionRanges.{FileBytesAreBacked, SectionsFit, span_of}
use Rattle.lk_place_laws.specs.SegmentHulls.{HoldsRecord}
use Rattle.lk_place.specs.Segments.{hull, part_records, section_record}
use Rattle.lk_place.specs.Setting.{IsReady, Setting, has_bytes, part_count, part_number, size_at}
use Rattle.lk_place_laws.proofs.DistanceLaws.{unbacked_size}
use Rattle.lk_place_laws.proofs.RefusalLaws.{refused_exactly_past}
use Rattle.lk_place_laws.proofs.SectionDistances.{count_is, emptied, part_file, part_is, section_is}
use Rattle.lk_place_laws.proofs.SectionRanges.{all_between, early, hull_in_file, hull_in_memory, least_below, some_part}
use Rattle.lk_place.proofs.Steps.{step_at}

-- ---- a hull holds each of its records

least_holds : (f : Record → ℕ) (n : ℕ) (rs : List Record) (j : ℕ) → j < length rs → fold min n (map f rs) ≤ f (slice_index_or rs j nowhere)
least_holds f n [] j below = absurd (omega arith)
least_holds f n (r ∷ rs) zero below = least_below f (f r) (min n (f r)) rs (omega arith)
least_holds f n (r ∷ rs) (suc j) below = least_holds f (min n (f r)) rs j (omega arith)

greatest_above : (f : Record → ℕ) (low n : ℕ) (rs : List Record) → low ≤ n → low ≤ fold max n (map f rs)
greatest_above f low n [] h = h
greatest_above f low n (r ∷ rs) h = greatest_above f low (max n (f r)) rs (omega arith)

greatest_holds : (f : Record → ℕ) (n : ℕ) (rs : List Record) (j : ℕ) → j < length rs → f (slice_index_or rs j nowhere) ≤ fold max n (map f rs)
greatest_holds f n [] j below = absurd (omega arith)
greatest_holds f n (r ∷ rs) zero below = greatest_above f (f r) (max n (f r)) rs (omega arith)
greatest_holds f n (r ∷ rs) (suc j) below = greatest_holds f (max n (f r)) rs j (omega arith)

-- what ends no later than the last ends no later than from the first up to it
within_end : (first last n : ℕ) → n ≤ last → n ≤ first + (last - first)
within_end first last n h = omega arith

pub hull_holds : (rs : List Record) (j : ℕ) → j < length rs → HoldsRecord (hull rs) (slice_index_or rs j nowhere)
hull_holds [] j below = absurd (omega arith)
hull_holds (r ∷ rs) zero below = record {
  memory_from = least_below (λ q. q.mem_offset) r.mem_offset r.mem_offset rs (omega arith);
  memory_to = within_end (fold min r.mem_offset (map (λ q. q.mem_offset) rs)) (fold max (mem_end r) (map mem_end rs)) (mem_end r) (greatest_above mem_end (mem_end r) (mem_end r) rs (omega arith));
  file_from = least_below (λ q. q.file_offset) r.file_offset r.file_offset rs (omega arith);
  file_to = within_end (fold min r.file_offset (map (λ q. q.file_offset) rs)) (fold max (file_end r) (map file_end rs)) (file_end r) (greatest_above file_end (file_end r) (file_end r) rs (omega arith));
}
hull_holds (r ∷ rs) (suc j) below =
    let less : j < length rs = omega arith in
    let q : Record = slice_index_or rs j nowhere in record {
      memory_from = least_holds (λ q. q.mem_offset) r.mem_offset rs j less;
      memory_to = within_end (fold min r.mem_offset (map (λ q. q.mem_offset) rs)) (fold max (mem_end r) (map mem_end rs)) (mem_end q) (greatest_holds mem_end (mem_end r) rs j less);
      file_from = least_holds (λ q. q.file_offset) r.file_offset rs j less;
      file_to = within_end (fold min r.file_offset (map (λ q. q.file_offset) rs)) (fold max (file_end r) (map file_end rs)) (file_end q) (greatest_holds file_end (file_end r) rs j less);
    }

-- ---- ends

-- where no event is refused, each part of a section ends below 2^64
parts_fit : (setting : Setting) (states : List Cursors) (records : List Record) → IsReady setting → IsPlaced setting states records → length states ≡ length setting.plan.events + 1
    → (s : ℕ) → s < length setting.plan.sections → (j : ℕ) → j < part_count setting.plan.sections s → Fits (record_at records (part_number setting.plan.sections s j))
parts_fit setting states records ready placed whole s there j below =
    let (k, here) = ready.events.placed s there in
    let step = step_at setting states records k (Section s) ready placed (early setting states k s whole here) here in
    (refused_exactly_past setting s step.entered records (state_at states (k + 1)) ready there step.places.placed).0 step.places.fits j below

pub below_limit : (r : Record) → Fits r → (0 ≤ r.file_offset) × (file_end r ≤ 2 ^ 64 - 1)
below_limit r h = (omega arith, omega (arith, h.file))

pub below_last : (r : Record) → Fits r → (0 ≤ r.mem_offset) × (mem_end r ≤ 2 ^ 64 - 1)
below_last r h = (omega arith, omega (arith, h.mem))

pub sections_fit : SectionsFit
sections_fit setting states records ready placed whole s there =
    let parts : List Record = part_records setting.plan.sections records s in
    let some = some_part setting records s ready placed.each there in
    let fit = parts_fit setting states records ready placed whole s there in
    let is : span_of setting records s ≡ section_record (section_at setting.plan.sections s) parts = section_is setting records s there in
    let file = hull_in_file 0 (2 ^ 64 - 1) parts some
    (all_between (λ r. r.file_offset) file_end setting records s 0 (2 ^ 64 - 1) placed.each there (λ j below. below_limit (record_at records (part_number setting.plan.sections s j)) (fit j below))) in
    let memory = hull_in_memory 0 (2 ^ 64 - 1) parts some
    (all_between (λ r. r.mem_offset) mem_end setting records s 0 (2 ^ 64 - 1) placed.each there (λ j below. below_last (record_at records (part_number setting.plan.sections s j)) (fit j below))) in
    record { file = omega (arith, file.1, ap file_end is); mem = omega (arith, memory.1, ap mem_end is) }

-- ---- bytes

-- where a section has no bytes in memory, no part of it does
part_empty : (setting : Setting) (records : List Record) (s j : ℕ) → length records ≡ length (all_parts setting.plan.sections) → s < length setting.plan.sections
    → (span_of setting records s).mem_size ≡ 0 → j < part_count setting.plan.sections s → (record_at records (part_number setting.plan.sections s j)).mem_size ≡ 0
part_empty setting records s j each there none below =
    let parts : List Record = part_records setting.plan.sections records s in
    let holds = hull_holds parts j (omega (arith, below, count_is setting records s each there)) in
    let is : span_of setting records s ≡ section_record (section_at setting.plan.sections s) parts = section_is setting records s there in
    let part = part_is setting records s j there below in
    omega (arith, none, holds.memory_from, holds.memory_to, ap (λ (r : Record). r.mem_size) is, ap (λ (r : Record). r.mem_offset) part, ap (λ (r : Record). r.mem_size) part)

of_nothing : (b : Bool) (n : ℕ) → n ≡ 0 → (if b then n else 0) ≡ 0
of_nothing true n h = h
of_nothing false n h = refl

-- its parts stand where the first walked one does in the file, without bytes there
part_nowhere : (setting : Setting) (s j : ℕ) (from to : Cursors) (records : List Record) → PlacesSection setting s from records to
    → (record_at records (part_number setting.plan.sections s j)).mem_size ≡ 0 → j < part_count setting.plan.sections s → (walked : Bool) → is_walked setting s (part_number setting.plan.sections s j) ≡ walked
    → ((record_at records (part_number setting.plan.sections s j)).file_offset ≡ (record_at records (first_walked setting s)).file_offset) × ((record_at records (part_number setting.plan.sections s j)).file_size ≡ 0)
part_nowhere setting s j from to records h none below true is =
    let p : ℕ = part_number setting.plan.sections s j in
    let at = h.walked j below is in
    let size : size_at setting.sizes p ≡ 0 = sym at.takes ∙ none in
    let bytes : has_bytes setting.sizes p ≡ false = ap (nat_lt 0) size in
    let first : (p == first_walked setting s) ≡ true = ap (λ b. b || (p == first_walked setting s)) (sym bytes) ∙ is in
    (ap (λ n. (record_at records n).file_offset) (eqb-true p (first_walked setting s) first), at.takes_file ∙ of_nothing (is_file_backed setting.plan s) (size_at setting.sizes p) size)
part_nowhere setting s j from to records h none below false is =
    let rests = h.resting j below is in
    (rests.in_file, rests.takes_file)

pub file_bytes_are_backed : FileBytesAreBacked
file_bytes_are_backed setting states records ready placed whole s there bytes =
    let (k, here) = ready.events.placed s there in
    let step = step_at setting states records k (Section s) ready placed (early setting states k s whole here) here in
    let to : Cursors = state_at states (k + 1) in (
      elim (cases_Bool (is_file_backed setting.plan s)) [
        | inl backed ↦ backed
        | inr unbacked ↦
            let no = emptied setting records s step.entered.file placed.each there (λ j below. (
              part_file setting s j step.entered to records ready there unbacked step.places.placed below,
              unbacked_size setting s j step.entered to records unbacked step.places.placed below,
            )) in
            absurd (cc)
      ],
      elim (cases_Bool (is_filled (span_of setting records s))) [
        | inl filled ↦ filled
        | inr empty ↦
            let none : (span_of setting records s).mem_size ≡ 0 = grind (arith, nat_tests) in
            let no = emptied setting records s (record_at records (first_walked setting s)).file_offset placed.each there (λ j below.
            part_nowhere setting s j step.entered to records step.places.placed (part_empty setting records s j placed.each there none below) below
            (is_walked setting s (part_number setting.plan.sections s j)) refl) in
            absurd (cc)
      ],
    )
