-- A section takes at least the bytes of the file that its parts take, and so it does where its parts follow one another.
use Rattle.std.proofs.Common.{◌≡◌, ◌≢◌, ◌⊎◌, ℕ, zero, suc, ◌+◌, ◌-◌, ◌≤◌, ◌<◌, List, [], ◌∷◌, length, drop, map, refl, ap, subst, ◌∙◌, arith, inl, inr, zero-add}
use Rattle.std.specs.Prelude.{if◌then◌else◌, fold, max, min, nat_lt, slice_index_or, sum_by}
use Rattle.std.specs.List.{enumerate_from}
use Rattle.std.proofs.lemmas.Bool.{cases_Bool, ltb-true}
use Rattle.std.proofs.lemmas.Bool.Decides.{nat_tests}
use Rattle.std.proofs.lemmas.List.{get_or-drop, get_or-map, get_or-take, length-map, length-take}
use Rattle.std.proofs.lemmas.List.FromFn.{get_or-enumerate_from, length-enumerate_from}
use Rattle.std.proofs.lemmas.List.Sums.{sum_by-cons}
use Rattle.lk_link.specs.declared.plan.PlanSection.{PlanSection}
use Rattle.lk_link.specs.Parts.{first_part}
use Rattle.lk_link.specs.PlanSections.{no_section, section_at}
use Rattle.lk_expressions.specs.Records.{Record, file_end, nowhere, record_at}
use Rattle.lk_place.specs.Ranges.{FileIsDisjoint, IsInFile}
use Rattle.lk_place.specs.Segments.{greatest, hull, least, part_records, section_record, section_records}
use Rattle.lk_layout.specs.FileRanges.{AreHeld, file_bytes}

-- ---- the least and the greatest

least_first : (n : ℕ) (ns : List ℕ) → fold min n ns ≤ n
least_first n [] = omega arith
least_first n (m ∷ ms) = omega (arith, least_first (min n m) ms)

least_each : (n : ℕ) (ns : List ℕ) (k d : ℕ) → k < length ns → fold min n ns ≤ slice_index_or ns k d
least_each n [] k d below = absurd (omega (arith, below))
least_each n (m ∷ ms) zero d below = omega (arith, least_first (min n m) ms)
least_each n (m ∷ ms) (suc k) d below = least_each (min n m) ms k d (omega (arith, below))

greatest_first : (n : ℕ) (ns : List ℕ) → n ≤ fold max n ns
greatest_first n [] = omega arith
greatest_first n (m ∷ ms) = omega (arith, greatest_first (max n m) ms)

greatest_each : (n : ℕ) (ns : List ℕ) (k d : ℕ) → k < length ns → slice_index_or ns k d ≤ fold max n ns
greatest_each n [] k d below = absurd (omega (arith, below))
greatest_each n (m ∷ ms) zero d below = omega (arith, greatest_first (max n m) ms)
greatest_each n (m ∷ ms) (suc k) d below = greatest_each (max n m) ms k d (omega (arith, below))

-- no number is below the least of a list, nor past the greatest
pub at_least : (none : ℕ) (ns : List ℕ) (k d : ℕ) → k < length ns → least none ns ≤ slice_index_or ns k d
at_least none [] k d below = absurd (omega (arith, below))
at_least none (n ∷ ns) zero d below = least_first n ns
at_least none (n ∷ ns) (suc k) d below = least_each n ns k d (omega (arith, below))

pub at_most : (none : ℕ) (ns : List ℕ) (k d : ℕ) → k < length ns → slice_index_or ns k d ≤ greatest none ns
at_most none [] k d below = absurd (omega (arith, below))
at_most none (n ∷ ns) zero d below = greatest_first n ns
at_most none (n ∷ ns) (suc k) d below = greatest_each n ns k d (omega (arith, below))

-- ---- ranges that share no byte

-- the bytes of a record that stand below this offset
abbrev clip : ℕ → Record → ℕ
clip offset r = min (file_end r) offset - r.file_offset

-- whether one of them is at it
abbrev hit : ℕ → Record → ℕ
hit offset r = if nat_lt offset r.file_offset then 0 else if nat_lt offset (file_end r) then 1 else 0

clip_more : (offset : ℕ) (r : Record) → clip (offset + 1) r ≤ clip offset r + hit offset r
clip_more offset r =
    elim (cases_Bool (nat_lt offset r.file_offset)) [
      | inl early ↦ rw early (omega (arith, ltb-true offset r.file_offset early))
      | inr late ↦
          rw late (elim (cases_Bool (nat_lt offset (file_end r))) [
            | inl here ↦ rw here (omega arith)
            | inr past ↦ rw past (grind (arith, nat_tests, past))
          ])
    ]

clips_more : (offset : ℕ) (rs : List Record) → sum_by (clip (offset + 1)) rs ≤ sum_by (clip offset) rs + sum_by (hit offset) rs
clips_more offset [] = omega arith
clips_more offset (r ∷ rs) =
    omega (arith, clip_more offset r, clips_more offset rs, sum_by-cons (clip (offset + 1)) r rs, sum_by-cons (clip offset) r rs, sum_by-cons (hit offset) r rs)

-- what is hit has a byte there
is_hit : (offset : ℕ) (r : Record) → (hit offset r ≡ 0) ⊎ ((hit offset r ≡ 1) × IsInFile offset r)
is_hit offset r =
    elim (cases_Bool (nat_lt offset r.file_offset)) [
      | inl early ↦ inl (rw early refl)
      | inr late ↦ elim (cases_Bool (nat_lt offset (file_end r))) [
        | inl here ↦ inr (rw (late, here) refl, record { begins = grind (arith, nat_tests, late); ends = ltb-true offset (file_end r) here })
        | inr past ↦ inl (rw (late, past) refl)
      ]
    ]

-- no two records of a list share a byte of the file
abbrev pub ShareNone : List Record → Type 0
ShareNone rs = (j k offset : ℕ) → j < length rs → k < length rs → j ≢ k → IsInFile offset (record_at rs j) → IsInFile offset (record_at rs k) → ⊥

others_free : (r : Record) (rs : List Record) → ShareNone (r ∷ rs) → ShareNone rs
others_free r rs apart j k offset below within other here there =
    apart (suc j) (suc k) offset (omega (arith, below)) (omega (arith, within)) (λ same. other (omega (arith, same))) here there

none_hit : (offset : ℕ) (rs : List Record) → ((k : ℕ) → k < length rs → IsInFile offset (record_at rs k) → ⊥) → sum_by (hit offset) rs ≡ 0
none_hit offset [] free = refl
none_hit offset (r ∷ rs) free =
    let rest = none_hit offset rs (λ k below here. free (suc k) (omega (arith, below)) here) in
    elim (is_hit offset r) [
      | inl none ↦ omega (arith, none, rest, sum_by-cons (hit offset) r rs)
      | inr some ↦ absurd (free 0 (omega arith) some.1)
    ]

one_hit : (offset : ℕ) (rs : List Record) → ShareNone rs → sum_by (hit offset) rs ≤ 1
one_hit offset [] apart = omega arith
one_hit offset (r ∷ rs) apart =
    elim (is_hit offset r) [
      | inl none ↦ omega (arith, none, one_hit offset rs (others_free r rs apart), sum_by-cons (hit offset) r rs)
      | inr some ↦
          let rest = none_hit offset rs (λ k below there. apart 0 (suc k) offset (omega arith) (omega (arith, below)) (λ same. absurd (omega (arith, same))) some.1 there) in
          omega (arith, some.0, rest, sum_by-cons (hit offset) r rs)
    ]

-- below the lowest start there are none
none_below : (low : ℕ) (rs : List Record) → ((k : ℕ) → k < length rs → low ≤ (record_at rs k).file_offset) → sum_by (clip low) rs ≡ 0
none_below low [] above = refl
none_below low (r ∷ rs) above =
    let rest = none_below low rs (λ k below. above (suc k) (omega (arith, below))) in
    let first : low ≤ r.file_offset = above 0 (omega arith) in
    omega (arith, rest, first, sum_by-cons (clip low) r rs)

-- so many bytes behind it there are no more
few_clipped : (low n : ℕ) (rs : List Record) → ShareNone rs → ((k : ℕ) → k < length rs → low ≤ (record_at rs k).file_offset) → sum_by (clip (low + n)) rs ≤ n
few_clipped low zero rs apart above =
    let e : low + 0 ≡ low = omega arith in
    let none : sum_by (clip (low + 0)) rs ≡ 0 = ap (λ m. sum_by (clip m) rs) e ∙ none_below low rs above in
    omega (arith, none)
few_clipped low (suc n) rs apart above =
    let e : low + suc n ≡ low + n + 1 = omega arith in
    let step : sum_by (clip (low + suc n)) rs ≡ sum_by (clip (low + n + 1)) rs = ap (λ m. sum_by (clip m) rs) e in
    omega (arith, step, clips_more (low + n) rs, one_hit (low + n) rs apart, few_clipped low n rs apart above)

-- at the greatest end they are whole
whole_clipped : (high : ℕ) (rs : List Record) → ((k : ℕ) → k < length rs → file_end (record_at rs k) ≤ high) → file_bytes rs ≤ sum_by (clip high) rs
whole_clipped high [] ends = omega arith
whole_clipped high (r ∷ rs) ends =
    let rest = whole_clipped high rs (λ k below. ends (suc k) (omega (arith, below))) in
    let first : file_end r ≤ high = ends 0 (omega arith) in
    omega (arith, rest, first, sum_by-cons (clip high) r rs, sum_by-cons (λ (x : Record). x.file_size) r rs)

-- records that share none take no more than all from the least start to the greatest end
hull_holds : (rs : List Record) → ShareNone rs → file_bytes rs ≤ (hull rs).file_size
hull_holds rs apart =
    let starts : List ℕ = map (λ r. r.file_offset) rs in
    let ends : List ℕ = map file_end rs in
    let low : ℕ = least 0 starts in
    let high : ℕ = greatest 0 ends in
    let above : (k : ℕ) → k < length rs → low ≤ (record_at rs k).file_offset
    = λ k below. subst (λ m. low ≤ m) (get_or-map (λ (r : Record). r.file_offset) rs k nowhere 0 below) (at_least 0 starts k 0 (omega (arith, below, length-map rs (λ (r : Record). r.file_offset)))) in
    let under : (k : ℕ) → k < length rs → file_end (record_at rs k) ≤ low + (high - low)
    = λ k below.
    let end = subst (λ m. m ≤ high) (get_or-map file_end rs k nowhere 0 below) (at_most 0 ends k 0 (omega (arith, below, length-map rs file_end))) in
    omega (arith, end) in
    omega (arith, whole_clipped (low + (high - low)) rs under, few_clipped low (high - low) rs apart above)

-- ---- the parts of a section

-- the records of its parts are those of all parts from its first on
pub part_record : (sections : List PlanSection) (parts : List Record) (s j : ℕ) → j < first_part sections (s + 1) - first_part sections s
    → record_at (part_records sections parts s) j ≡ record_at parts (first_part sections s + j)
part_record sections parts s j below =
    get_or-take (first_part sections (s + 1) - first_part sections s) (drop (first_part sections s) parts) j nowhere below ∙ get_or-drop (first_part sections s) parts j nowhere

pub parts_count : (sections : List PlanSection) (parts : List Record) (s : ℕ) → length (part_records sections parts s) ≤ first_part sections (s + 1) - first_part sections s
parts_count sections parts s =
    omega (arith, length-take (first_part sections (s + 1) - first_part sections s) (drop (first_part sections s) parts))

parts_share_none : (sections : List PlanSection) (parts : List Record) (s : ℕ) → FileIsDisjoint parts → ShareNone (part_records sections parts s)
parts_share_none sections parts s apart j k offset below within other here there =
    let count = parts_count sections parts s in
    let first : ℕ = first_part sections s in
    apart (first + j) (first + k) offset (λ same. other (omega (arith, same)))
    (subst (IsInFile offset) (part_record sections parts s j (omega (arith, below, count))) here)
    (subst (IsInFile offset) (part_record sections parts s k (omega (arith, within, count))) there)

-- the record of a section
pub section_record_at : (sections : List PlanSection) (parts : List Record) (s : ℕ) → s < length sections
    → record_at (section_records sections parts) s ≡ section_record (section_at sections s) (part_records sections parts s)
section_record_at sections parts s below =
    let of : ℕ × PlanSection → Record = λ q. section_record q.1 (part_records sections parts q.0) in
    get_or-map of (enumerate_from 0 sections) s (0, no_section) nowhere (omega (arith, below, length-enumerate_from 0 sections))
    ∙ ap of (get_or-enumerate_from 0 sections s (0, no_section) below)
    ∙ ap (λ m. section_record (section_at sections s) (part_records sections parts m)) (zero-add s)

-- where no two parts share a byte of the file, each section holds its parts
pub sections_hold : (sections : List PlanSection) (parts : List Record) → FileIsDisjoint parts → AreHeld sections (section_records sections parts) parts
sections_hold sections parts apart s below =
    let size : (record_at (section_records sections parts) s).file_size ≡ (hull (part_records sections parts s)).file_size
    = ap (λ (r : Record). r.file_size) (section_record_at sections parts s below) in
    omega (arith, size, hull_holds (part_records sections parts s) (parts_share_none sections parts s apart))
