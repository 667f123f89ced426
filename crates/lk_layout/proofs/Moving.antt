-- A section that is moved in the file, with its parts.
use Rattle.std.proofs.Common.{◌≡◌, ℕ, zero, suc, ◌+◌, ◌-◌, ◌≤◌, ◌<◌, ◌^◌, true, List, [], ◌∷◌, ◌++◌, None, length, take, drop, map, refl, sym, ap, subst, ◌∙◌, arith, inl, inr}
use Rattle.std.specs.Prelude.{◌==◌, max, slice_range, slice_set, sum, sum_by}
use Rattle.std.specs.List.{list_all}
use Rattle.std.proofs.lemmas.Bool.{cases_Bool, eqb-true}
use Rattle.std.proofs.lemmas.Bool.Decides.{nat_tests}
use Rattle.std.proofs.lemmas.List.{drop-drop, drop-map, get_or-set_other, get_or-set_same, length-map, length-set, map-append, take-append-drop, take-map}
use Rattle.std.proofs.lemmas.List.Sums.{sum-map, sum_by-cons}
use Rattle.lk_link.specs.declared.plan.PlanSection.{PlanSection}
use Rattle.lk_link.specs.Parts.{first_part}
use Rattle.lk_link.specs.Rules.{is_good_section}
use Rattle.lk_link.proofs.PartNumbers.{first_part-rises}
use Rattle.lk_expressions.specs.Records.{Record, file_end, nowhere, record_at}
use Rattle.lk_place.specs.FileRange.{ran_on}
use Rattle.lk_place.specs.Secondaries.{merge_refusal}
use Rattle.lk_place.specs.Segments.{part_records}
use Rattle.lk_layout.specs.FileRanges.{AreHeld, file_bytes, moved_parts, moved_sections, run_on, starting_at}
use Rattle.lk_layout.proofs.MovedEnds.{MovesTo, moves_keep}
use Rattle.lk_layout.proofs.SameMemory.{SameMemory}

-- ---- parts

-- records of which each stands behind those before it run on from the start
pub run_is : (start : ℕ) (parts new : List Record) → length new ≡ length parts → ((p : ℕ) → p < length parts → record_at new p ≡ ran_on start parts p) → new ≡ run_on start parts
run_is start [] [] same each = refl
run_is start [] (n ∷ new) same each = absurd (omega (arith, same))
run_is start (r ∷ rs) [] same each = absurd (omega (arith, same))
run_is start (r ∷ rs) (n ∷ new) same each =
    let none : start + 0 ≡ start = omega arith in
    let first : n ≡ record r { file_offset = start } = each 0 (omega arith) ∙ ap (λ m. record r { file_offset = m }) none in
    let rest : new ≡ run_on (start + r.file_size) rs = run_is (start + r.file_size) rs new (omega (arith, same)) (λ p below.
    let behind : start + sum_by (λ r. r.file_size) (r ∷ take p rs) ≡ start + r.file_size + sum_by (λ r. r.file_size) (take p rs) = omega (arith, sum_by-cons (λ (x : Record). x.file_size) r (take p rs)) in
    each (suc p) (omega (arith, below)) ∙ ap (λ m. record (record_at rs p) { file_offset = m }) behind) in
    λ i. first i ∷ rest i

-- the size of each in the file
abbrev sizes : List Record → List ℕ
sizes rs = map (λ r. r.file_size) rs

run_sizes : (start : ℕ) (rs : List Record) → sizes (run_on start rs) ≡ sizes rs
run_sizes start [] = refl
run_sizes start (r ∷ rs) = ap (λ (ns : List ℕ). r.file_size ∷ ns) (run_sizes (start + r.file_size) rs)

-- a list is what stands before two places in it, between them, and behind
pub put_back : (first behind : ℕ) (rs : List Record) → first ≤ behind → take first rs ++ (slice_range rs first behind ++ drop behind rs) ≡ rs
put_back first behind rs rise =
    let e : first + (behind - first) ≡ behind = omega (arith, rise) in
    let last : drop behind rs ≡ drop (behind - first) (drop first rs) = ap (λ n. drop n rs) (sym e) ∙ sym (drop-drop (behind - first) first rs) in
    ap (λ (left : List Record). take first rs ++ (slice_range rs first behind ++ left)) last
    ∙ ap (λ (left : List Record). take first rs ++ left) (take-append-drop (behind - first) (drop first rs))
    ∙ take-append-drop first rs

-- what stands before, between and behind is all parts moved
pub parts_are : (sections : List PlanSection) (parts new : List Record) (s start first behind : ℕ) → first ≡ first_part sections s → behind ≡ first_part sections (s + 1)
    → length new ≡ length (slice_range parts first behind) → ((p : ℕ) → p < length (slice_range parts first behind) → record_at new p ≡ ran_on start (slice_range parts first behind) p)
    → take first parts ++ (new ++ drop (behind - first) (drop first parts)) ≡ moved_parts sections parts s start
parts_are sections parts new s start first behind begins ends same each =
    let ran : new ≡ run_on start (slice_range parts first behind) = run_is start (slice_range parts first behind) new same each in
    let e : first + (behind - first) ≡ behind = omega (arith, begins, ends, first_part-rises sections s) in
    let last : drop (behind - first) (drop first parts) ≡ drop behind parts = drop-drop (behind - first) first parts ∙ ap (λ n. drop n parts) e in
    let here : take first parts ++ (new ++ drop (behind - first) (drop first parts)) ≡ take first parts ++ (run_on start (slice_range parts first behind) ++ drop behind parts)
    = λ i. take first parts ++ (ran i ++ last i) in
    here ∙ (λ i. take (begins i) parts ++ (run_on start (slice_range parts (begins i) (ends i)) ++ drop (ends i) parts))

-- parts that are moved stay as long as they are
pub moved_sizes : (sections : List PlanSection) (parts : List Record) (s start : ℕ) → sizes (moved_parts sections parts s start) ≡ sizes parts
moved_sizes sections parts s start =
    let first : ℕ = first_part sections s in
    let behind : ℕ = first_part sections (s + 1) in
    let mine : List Record = part_records sections parts s in
    let f : Record → ℕ = λ r. r.file_size in
    map-append f (take first parts) (run_on start mine ++ drop behind parts)
    ∙ ap (λ (ns : List ℕ). sizes (take first parts) ++ ns) (map-append f (run_on start mine) (drop behind parts) ∙ ap (λ (ns : List ℕ). ns ++ sizes (drop behind parts)) (run_sizes start mine) ∙ sym (map-append f mine (drop behind parts)))
    ∙ sym (map-append f (take first parts) (mine ++ drop behind parts))
    ∙ ap sizes (put_back first behind parts (first_part-rises sections s))

pub moved_count : (sections : List PlanSection) (parts : List Record) (s start : ℕ) → length (moved_parts sections parts s start) ≡ length parts
moved_count sections parts s start =
    sym (length-map (moved_parts sections parts s start) (λ (r : Record). r.file_size)) ∙ ap length (moved_sizes sections parts s start) ∙ length-map parts (λ (r : Record). r.file_size)

-- what the parts of a section take goes by sizes alone
bytes_by_sizes : (sections : List PlanSection) (parts : List Record) (t : ℕ)
    → file_bytes (part_records sections parts t) ≡ sum (slice_range (sizes parts) (first_part sections t) (first_part sections (t + 1)))
bytes_by_sizes sections parts t =
    let first : ℕ = first_part sections t in
    let count : ℕ = first_part sections (t + 1) - first in
    let f : Record → ℕ = λ r. r.file_size in
    sym (sum-map f (part_records sections parts t))
    ∙ ap sum (sym (take-map f count (drop first parts)) ∙ ap (take count) (sym (drop-map f first parts)))

parts_stay : (sections : List PlanSection) (parts : List Record) (s start t : ℕ) → file_bytes (part_records sections (moved_parts sections parts s start) t) ≡ file_bytes (part_records sections parts t)
parts_stay sections parts s start t =
    bytes_by_sizes sections (moved_parts sections parts s start) t
    ∙ ap (λ (ns : List ℕ). sum (slice_range ns (first_part sections t) (first_part sections (t + 1)))) (moved_sizes sections parts s start)
    ∙ sym (bytes_by_sizes sections parts t)

-- ---- sections

-- what becomes of the record of a section
record Goes (old new : Record) (start held : ℕ) : Type 0 where
  memory : SameMemory new old
  size : new.file_size ≤ old.file_size
  holds : held ≤ old.file_size → held ≤ new.file_size
  end : file_end new ≤ max (file_end old) (start + old.file_size)

goes : (sections : List PlanSection) (records parts : List Record) (s start t : ℕ) → length records ≡ length sections → AreHeld sections records parts → s < length sections
    → Goes (record_at records t) (record_at (moved_sections sections records parts s start) t) start (file_bytes (part_records sections parts t))
goes sections records parts s start t each held there =
    let mine : List Record = part_records sections parts s in
    let moved : Record = starting_at start mine (record_at records s) in
    let fits : file_bytes mine ≤ (record_at records s).file_size = held s there in
    elim (cases_Bool (t == s)) [
      | inl at ↦
          let same : s ≡ t = sym (eqb-true t s at) in
          let is : moved ≡ record_at (slice_set records s moved) s = sym (get_or-set_same records s moved nowhere (omega (arith, there, each))) in
          let gone : Goes (record_at records s) moved start (file_bytes mine) = record {
            memory = record { size = refl; start = refl; alignment = refl };
            size = fits;
            holds = λ _. omega arith;
            end = omega (arith, fits);
          } in
          let here : Goes (record_at records s) (record_at (slice_set records s moved) s) start (file_bytes mine) = subst (λ (r : Record). Goes (record_at records s) r start (file_bytes mine)) is gone in
          subst (λ n. Goes (record_at records n) (record_at (slice_set records s moved) n) start (file_bytes (part_records sections parts n))) same here
      | inr other ↦
          let old : Record = record_at records t in
          let is : old ≡ record_at (slice_set records s moved) t = sym (get_or-set_other records s t moved nowhere (grind (arith, nat_tests, other))) in
          let stays : Goes old old start (file_bytes (part_records sections parts t)) = record {
            memory = record { size = refl; start = refl; alignment = refl };
            size = omega arith;
            holds = λ h. h;
            end = omega arith;
          } in
          subst (λ (r : Record). Goes old r start (file_bytes (part_records sections parts t))) is stays
    ]

-- nothing gets longer, and memory stays
pub sections_move : (sections : List PlanSection) (records parts : List Record) (s start : ℕ) → length records ≡ length sections → AreHeld sections records parts → s < length sections
    → MovesTo records (moved_sections sections records parts s start) start
sections_move sections records parts s start each held there = record {
  memory = λ t. (goes sections records parts s start t each held there).memory;
  sizes = λ t. (goes sections records parts s start t each held there).size;
  ends = λ t. (goes sections records parts s start t each held there).end;
}

-- sections hold their parts still
pub still_held : (sections : List PlanSection) (records parts : List Record) (s start : ℕ) → length records ≡ length sections → AreHeld sections records parts → s < length sections
    → AreHeld sections (moved_sections sections records parts s start) (moved_parts sections parts s start)
still_held sections records parts s start each held there t below =
    let new = (goes sections records parts s start t each held there).holds (held t below) in
    omega (arith, parts_stay sections parts s start t, new)

pub sections_count : (sections : List PlanSection) (records parts : List Record) (s start : ℕ) → length (moved_sections sections records parts s start) ≡ length records
sections_count sections records parts s start = length-set records s (starting_at start (part_records sections parts s) (record_at records s))

-- the bytes of one section are among those of all
pub part_of_all : (records : List Record) (s : ℕ) → (record_at records s).file_size ≤ file_bytes records
part_of_all [] s = omega arith
part_of_all (r ∷ rs) zero = omega (arith, sum_by-cons (λ (y : Record). y.file_size) r rs)
part_of_all (r ∷ rs) (suc s) = omega (arith, part_of_all rs s, sum_by-cons (λ (y : Record). y.file_size) r rs)

-- where all fit behind the start, nothing that secondaries are joined to is refused
pub still_joined : (sections : List PlanSection) (records parts : List Record) (s start : ℕ) → list_all (is_good_section sections) sections ≡ true → length records ≡ length sections
    → AreHeld sections records parts → s < length sections → start + file_bytes records < 2 ^ 64 → merge_refusal sections records ≡ None
    → merge_refusal sections (moved_sections sections records parts s start) ≡ None
still_joined sections records parts s start good each held there room none =
    moves_keep sections records (moved_sections sections records parts s start) start good (sym each) (sections_move sections records parts s start each held there) room none
