-- Ranges that follow one another share nothing: those of the file, and those of memory.
use Rattle.std.proofs.Common.{◌≡◌, ◌≢◌, ℕ, zero, suc, ◌+◌, ◌≤◌, ◌<◌, Bool, true, false, List, refl, sym, ap, subst, ◌⊎◌, inl, inr, arith, add-one}
use Rattle.std.specs.Prelude.{MatchBool, if◌then◌else◌}
use Rattle.std.proofs.lemmas.Bool.{cases_lt}
use Rattle.lk_link.specs.Alignments.{IsLeastMultiple}
use Rattle.lk_link.specs.Parts.{first_part, part_at}
use Rattle.lk_link.specs.PlanSections.{is_file_backed}
use Rattle.lk_place.specs.declared.cursors.Cursors.{Cursors}
use Rattle.lk_place.specs.declared.cursors.Offsets.{Offsets}
use Rattle.lk_place.specs.Placement.{behind, first_walked, is_walked, section_start, walk_alignment}
use Rattle.lk_place.specs.CarriedOut.{IsPlacedAt, IsRestingAt, PlacesSection, reached}
use Rattle.lk_expressions.specs.Records.{Record, file_end, mem_end, nowhere, record_at}
use Rattle.lk_place.specs.Setting.{Setting, part_count, part_number, size_at}

-- ---- two kinds of ranges

-- ranges of one kind: those of the file or those of memory, with the cursor that goes along them
pub record AreRanges (begin end : Record → ℕ) (cursor : Offsets → ℕ) : Type 0 where
  pub after : (backed : Bool) (a n : ℕ) (from : Offsets) (r : Record) → IsPlacedAt backed a n from r → cursor from ≤ begin r
  pub rises : (r : Record) → begin r ≤ end r
  pub behind : (r : Record) → cursor (behind r) ≡ end r
  pub rests : (own : ℕ) (first r : Record) → IsRestingAt own first r → end r ≤ begin r
  pub none : end nowhere ≤ begin nowhere

starts-after : (backed : Bool) (a n m : ℕ) → MatchBool backed (IsLeastMultiple a n m) (m ≡ n) → n ≤ m
starts-after true a n m h = h.reaches
starts-after false a n m h = omega arith

pub file_ranges : AreRanges (λ r. r.file_offset) file_end (λ c. c.file)
file_ranges = record {
  after = λ backed a n from r h. starts-after backed a from.file r.file_offset h.in_file;
  rises = λ r. omega arith;
  behind = λ r. refl;
  rests = λ own first r h. omega (arith, h.takes_file);
  none = omega arith;
}

pub memory_ranges : AreRanges (λ r. r.mem_offset) mem_end (λ c. c.memory)
memory_ranges = record {
  after = λ backed a n from r h. h.at.reaches;
  rises = λ r. omega arith;
  behind = λ r. refl;
  rests = λ own first r h. omega (arith, h.takes);
  none = omega arith;
}

-- ---- ranges that follow one another

-- a number lies in the range of a record, by where its ranges begin and end
abbrev pub IsWithin : (Record → ℕ) → (Record → ℕ) → ℕ → Record → Type 0
IsWithin begin end o r = (begin r ≤ o) × (o < end r)

-- a record has no range, or one between low and high
abbrev pub IsBetween : (Record → ℕ) → (Record → ℕ) → ℕ → ℕ → Record → Type 0
IsBetween begin end low high r = (end r ≤ begin r) ⊎ ((low ≤ begin r) × (end r ≤ high))

-- the ranges of so many records from a first one on follow one another, from low to high
pub record Follow (begin end : Record → ℕ) (records : List Record) (first count low high : ℕ) : Type 0 where
  pub at : ℕ → ℕ
  pub begins : low ≤ at 0
  pub rises : (j : ℕ) → j < count → at j ≤ at (j + 1)
  pub each : (j : ℕ) → j < count → IsBetween begin end (at j) (at (j + 1)) (record_at records (first + j))
  pub ends : at count ≤ high

-- what rises at each step rises
pub rises : (at : ℕ → ℕ) (n : ℕ) → ((k : ℕ) → k < n → at k ≤ at (k + 1)) → (i k : ℕ) → i ≤ k → k ≤ n → at i ≤ at k
rises at n step i zero le within =
    let same : i ≡ 0 = omega arith in
    omega (arith, ap at same)
rises at n step i (suc k) le within =
    elim (cases_lt i (suc k)) [
      | inl less ↦
          let before = rises at n step i k (omega arith) (omega arith) in
          omega (arith, before, step k (omega arith), ap at (add-one k))
      | inr more ↦
          let same : i ≡ suc k = omega arith in
          omega (arith, ap at same)
    ]

-- what lies in a record lies between
held : (begin end : Record → ℕ) (low high o : ℕ) (r : Record) → IsBetween begin end low high r → IsWithin begin end o r → (low ≤ o) × (o < high)
held begin end low high o r h here =
    elim h [
      | inl none ↦ absurd (omega (arith, none, here.0, here.1))
      | inr there ↦ (omega (arith, there.0, here.0), omega (arith, there.1, here.1))
    ]

-- what lies in one of the records lies from low to high
pub follow-within : (begin end : Record → ℕ) (records : List Record) (first count low high : ℕ) → Follow begin end records first count low high
    → (j o : ℕ) → j < count → IsWithin begin end o (record_at records (first + j)) → (low ≤ o) × (o < high)
follow-within begin end records first count low high h j o below here =
    let there = held begin end (h.at j) (h.at (j + 1)) o (record_at records (first + j)) (h.each j below) here in
    let before = rises h.at count h.rises 0 j (omega arith) (omega arith) in
    let after = rises h.at count h.rises (j + 1) count (omega arith) (omega arith) in
    (omega (arith, h.begins, before, there.0), omega (arith, h.ends, after, there.1))

-- an earlier one shares nothing with a later one
follow-apart : (begin end : Record → ℕ) (records : List Record) (first count low high : ℕ) → Follow begin end records first count low high
    → (j k o : ℕ) → j < k → k < count → IsWithin begin end o (record_at records (first + j)) → IsWithin begin end o (record_at records (first + k)) → ⊥
follow-apart begin end records first count low high h j k o less below here there =
    let early = held begin end (h.at j) (h.at (j + 1)) o (record_at records (first + j)) (h.each j (omega arith)) here in
    let late = held begin end (h.at k) (h.at (k + 1)) o (record_at records (first + k)) (h.each k below) there in
    let between = rises h.at count h.rises (j + 1) k (omega arith) (omega arith) in
    omega (arith, early.1, between, late.0)

-- two of different numbers share nothing
pub follow-disjoint : (begin end : Record → ℕ) (records : List Record) (first count low high : ℕ) → Follow begin end records first count low high
    → (j k o : ℕ) → j ≢ k → j < count → k < count → IsWithin begin end o (record_at records (first + j)) → IsWithin begin end o (record_at records (first + k)) → ⊥
follow-disjoint begin end records first count low high h j k o other within below here there =
    elim (cases_lt j k) [
      | inl less ↦ follow-apart begin end records first count low high h j k o less below here there
      | inr more ↦ follow-apart begin end records first count low high h k j o (omega (arith, other)) within there here
    ]

-- ---- the parts of a section

-- the cursors behind a part that is walked or isn't
abbrev pub passed : Bool → Record → Offsets → Offsets
passed walked r from = if walked then behind r else from

-- a part lies between the cursors round it
part_between : (begin end : Record → ℕ) (cursor : Offsets → ℕ) → AreRanges begin end cursor
    → (walked backed : Bool) (a size own : ℕ) (from : Offsets) (first r : Record)
    → (walked ≡ true → IsPlacedAt backed a size from r) → (walked ≡ false → IsRestingAt own first r)
    → (cursor from ≤ cursor (passed walked r from)) × IsBetween begin end (cursor from) (cursor (passed walked r from)) r
part_between begin end cursor kind true backed a size own from first r is rests =
    let after = kind.after backed a size from r (is refl) in
    let ends = kind.behind r in
    (omega (arith, after, kind.rises r, ends), inr (after, omega (arith, ends)))
part_between begin end cursor kind false backed a size own from first r is rests =
    (omega arith, inl (kind.rests own first r (rests refl)))

-- the parts of a section follow one another
pub section_follows : (begin end : Record → ℕ) (cursor : Offsets → ℕ) → AreRanges begin end cursor
    → (setting : Setting) (s : ℕ) (from to : Cursors) (records : List Record) → PlacesSection setting s from records to
    → Follow begin end records (first_part setting.plan.sections s) (part_count setting.plan.sections s) (cursor (section_start setting s from))
    (cursor (reached setting s records (section_start setting s from) (part_count setting.plan.sections s)))
section_follows begin end cursor kind setting s from to records h =
    let at : ℕ → Offsets = reached setting s records (section_start setting s from) in
    let number : ℕ → ℕ = part_number setting.plan.sections s in
    let each : (j : ℕ) → j < part_count setting.plan.sections s → (cursor (at j) ≤ cursor (at (suc j))) × IsBetween begin end (cursor (at j)) (cursor (at (suc j))) (record_at records (number j))
    = λ j below.
    part_between begin end cursor kind (is_walked setting s (number j)) (is_file_backed setting.plan s) (walk_alignment setting s (number j)) (size_at setting.sizes (number j))
    (part_at setting.plan.sections (number j)).alignment (at j) (record_at records (first_walked setting s)) (record_at records (number j)) (h.walked j below) (h.resting j below) in
    record {
      at = λ j. cursor (at j);
      begins = omega arith;
      rises = λ j below. subst (λ n. cursor (at j) ≤ cursor (at n)) (sym (add-one j)) (each j below).0;
      each = λ j below. subst (λ n. IsBetween begin end (cursor (at j)) (cursor (at n)) (record_at records (number j))) (sym (add-one j)) (each j below).1;
      ends = omega arith;
    }
