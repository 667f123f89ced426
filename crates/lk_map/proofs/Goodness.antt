-- A check tells good maps.
use Rattle.std.proofs.Common.{◌≡◌, ℕ, suc, ◌+◌, ◌-◌, ◌%◌, ◌^◌, ◌<◌, ◌≤◌, ◌⊎◌, Bool, true, false, cond, List, [], ◌∷◌, Option, Some, None, Result, Ok, Err, get_or, refl, sym, ap, ◌∙◌, subst, inl, inr, ⊎_elim, arith, map}
use Rattle.std.specs.Prelude.{◌==◌, ◌&&◌, ◌||◌, not, nat_le, nat_lt, option_map}
use Rattle.std.specs.Option.{option_or}
use Rattle.std.specs.List.{All, Contains, filter, find, list_any}
use Rattle.std.proofs.lemmas.Bool.{cases_eq, cases_lt, false≢true}
use Rattle.std.proofs.lemmas.Bool.Decides.{nat_tests}
use Rattle.std.proofs.lemmas.List.{get_or_default}
use Rattle.std.proofs.lemmas.List.Elements.{All-cons, All-contains, All-map, All-nil, All-weaker, filter_passes}
use Rattle.lk_map.specs.declared.check.MapFault.{MapFault}
use Rattle.lk_map.specs.declared.check.MapFault.TheVariants.{Overflow, MemOverlap, FileOverlap, NoSegment, NoMemory}
use Rattle.lk_map.specs.declared.map_text.SectionLine.{SectionLine}
use Rattle.lk_map.specs.declared.map_text.SegmentLine.{SegmentLine}
use Rattle.lk_map.specs.declared.spans.Span.{Span}
use Rattle.lk_map.specs.Checking.{first_outside, first_overflow, holds, is_outside, is_within, needs_segment, section_overflows, segment_overflows, Judges}
use Rattle.lk_map.specs.Good.{GoodMapsAreCongruent, IsGood, IsHeldBy, TellsGood}
use Rattle.lk_map.specs.Spans.{AreApart, counts_in_file, counts_in_memory, file_spans, FindsOverlap, is_allocated, is_set, IsBefore, memory_spans, Overlaps}

-- ---- what is spanned

-- the range of a section in memory, with its line
abbrev pub memory_span : SectionLine → Span
memory_span s = record { start = s.mem_offset; line = s.line; size = s.mem_size }

-- in the file
abbrev pub file_span : SectionLine → Span
file_span s = record { start = s.file_offset; line = s.line; size = s.file_size }

-- ---- what is found, and what isn't

pub contains_more : {X : Type 0} (x : X) (xs : List X) (y : X) → Contains xs y → Contains (x ∷ xs) y
contains_more x xs y (k, h, e) = (suc k, omega arith, e)

none_case : {X : Type 0} (test : X → Bool) (x : X) (xs : List X) (b : Bool) → test x ≡ b → find test (x ∷ xs) ≡ None → (find test xs ≡ None → All (λ y. test y ≡ false) xs) → All (λ y. test y ≡ false) (x ∷ xs)
none_case test x xs true is e rest = let h : Some x ≡ None = sym (ap (λ b. cond b (Some x) (find test xs)) is) ∙ e in cc
none_case test x xs false is e rest = All-cons (λ y. test y ≡ false) x xs is (rest (sym (ap (λ b. cond b (Some x) (find test xs)) is) ∙ e))

-- nothing is found where nothing passes
none_passes : {X : Type 0} (test : X → Bool) (xs : List X) → find test xs ≡ None → All (λ x. test x ≡ false) xs
none_passes test [] e = All-nil (λ x. test x ≡ false)
none_passes test (x ∷ xs) e = none_case test x xs (test x) refl e (none_passes test xs)

found_case : {X : Type 0} (test : X → Bool) (x : X) (xs : List X) (y : X) (b : Bool) → test x ≡ b → find test (x ∷ xs) ≡ Some y → (find test xs ≡ Some y → Contains xs y × (test y ≡ true)) → Contains (x ∷ xs) y × (test y ≡ true)
found_case test x xs y true is e rest =
    let found_it : Some x ≡ Some y = sym (ap (λ b. cond b (Some x) (find test xs)) is) ∙ e in
    let same : x ≡ y = cc in
    ((0, omega arith, same), subst (λ z. test z ≡ true) same is)
found_case test x xs y false is e rest =
    let (there, passes) = rest (sym (ap (λ b. cond b (Some x) (find test xs)) is) ∙ e) in
    (contains_more x xs y there, passes)

-- what is found is there and passes
found : {X : Type 0} (test : X → Bool) (xs : List X) (y : X) → find test xs ≡ Some y → Contains xs y × (test y ≡ true)
found test [] y e = cc
found test (x ∷ xs) y e = found_case test x xs y (test x) refl e (found test xs y)

any_case : {X : Type 0} (test : X → Bool) (x : X) (xs : List X) (b : Bool) → test x ≡ b → list_any test (x ∷ xs) ≡ true → (list_any test xs ≡ true → (y : X) × Contains xs y × (test y ≡ true)) → (y : X) × Contains (x ∷ xs) y × (test y ≡ true)
any_case test x xs true is e rest = (x, (0, omega arith, refl), is)
any_case test x xs false is e rest =
    let (y, there, passes) = rest (sym (ap (λ b. b || list_any test xs) is) ∙ e) in
    (y, contains_more x xs y there, passes)

-- one passes
pub any_of : {X : Type 0} (test : X → Bool) (xs : List X) → list_any test xs ≡ true → (x : X) × Contains xs x × (test x ≡ true)
any_of test [] e = absurd (false≢true e)
any_of test (x ∷ xs) e = any_case test x xs (test x) refl e (any_of test xs)

no_case : {X : Type 0} (test : X → Bool) (x : X) (xs : List X) (b : Bool) → test x ≡ b → list_any test (x ∷ xs) ≡ false → (list_any test xs ≡ false → All (λ y. test y ≡ false) xs) → All (λ y. test y ≡ false) (x ∷ xs)
no_case test x xs true is e rest = absurd (false≢true (sym e ∙ ap (λ b. b || list_any test xs) is))
no_case test x xs false is e rest = All-cons (λ y. test y ≡ false) x xs is (rest (sym (ap (λ b. b || list_any test xs) is) ∙ e))

-- none does
pub none_of : {X : Type 0} (test : X → Bool) (xs : List X) → list_any test xs ≡ false → All (λ x. test x ≡ false) xs
none_of test [] e = All-nil (λ x. test x ≡ false)
none_of test (x ∷ xs) e = no_case test x xs (test x) refl e (none_of test xs)

-- ---- ends

section_ends : (s : SectionLine) → section_overflows s ≡ false → (s.mem_offset + s.mem_size < 2 ^ 64) × (s.file_offset + s.file_size < 2 ^ 64)
unfolding section_overflows
section_ends s h = grind (arith, nat_tests)

section_ends_not : (s : SectionLine) → section_overflows s ≡ true → s.mem_offset + s.mem_size < 2 ^ 64 → s.file_offset + s.file_size < 2 ^ 64 → ⊥
unfolding section_overflows
section_ends_not s h m f = grind (arith, nat_tests)

segment_ends : (g : SegmentLine) → segment_overflows g ≡ false → (g.mem_offset + g.mem_size < 2 ^ 64) × (g.file_offset + g.file_size < 2 ^ 64)
unfolding segment_overflows
segment_ends g h = grind (arith, nat_tests)

segment_ends_not : (g : SegmentLine) → segment_overflows g ≡ true → g.mem_offset + g.mem_size < 2 ^ 64 → g.file_offset + g.file_size < 2 ^ 64 → ⊥
unfolding segment_overflows
segment_ends_not g h m f = grind (arith, nat_tests)

neither : {X Y : Type 0} (f : X → ℕ) (g : Y → ℕ) (a : Option X) (b : Option Y) → option_or (option_map f a) (option_map g b) ≡ None → (a ≡ None) × (b ≡ None)
neither f g None None e = (refl, refl)
neither f g None (Some y) e = cc
neither f g (Some x) b e = cc

one_of_them : {X Y : Type 0} (f : X → ℕ) (g : Y → ℕ) (a : Option X) (b : Option Y) (n : ℕ) → option_or (option_map f a) (option_map g b) ≡ Some n → ((x : X) × (a ≡ Some x)) ⊎ ((y : Y) × (b ≡ Some y))
one_of_them f g None None n e = cc
one_of_them f g None (Some y) n e = inr (y, refl)
one_of_them f g (Some x) b n e = inl (x, refl)

mapped_some : {X : Type 0} (f : X → ℕ) (a : Option X) (n : ℕ) → option_map f a ≡ Some n → (x : X) × (a ≡ Some x)
mapped_some f None n e = cc
mapped_some f (Some x) n e = (x, refl)

mapped_none : {X : Type 0} (f : X → ℕ) (a : Option X) → option_map f a ≡ None → a ≡ None
mapped_none f None e = refl
mapped_none f (Some x) e = cc

module _ (ss : List SectionLine) (gs : List SegmentLine) where
  pub all_end : first_overflow ss gs ≡ None →
      All (λ s. (s.mem_offset + s.mem_size < 2 ^ 64) × (s.file_offset + s.file_size < 2 ^ 64)) ss × All (λ g. (g.mem_offset + g.mem_size < 2 ^ 64) × (g.file_offset + g.file_size < 2 ^ 64)) gs
  unfolding first_overflow
  all_end e =
      let (a, b) = neither (λ s. s.line) (λ g. g.line) (find section_overflows ss) (find segment_overflows gs) e in (
        All-weaker (λ s. section_overflows s ≡ false) (λ s. (s.mem_offset + s.mem_size < 2 ^ 64) × (s.file_offset + s.file_size < 2 ^ 64)) section_ends ss (none_passes section_overflows ss a),
        All-weaker (λ g. segment_overflows g ≡ false) (λ g. (g.mem_offset + g.mem_size < 2 ^ 64) × (g.file_offset + g.file_size < 2 ^ 64)) segment_ends gs (none_passes segment_overflows gs b),
      )

  overflow_not : (n : ℕ) → first_overflow ss gs ≡ Some n → IsGood ss gs → ⊥
  unfolding first_overflow
  overflow_not n e good =
      ⊎_elim
      (λ (w : (s : SectionLine) × (find section_overflows ss ≡ Some s)).
      let (there, over) = found section_overflows ss w.0 w.1 in
      let fits = All-contains (λ s. (s.mem_offset + s.mem_size < 2 ^ 64) × (s.file_offset + s.file_size < 2 ^ 64)) ss w.0 good.sections_end there in
      section_ends_not w.0 over fits.0 fits.1)
      (λ (w : (g : SegmentLine) × (find segment_overflows gs ≡ Some g)).
      let (there, over) = found segment_overflows gs w.0 w.1 in
      let fits = All-contains (λ g. (g.mem_offset + g.mem_size < 2 ^ 64) × (g.file_offset + g.file_size < 2 ^ 64)) gs w.0 good.segments_end there in
      segment_ends_not w.0 over fits.0 fits.1)
      (one_of_them (λ s. s.line) (λ g. g.line) (find section_overflows ss) (find segment_overflows gs) n e)

-- ---- overlaps

swapped : {P Q : Type 0} → P ⊎ Q → Q ⊎ P
swapped (inl p) = inr p
swapped (inr q) = inl q

apart_pair : (x y : Span) → 0 < y.size → Overlaps x y → (x.start + x.size ≤ y.start) ⊎ (y.start + y.size ≤ x.start) → ⊥
apart_pair x y some (before, low) apart = grind arith

apart_same : (x y : Span) → x ≡ y → IsBefore x y → ⊥
apart_same x y same before =
    let starts : x.start ≡ y.start = ap (λ s. s.start) same in
    let lines : x.line ≡ y.line = ap (λ s. s.line) same in
    grind arith

and_parts : (a b : Bool) → (a && b) ≡ true → (a ≡ true) × (b ≡ true)
and_parts true b e = (refl, e)
and_parts false b e = absurd (false≢true e)

and_whole : {a b : Bool} → a ≡ true → b ≡ true → (a && b) ≡ true
and_whole p q = rw (p, q) refl

apart_both : (spans : List Span) (x y : Span) → AreApart spans → Contains spans x → Contains spans y → 0 < y.size → Overlaps x y → ⊥
apart_both spans x y apart (a, in_a, is_a) (b, in_b, is_b) some overlap =
    let at_y : get_or spans b x ≡ y = get_or_default spans b x y in_b ∙ is_b in
    ⊎_elim
    (λ (e : a ≡ b). let same : x ≡ y = sym is_a ∙ ap (λ n. get_or spans n x) e ∙ at_y in apart_same x y same overlap.0)
    (λ (ne : a ≡ b → ⊥). ⊎_elim
    (λ (h : a < b). apart_pair x y some overlap (rw (is_a, at_y) at (apart a b x h in_b)))
    (λ (h : b ≤ a). apart_pair x y some overlap (swapped (rw (at_y, is_a) at (apart b a x (omega arith) in_a))))
    (cases_lt a b))
    (cases_eq a b)

pub counted_in_memory : (s : SectionLine) → counts_in_memory s ≡ true → 0 < s.mem_size
unfolding counts_in_memory
counted_in_memory s h =
    let some = (and_parts (nat_lt 0 s.mem_size) (is_allocated s && not (is_set 8 s.attrs && is_set 16 s.attrs)) h).0 in
    grind (arith, nat_tests)

pub counted_in_file : (s : SectionLine) → counts_in_file s ≡ true → 0 < s.file_size
unfolding counts_in_file
counted_in_file s h = grind (arith, nat_tests)

-- ranges of sections that count have bytes
pub have_bytes : (counts : SectionLine → Bool) (span : SectionLine → Span) → ((s : SectionLine) → counts s ≡ true → 0 < (span s).size) → (ss : List SectionLine) → All (λ x. 0 < x.size) (map span (filter counts ss))
have_bytes counts span some ss =
    All-map (λ (x : Span). 0 < x.size) span (filter counts ss) (All-weaker (λ s. counts s ≡ true) (λ s. 0 < (span s).size) some (filter counts ss) (filter_passes counts ss))

pub overlap_not : (spans : List Span) (lines : ℕ × ℕ) → All (λ x. 0 < x.size) spans → FindsOverlap spans (Some lines) → AreApart spans → ⊥
unfolding FindsOverlap
overlap_not spans lines bytes (x, y, first, low, high) apart =
    apart_both spans x y apart first.one first.other (All-contains (λ x. 0 < x.size) spans y bytes first.other) first.overlap

-- ---- segments

le_is : (a b : ℕ) → nat_le a b ≡ true → a ≤ b
le_is a b h = grind (arith, nat_tests)

is_le : (a b : ℕ) → a ≤ b → nat_le a b ≡ true
is_le a b h = grind (arith, nat_tests)

is_equal : (a b : ℕ) → (a == b) ≡ true → a ≡ b
is_equal a b h = grind (arith, nat_tests)

equal_is : (a b : ℕ) → a ≡ b → (a == b) ≡ true
equal_is a b h = grind (arith, nat_tests)

within_parts : (start size outer bytes : ℕ) → is_within start size outer bytes ≡ true → (outer ≤ start) × (start + size ≤ outer + bytes)
within_parts start size outer bytes h =
    let (from, to) = and_parts (nat_le outer start) (nat_le (start + size) (outer + bytes)) h in
    (le_is outer start from, le_is (start + size) (outer + bytes) to)

within_whole : (start size outer bytes : ℕ) → outer ≤ start → start + size ≤ outer + bytes → is_within start size outer bytes ≡ true
within_whole start size outer bytes h k = and_whole (is_le outer start h) (is_le (start + size) (outer + bytes) k)

-- what the check tests is so, and where it is so the test passes
pub held_by : (g : SegmentLine) (s : SectionLine) → holds g s ≡ true → IsHeldBy g s
unfolding holds
held_by g s h =
    let (m, rest) = and_parts (is_within s.mem_offset s.mem_size g.mem_offset g.mem_size) (is_within s.file_offset s.file_size g.file_offset g.file_size && (g.mem_offset + s.file_offset == s.mem_offset + g.file_offset)) h in
    let (f, same) = and_parts (is_within s.file_offset s.file_size g.file_offset g.file_size) (g.mem_offset + s.file_offset == s.mem_offset + g.file_offset) rest in
    let (m_from, m_to) = within_parts s.mem_offset s.mem_size g.mem_offset g.mem_size m in
    let (f_from, f_to) = within_parts s.file_offset s.file_size g.file_offset g.file_size f in
    record { memory_from = m_from; memory_to = m_to; file_from = f_from; file_to = f_to; distance = is_equal (g.mem_offset + s.file_offset) (s.mem_offset + g.file_offset) same }

pub held_so : (g : SegmentLine) (s : SectionLine) → IsHeldBy g s → holds g s ≡ true
unfolding holds
held_so g s h =
    and_whole (within_whole s.mem_offset s.mem_size g.mem_offset g.mem_size h.memory_from h.memory_to)
    (and_whole (within_whole s.file_offset s.file_size g.file_offset g.file_size h.file_from h.file_to) (equal_is (g.mem_offset + s.file_offset) (s.mem_offset + g.file_offset) h.distance))

not_not : (b : Bool) → not b ≡ false → b ≡ true
not_not true e = refl
not_not false e = absurd (false≢true (sym e))

both_of : (a b : Bool) → (a && not b) ≡ true → (a ≡ true) × (b ≡ false)
both_of true true e = absurd (false≢true e)
both_of true false e = (refl, refl)
both_of false b e = absurd (false≢true e)

module _ (ss : List SectionLine) (gs : List SegmentLine) where
  all_held : first_outside ss gs ≡ None → (s : SectionLine) → Contains ss s → needs_segment s ≡ true → (g : SegmentLine) × Contains gs g × IsHeldBy g s
  unfolding first_outside is_outside
  all_held e s there needs =
      let none : is_outside gs s ≡ false = All-contains (λ t. is_outside gs t ≡ false) ss s (none_passes (is_outside gs) ss (mapped_none (λ t. t.line) (find (is_outside gs) ss) e)) there in
      let any : list_any (λ g. holds g s) gs ≡ true = not_not (list_any (λ g. holds g s) gs) (sym (ap (λ b. b && not (list_any (λ g. holds g s) gs)) needs) ∙ none) in
      let (g, in_gs, held) = any_of (λ g. holds g s) gs any in
      (g, in_gs, held_by g s held)

  outside_not : (n : ℕ) → first_outside ss gs ≡ Some n → IsGood ss gs → ⊥
  unfolding first_outside is_outside
  outside_not n e good =
      let (s, is) = mapped_some (λ t. t.line) (find (is_outside gs) ss) n e in
      let (there, out) = found (is_outside gs) ss s is in
      let (needs, none) = both_of (needs_segment s) (list_any (λ g. holds g s) gs) out in
      let (g, in_gs, held) = good.held s there needs in
      false≢true (sym (All-contains (λ g. holds g s ≡ false) gs g (none_of (λ g. holds g s) gs none) in_gs) ∙ held_so g s held)

-- ---- the check

pub judged_tells : (r : Result (Unit {0}) MapFault) (ss : List SectionLine) (gs : List SegmentLine) → Judges r ss gs → TellsGood r ss gs
judged_tells (Ok u) ss gs (ends, memory, file, inside) =
    let (sections, segments) = all_end ss gs ends in
    record { sections_end = sections; segments_end = segments; apart_in_memory = memory; apart_in_file = file; held = all_held ss gs inside }
judged_tells (Err (Overflow line)) ss gs over = overflow_not ss gs line over
judged_tells (Err (MemOverlap a b)) ss gs (ends, overlap) = λ good. overlap_not (memory_spans ss) (a, b) (have_bytes counts_in_memory memory_span counted_in_memory ss) overlap good.apart_in_memory
judged_tells (Err (FileOverlap a b)) ss gs (ends, memory, overlap) = λ good. overlap_not (file_spans ss) (a, b) (have_bytes counts_in_file file_span counted_in_file ss) overlap good.apart_in_file
judged_tells (Err (NoSegment line)) ss gs (ends, memory, file, outside) = outside_not ss gs line outside
judged_tells (Err NoMemory) ss gs h = tt

-- ---- congruence

equal_distance : (g : SegmentLine) (s : SectionLine) → IsHeldBy g s → s.mem_offset - g.mem_offset ≡ s.file_offset - g.file_offset
equal_distance g s h =
    let a = h.memory_from in
    let b = h.file_from in
    let c = h.distance in
    omega arith

pub congruent_everywhere : GoodMapsAreCongruent
congruent_everywhere ss gs good s there needs =
    let (g, in_gs, held) = good.held s there needs in
    (g, in_gs, held, λ m. ap (λ n. n % m) (equal_distance g s held))
