-- The groups of inputs hold each offset and each piece once.
use Rattle.std.proofs.Common.{◌≡◌, ℕ, zero, suc, ◌<◌, ◌≤◌, Bool, true, false, cond, ◌&&◌, leb, ltb, List, [], ◌∷◌, ◌++◌, map, filter, Some, refl, sym, ap, ◌∙◌, subst, arith, inl, inr, ⊎_elim}
use Rattle.std.specs.List.{flat_map, list_all, slice_get}
use Rattle.std.proofs.lemmas.Bool.{cases_lt, le-leb, le-ltb, lt-leb, lt-ltb}
use Rattle.std.proofs.lemmas.List.{map-append}
use Rattle.lk_merge.specs.declared.groups.SectionGroup.{SectionGroup}
use Rattle.lk_merge.specs.Groups.{AreGroups, CutsNoConstant, GroupsCover, IsGroupEnd, IsWholeOrOutside, group_pieces}
use Rattle.lk_merge.specs.Inputs.{Located, located, padded_total}
use Rattle.lk_merge.specs.Pieces.{Piece, MergeInput, is_terminated}
use Rattle.lk_merge.proofs.GoodPieces.{good_pieces}
use Rattle.lk_merge.proofs.GroupsThere.{groups_there}
use Rattle.lk_merge.proofs.InputLemmas.{pieces_located_from}
use Rattle.lk_merge.proofs.LocatedLemmas.{Rise, between_from, rise_from}

-- ---- one group and the others

pub record IsFirstGroup (xs : List MergeInput) (size start : ℕ) (g : SectionGroup) (gs : List SectionGroup) : Type 0 where
  pub starts : g.start ≡ start
  pub some : g.start < g.end
  pub ends : IsGroupEnd xs size g.start g.end
  pub rest : AreGroups xs size g.end gs

first_group : (xs : List MergeInput) (size start : ℕ) (g : SectionGroup) (gs : List SectionGroup) → AreGroups xs size start (g ∷ gs) → IsFirstGroup xs size start g gs
unfolding AreGroups
first_group xs size start g gs h = record { starts = h.0; some = h.1; ends = h.2; rest = h.3 }

no_group : (xs : List MergeInput) (size start : ℕ) → AreGroups xs size start [] → start ≡ padded_total xs
unfolding AreGroups
no_group xs size start h = h

module _ (xs : List MergeInput) (size : ℕ) where
  each : (start : ℕ) (gs : List SectionGroup) (at : ℕ) → AreGroups xs size start gs → start ≤ at → at < padded_total xs
      → (k : ℕ) × (g : SectionGroup) × (slice_get gs k ≡ Some g) × (g.start ≤ at) × (at < g.end)
  each start [] at h from below = absurd (let end = no_group xs size start h in omega (arith, end, from, below))
  each start (g ∷ gs) at h from below =
      let f = first_group xs size start g gs h in
      ⊎_elim
      (λ inside. let begins = f.starts in (0, g, refl, omega (arith, begins, from), inside))
      (λ behind. let later = each g.end gs at f.rest behind below in (suc later.0, later.1, later.2, later.3, later.4)) (cases_lt at g.end)

  -- groups stand behind the start
  behind : (start : ℕ) (gs : List SectionGroup) (k : ℕ) (g : SectionGroup) → AreGroups xs size start gs → slice_get gs k ≡ Some g → start ≤ g.start
  behind start [] k g h there = absurd (cc)
  behind start (d ∷ gs) zero g h there =
      let f = first_group xs size start d gs h in
      let same : d ≡ g = cc in
      let starts : d.start ≡ g.start = ap (λ (x : SectionGroup). x.start) same in
      let begins = f.starts in
      omega (arith, begins, starts)
  behind start (d ∷ gs) (suc k) g h there =
      let f = first_group xs size start d gs h in
      let later = behind d.end gs k g f.rest there in
      let begins = f.starts in
      let some = f.some in
      omega (arith, begins, some, later)

  follow : (start : ℕ) (gs : List SectionGroup) (j k : ℕ) (g d : SectionGroup) → AreGroups xs size start gs → j < k → slice_get gs j ≡ Some g → slice_get gs k ≡ Some d
      → g.end ≤ d.start
  follow start [] j k g d h before g_at d_at = absurd (cc)
  follow start (x ∷ gs) j zero g d h before g_at d_at = absurd (omega (arith, before))
  follow start (x ∷ gs) zero (suc k) g d h before g_at d_at =
      let f = first_group xs size start x gs h in
      let same : x ≡ g = cc in
      let ends : x.end ≡ g.end = ap (λ (y : SectionGroup). y.end) same in
      let later = behind x.end gs k d f.rest d_at in
      omega (arith, ends, later)
  follow start (x ∷ gs) (suc j) (suc k) g d h before g_at d_at =
      let f = first_group xs size start x gs h in
      follow x.end gs j k g d f.rest (omega (arith, before)) g_at d_at

  -- a group that isn't empty, between two good cuts
  record IsGood (g : SectionGroup) : Type 0 where
    some : g.start < g.end
    within : g.end ≤ padded_total xs
    from : CutsNoConstant xs g.start
    to : CutsNoConstant xs g.end

  good : (start : ℕ) (gs : List SectionGroup) (k : ℕ) (g : SectionGroup) → AreGroups xs size start gs → CutsNoConstant xs start → slice_get gs k ≡ Some g → IsGood g
  good start [] k g h cut there = absurd (cc)
  good start (d ∷ gs) zero g h cut there =
      let f = first_group xs size start d gs h in
      let same : d ≡ g = cc in
      subst IsGood same (record { some = f.some; within = f.ends.within; from = subst (CutsNoConstant xs) (sym f.starts) cut; to = f.ends.cuts_none })
  good start (d ∷ gs) (suc k) g h cut there = let f = first_group xs size start d gs h in good d.end gs k g f.rest f.ends.cuts_none there

  begin_cuts_none : CutsNoConstant xs 0
  begin_cuts_none k x there one = inl (omega arith)

  whole_by : (k : ℕ) (x : MergeInput) (g : SectionGroup) → IsGood g → slice_get xs k ≡ Some x → x.strings ≡ false → IsWholeOrOutside xs g k x
  whole_by k x g is there one = ⊎_elim
      (λ later. ⊎_elim (λ past. inr (inl past)) (λ inside. inr (inr (later, inside))) (is.to k x there one))
      (λ before. inl before) (is.from k x there one)

  one_end : (start a b : ℕ) → IsGroupEnd xs size start a → IsGroupEnd xs size start b → a < b → ⊥
  one_end start a b h k less = ⊎_elim
      (λ far. k.first a far less h.cuts_none)
      (λ last. let within = k.within in omega (arith, last, within, less)) h.reaches

  same_end : (start a b : ℕ) → IsGroupEnd xs size start a → IsGroupEnd xs size start b → a ≡ b
  same_end start a b h k = ⊎_elim (λ less. absurd (one_end start a b h k less)) (λ more. ⊎_elim (λ less. absurd (one_end start b a k h less)) (λ back. omega (arith, more, back)) (cases_lt b a)) (cases_lt a b)

  one_list : (start : ℕ) (gs hs : List SectionGroup) → AreGroups xs size start gs → AreGroups xs size start hs → gs ≡ hs
  one_list start [] [] h k = refl
  one_list start [] (d ∷ hs) h k =
      let f = first_group xs size start d hs k in
      let end = no_group xs size start h in
      let some = f.some in
      let within = f.ends.within in
      let begins = f.starts in
      absurd (omega (arith, end, some, within, begins))
  one_list start (g ∷ gs) [] h k =
      let f = first_group xs size start g gs h in
      let end = no_group xs size start k in
      let some = f.some in
      let within = f.ends.within in
      let begins = f.starts in
      absurd (omega (arith, end, some, within, begins))
  one_list start (g ∷ gs) (d ∷ hs) h k =
      let f = first_group xs size start g gs h in
      let e = first_group xs size start d hs k in
      let starts : g.start ≡ d.start = f.starts ∙ sym e.starts in
      let ends : g.end ≡ d.end = same_end g.start g.end d.end f.ends (subst (λ n. IsGroupEnd xs size n d.end) (sym starts) e.ends) in
      let rest : gs ≡ hs = one_list g.end gs hs f.rest (subst (λ n. AreGroups xs size n hs) (sym ends) e.rest) in
      λ i. record { start = starts i; end = ends i } ∷ rest i

-- ---- pieces

abbrev pub in_range : ℕ → ℕ → Located → Bool
in_range a b l = leb a l.start && ltb l.start b

in_step : (a b : ℕ) (l : Located) (ls : List Located) (t : Bool) → in_range a b l ≡ t → filter (in_range a b) (l ∷ ls) ≡ cond t (l ∷ filter (in_range a b) ls) (filter (in_range a b) ls)
in_step a b l ls t e = ap (λ c. cond c (l ∷ filter (in_range a b) ls) (filter (in_range a b) ls)) e

from_step : (a : ℕ) (l : Located) (ls : List Located) (t : Bool) → leb a l.start ≡ t
    → filter (λ (x : Located). leb a x.start) (l ∷ ls) ≡ cond t (l ∷ filter (λ (x : Located). leb a x.start) ls) (filter (λ (x : Located). leb a x.start) ls)
from_step a l ls t e = ap (λ c. cond c (l ∷ filter (λ (x : Located). leb a x.start) ls) (filter (λ (x : Located). leb a x.start) ls)) e

-- all pieces start at an offset or behind it
abbrev pub AllFrom : ℕ → List Located → Type 0
AllFrom b ls = (k : ℕ) (l : Located) → slice_get ls k ≡ Some l → b ≤ l.start

inside : (a b : ℕ) (l : Located) → a ≤ l.start → l.start < b → in_range a b l ≡ true
inside a b l from to = ap (λ t. t && ltb l.start b) (le-leb a l.start from) ∙ lt-ltb l.start b to

and_false : (t : Bool) → (t && false) ≡ false
and_false true = refl
and_false false = refl

past : (a b : ℕ) (l : Located) → b ≤ l.start → in_range a b l ≡ false
past a b l far = ap (λ t. leb a l.start && t) (le-ltb l.start b far) ∙ and_false (leb a l.start)

pub none_inside : (a b : ℕ) (ls : List Located) → AllFrom b ls → filter (in_range a b) ls ≡ []
none_inside a b [] h = refl
none_inside a b (l ∷ ls) h = in_step a b l ls false (past a b l (h 0 l refl)) ∙ none_inside a b ls (λ k m e. h (suc k) m e)

rest_rise : (l : Located) (ls : List Located) → Rise (l ∷ ls) → Rise ls
rest_rise l ls h i j m n below m_at n_at = h (suc i) (suc j) m n (omega (arith, below)) m_at n_at

cut_range : (a b : ℕ) (ls : List Located) → Rise ls → a ≤ b
    → filter (in_range a b) ls ++ filter (λ (x : Located). leb b x.start) ls ≡ filter (λ (x : Located). leb a x.start) ls
cut_range a b [] h ordered = refl
cut_range a b (l ∷ ls) h ordered =
    let rest : filter (in_range a b) ls ++ filter (λ (x : Located). leb b x.start) ls ≡ filter (λ (x : Located). leb a x.start) ls
    = cut_range a b ls (rest_rise l ls h) ordered in
    ⊎_elim
    (λ before.
    (λ i. in_step a b l ls false (ap (λ t. t && ltb l.start b) (lt-leb a l.start before)) i ++ from_step b l ls false (lt-leb b l.start (omega (arith, before, ordered))) i)
    ∙ rest ∙ sym (from_step a l ls false (lt-leb a l.start before)))
    (λ from. ⊎_elim
    (λ within.
    (λ i. in_step a b l ls true (inside a b l from within) i ++ from_step b l ls false (lt-leb b l.start within) i)
    ∙ ap (λ (m : List Located). l ∷ m) rest ∙ sym (from_step a l ls true (le-leb a l.start from)))
    (λ far.
    let none : filter (in_range a b) ls ≡ [] = none_inside a b ls (λ k m e. let rise = h 0 (suc k) l m (omega arith) refl e in omega (arith, rise, far)) in
    (λ i. in_step a b l ls false (past a b l far) i ++ from_step b l ls true (le-leb b l.start far) i)
    ∙ ap (λ (m : List Located). m ++ l ∷ filter (λ (x : Located). leb b x.start) ls) none
    ∙ ap (λ (m : List Located). l ∷ m) (sym (ap (λ (m : List Located). m ++ filter (λ (x : Located). leb b x.start) ls) none) ∙ rest)
    ∙ sym (from_step a l ls true (le-leb a l.start from))) (cases_lt l.start b)) (cases_lt l.start a)

none_from : (a : ℕ) (ls : List Located) → ((k : ℕ) (l : Located) → slice_get ls k ≡ Some l → l.start < a) → filter (λ (x : Located). leb a x.start) ls ≡ []
none_from a [] h = refl
none_from a (l ∷ ls) h = from_step a l ls false (lt-leb a l.start (h 0 l refl)) ∙ none_from a ls (λ k m e. h (suc k) m e)

all_from : (ls : List Located) → filter (λ (x : Located). leb 0 x.start) ls ≡ ls
all_from [] = refl
all_from (l ∷ ls) = from_step 0 l ls true (le-leb 0 l.start (omega arith)) ∙ ap (λ (m : List Located). l ∷ m) (all_from ls)

abbrev piece : Located → Piece
piece l = l.piece

pieces_from : (xs : List MergeInput) (size start : ℕ) (gs : List SectionGroup) → Rise (located xs) → ((k : ℕ) (l : Located) → slice_get (located xs) k ≡ Some l → l.start < padded_total xs)
    → AreGroups xs size start gs → flat_map (group_pieces xs) gs ≡ map piece (filter (λ (x : Located). leb start x.start) (located xs))
pieces_from xs size start [] rise below h =
    let end = no_group xs size start h in
    ap (map piece) (sym (none_from start (located xs) (λ k l e. let less = below k l e in omega (arith, less, end))))
pieces_from xs size start (g ∷ gs) rise below h =
    let f = first_group xs size start g gs h in
    let some = f.some in
    let later = pieces_from xs size g.end gs rise below f.rest in
    ap (λ (ps : List Piece). group_pieces xs g ++ ps) later
    ∙ sym (map-append piece (filter (in_range g.start g.end) (located xs)) (filter (λ (x : Located). leb g.end x.start) (located xs)))
    ∙ ap (map piece) (cut_range g.start g.end (located xs) rise (omega (arith, some)))
    ∙ ap (λ n. map piece (filter (λ (x : Located). leb n x.start) (located xs))) f.starts

-- the same for the pieces in their places
located_from_on : (xs : List MergeInput) (size start : ℕ) (gs : List SectionGroup) → Rise (located xs) → ((k : ℕ) (l : Located) → slice_get (located xs) k ≡ Some l → l.start < padded_total xs)
    → AreGroups xs size start gs → flat_map (λ (x : SectionGroup). filter (in_range x.start x.end) (located xs)) gs ≡ filter (λ (x : Located). leb start x.start) (located xs)
located_from_on xs size start [] rise below h =
    let end = no_group xs size start h in
    sym (none_from start (located xs) (λ k l e. let less = below k l e in omega (arith, less, end)))
located_from_on xs size start (g ∷ gs) rise below h =
    let f = first_group xs size start g gs h in
    let some = f.some in
    ap (λ (ls : List Located). filter (in_range g.start g.end) (located xs) ++ ls) (located_from_on xs size g.end gs rise below f.rest)
    ∙ cut_range g.start g.end (located xs) rise (omega (arith, some)) ∙ ap (λ n. filter (λ (x : Located). leb n x.start) (located xs)) f.starts

pub located_in_groups : (xs : List MergeInput) (size : ℕ) (gs : List SectionGroup) → list_all is_terminated xs ≡ true → AreGroups xs size 0 gs
    → flat_map (λ (x : SectionGroup). filter (in_range x.start x.end) (located xs)) gs ≡ located xs
located_in_groups xs size gs terminated h =
    let good_ones = good_pieces xs terminated in
    located_from_on xs size 0 gs (rise_from 0 0 xs good_ones)
    (λ k l e. let b = between_from 0 0 xs k l good_ones e in let some = b.some in let to = b.to in omega (arith, some, to)) h
    ∙ all_from (located xs)

-- ---- the law

pub groups_cover : GroupsCover
groups_cover = record {
  each = λ xs size gs at h below. each xs size 0 gs at h (omega arith) below;
  follow = λ xs size gs j k g d h. follow xs size 0 gs j k g d h;
  some = λ xs size gs k g h there. let is = good xs size 0 gs k g h (begin_cuts_none xs size) there in (is.some, is.within);
  whole = λ xs size gs j k g x h g_at x_at one. whole_by xs size k x g (good xs size 0 gs j g h (begin_cuts_none xs size) g_at) x_at one;
  pieces = λ xs size gs terminated h.
      let good_ones = good_pieces xs terminated in
      pieces_from xs size 0 gs (rise_from 0 0 xs good_ones)
      (λ k l e. let b = between_from 0 0 xs k l good_ones e in let some = b.some in let to = b.to in omega (arith, some, to)) h
      ∙ ap (map piece) (all_from (located xs)) ∙ pieces_located_from 0 0 xs;
  there = λ xs size some. groups_there xs size some (padded_total xs) 0 (omega arith) (omega arith);
  one = λ xs size gs hs. one_list xs size 0 gs hs;
}
