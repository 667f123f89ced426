-- What is taken into a set, one symbol more.
use Rattle.std.proofs.Common.{◌≡◌, ℕ, zero, suc, ◌+◌, ◌<◌, ◌≤◌, ◌==◌, ◌&&◌, ◌||◌, Bool, true, false, if◌then◌else◌, List, [], ◌∷◌, filter, inl, inr, get_or, length, nat_lt, replicate, Some, take, refl, sym, ap, add-one, ◌∙◌, arith}
use Rattle.std.proofs.Math.Dec.{eqb-suc-suc, eqb-suc-zero, eqb-zero-suc}
use Rattle.std.specs.List.{enumerate_from, list_any, range_with_len}
use Rattle.std.specs.List.Sorted.{IsNonDecreasingBy, IsPermutation}
use Rattle.std.proofs.lemmas.Bool.{cases_Bool, le-ltb, lt-ltb, ltb-true}
use Rattle.std.proofs.lemmas.List.Sorted.{sum_by-IsPermutation}
use Rattle.std.proofs.Math.Bool.{or_assoc}
use Rattle.std.proofs.lemmas.List.{length-replicate, take_all}
use Rattle.std.proofs.lemmas.List.Folds.{list_any_more}
use Rattle.std.proofs.lemmas.List.FromFn.{get_or-enumerate_from, length-enumerate_from}
use Rattle.lk_link.specs.declared.link.LinkInput.{LinkInput}
use Rattle.lk_link.specs.Marks.{is_marked}
use Rattle.lk_live.specs.declared.live.Live.{Live}
use Rattle.lk_live.specs.Primary.{ArePrimaryReferences}
use Rattle.lk_live.proofs.PrimaryReach.{is_named, named_is}
use Rattle.std.specs.Option.{option_map_or}
use Rattle.lk_link.specs.declared.file.InputFile.{InputFile}
use Rattle.lk_link.specs.declared.ids.FileId.{FileId}
use Rattle.lk_link.specs.declared.symbol.InputSymbol.{InputSymbol}
use Rattle.lk_link.specs.Files.{file_in}
use Rattle.lk_link.specs.Symbols.{first_symbol}
use Rattle.lk_link.specs.Symbols.{all_symbols}
use Rattle.lk_thunks.specs.Noting.{AreElsewhere, AreFresh, AreNoted}
use Rattle.lk_thunks.specs.ThunkSets.{Planning, has_thunk, is_named_elsewhere, is_needed_for, needs_thunk, thunk_set}
use Rattle.lk_thunks.proofs.Rising.{bit, is_filter, one, own, own_is, rises}

-- by another test that tells the same
pub noted_as : (stamp : ℕ) (test other : ℕ → Bool) (stamps set : List ℕ) → ((d : ℕ) → test d ≡ other d) → AreNoted stamp test stamps set → AreNoted stamp other stamps set
noted_as stamp test other stamps set same h = record {
  told = λ d lt. h.told d lt ∙ same d;
  once = λ d. h.once d ∙ ap (λ (b : Bool). if nat_lt d (length stamps) && b then 1 else 0) (same d);
  few = h.few;
}

-- one element more of a list that is walked
pub one_more : {X : Type 0} (p : ℕ → X → Bool) (xs : List X) (i : ℕ) (x : X) (test : ℕ → Bool) (stamp : ℕ) (stamps set : List ℕ) → i < length xs → get_or xs i x ≡ x
    → AreNoted stamp (λ d. (test d || list_any (p d) (take i xs)) || p d x) stamps set
    → AreNoted stamp (λ d. test d || list_any (p d) (take (i + 1) xs)) stamps set
one_more p xs i x test stamp stamps set lt at h =
    noted_as stamp (λ d. (test d || list_any (p d) (take i xs)) || p d x) (λ d. test d || list_any (p d) (take (i + 1) xs)) stamps set
    (λ d. or_assoc (test d) (list_any (p d) (take i xs)) (p d x)
    ∙ ap (λ b. test d || b) (sym (list_any_more (p d) xs i x lt ∙ ap (λ y. list_any (p d) (take i xs) || p d y) at)))
    h

-- all elements
pub all_taken : {X : Type 0} (p : ℕ → X → Bool) (xs : List X) (i : ℕ) (test : ℕ → Bool) (stamp : ℕ) (stamps set : List ℕ) → length xs ≤ i
    → AreNoted stamp (λ d. test d || list_any (p d) (take i xs)) stamps set → AreNoted stamp (λ d. test d || list_any (p d) xs) stamps set
all_taken p xs i test stamp stamps set le h =
    noted_as stamp (λ d. test d || list_any (p d) (take i xs)) (λ d. test d || list_any (p d) xs) stamps set (λ d. ap (λ ys. test d || list_any (p d) ys) (take_all i xs le)) h

-- one numbered element more
pub numbered_more : {X : Type 0} (p : ℕ → ℕ × X → Bool) (xs : List X) (first i : ℕ) (x : X) (n : ℕ) (test : ℕ → Bool) (stamp : ℕ) (stamps set : List ℕ) → i < length xs → get_or xs i x ≡ x
    → n ≡ first + i
    → AreNoted stamp (λ d. (test d || list_any (p d) (take i (enumerate_from first xs))) || p d (n, x)) stamps set
    → AreNoted stamp (λ d. test d || list_any (p d) (take (i + 1) (enumerate_from first xs))) stamps set
numbered_more p xs first i x n test stamp stamps set lt at is h =
    one_more p (enumerate_from first xs) i (n, x) test stamp stamps set (omega (arith, lt, length-enumerate_from first xs))
    (get_or-enumerate_from first xs i (n, x) lt ∙ ap (λ m. (m, get_or xs i x)) (sym is) ∙ ap (λ y. (n, y)) at) h

or_none : (m b : Bool) → m ≡ (m || (b && false))
or_none true b = refl
or_none false true = refl
or_none false false = refl

and_true : (m : Bool) → m ≡ (false || (m && true))
and_true true = refl
and_true false = refl

-- one mark more
marked_suc : (marks : List Bool) (i d : ℕ) (e : Bool) → i < length marks → is_marked (take (suc i) marks) d ≡ (is_marked (take i marks) d || (get_or marks i e && (i == d)))
marked_suc [] i d e lt = absurd (omega arith)
marked_suc (m ∷ ms) zero zero e lt = and_true m
marked_suc (m ∷ ms) zero (suc d) e lt = or_none false m ∙ ap (λ b. false || (m && b)) (sym (eqb-zero-suc d))
marked_suc (m ∷ ms) (suc i) zero e lt = or_none m (get_or ms i e) ∙ ap (λ b. m || (get_or ms i e && b)) (sym (eqb-suc-zero i))
marked_suc (m ∷ ms) (suc i) (suc d) e lt = marked_suc ms i d e (omega arith) ∙ ap (λ b. is_marked (take i ms) d || (get_or ms i e && b)) (sym (eqb-suc-suc i d))

pub mark_more : (marks : List Bool) (i : ℕ) (e : Bool) (n : ℕ) (test : ℕ → Bool) (stamp : ℕ) (stamps set : List ℕ) → i < length marks → n ≡ i
    → AreNoted stamp (λ d. (test d || is_marked (take i marks) d) || (get_or marks i e && (n == d))) stamps set
    → AreNoted stamp (λ d. test d || is_marked (take (i + 1) marks) d) stamps set
mark_more marks i e n test stamp stamps set lt is h =
    noted_as stamp (λ d. (test d || is_marked (take i marks) d) || (get_or marks i e && (n == d))) (λ d. test d || is_marked (take (i + 1) marks) d) stamps set
    (λ d. or_assoc (test d) (is_marked (take i marks) d) (get_or marks i e && (n == d))
    ∙ ap (λ b. test d || b) (
    ap (λ m. is_marked (take i marks) d || (get_or marks i e && (m == d))) is
    ∙ sym (marked_suc marks i d e lt) ∙ ap (λ k. is_marked (take k marks) d) (sym (add-one i))
    ))
    h

pub all_marked : (marks : List Bool) (i : ℕ) (test : ℕ → Bool) (stamp : ℕ) (stamps set : List ℕ) → length marks ≤ i
    → AreNoted stamp (λ d. test d || is_marked (take i marks) d) stamps set → AreNoted stamp (λ d. test d || is_marked marks d) stamps set
all_marked marks i test stamp stamps set le h =
    noted_as stamp (λ d. test d || is_marked (take i marks) d) (λ d. test d || is_marked marks d) stamps set (λ d. ap (λ ys. test d || is_marked ys d) (take_all i marks le)) h

pub all_numbered : {X : Type 0} (p : ℕ → ℕ × X → Bool) (xs : List X) (first i : ℕ) (test : ℕ → Bool) (stamp : ℕ) (stamps set : List ℕ) → length xs ≤ i
    → AreNoted stamp (λ d. test d || list_any (p d) (take i (enumerate_from first xs))) stamps set
    → AreNoted stamp (λ d. test d || list_any (p d) (enumerate_from first xs)) stamps set
all_numbered p xs first i test stamp stamps set le h = all_taken p (enumerate_from first xs) i test stamp stamps set (omega (arith, le, length-enumerate_from first xs)) h

-- one object more
pub object_noted : (by : Planning) (o : FileId × ℕ × ℕ) (file : InputFile) (first : ℕ) (symbols : List InputSymbol) (test : ℕ → Bool) (stamp : ℕ) (stamps set : List ℕ)
    → Some file ≡ file_in by.link.groups o.0 → first ≡ first_symbol by.link.groups o.0 → symbols ≡ file.symbols
    → AreNoted stamp (λ d. test d || list_any (is_needed_for by o d) (enumerate_from first symbols)) stamps set
    → AreNoted stamp (λ d. test d || needs_thunk by d o) stamps set
object_noted by o file first symbols test stamp stamps set there is own h =
    noted_as stamp (λ d. test d || list_any (is_needed_for by o d) (enumerate_from first symbols)) (λ d. test d || needs_thunk by d o) stamps set
    (λ d. ap (λ b. test d || b) (
    ap (λ n. list_any (is_needed_for by o d) (enumerate_from n symbols)) is ∙ ap (λ xs. list_any (is_needed_for by o d) (enumerate_from (first_symbol by.link.groups o.0) xs)) own
    ∙ ap (λ f. option_map_or (λ f. list_any (is_needed_for by o d) (enumerate_from (first_symbol by.link.groups o.0) f.symbols)) f false) there
    ))
    h

-- by another test that tells the same of the symbols that have stamps
noted_below : (stamp : ℕ) (test other : ℕ → Bool) (stamps set : List ℕ) → ((d : ℕ) → d < length stamps → test d ≡ other d) → AreNoted stamp test stamps set → AreNoted stamp other stamps set
noted_below stamp test other stamps set same h = record {
  told = λ d lt. h.told d lt ∙ same d lt;
  once = λ d. h.once d ∙ elim (cases_Bool (nat_lt d (length stamps))) [
    | inl inside ↦ ap (λ (b : Bool). if nat_lt d (length stamps) && b then 1 else 0) (same d (ltb-true d (length stamps) inside))
    | inr outside ↦ ap (λ (b : Bool). if b && test d then 1 else 0) outside ∙ sym (ap (λ (b : Bool). if b && other d then 1 else 0) outside)
  ];
  few = h.few;
}

-- what is taken, in order, is what passes the test
pub set_made : (stamp : ℕ) (test : ℕ → Bool) (stamps set sorted : List ℕ) → AreNoted stamp test stamps set → IsNonDecreasingBy (λ s. s) sorted → IsPermutation set sorted
    → sorted ≡ filter test (range_with_len 0 (length stamps))
set_made stamp test stamps set sorted h rising kept =
    is_filter test (length stamps) 0 sorted (rises 0 sorted rising (λ d. omega (arith, often d, at_most_one (nat_lt d (length stamps) && test d))) (λ i lt. omega arith))
    (λ d le lt. often d ∙ ap (λ b. bit (b && test d)) (lt-ltb d (length stamps) (omega arith)))
    (λ d le. often d ∙ ap (λ b. bit (b && test d)) (le-ltb d (length stamps) (omega arith)))
  where
    often : (d : ℕ) → own d sorted ≡ bit (nat_lt d (length stamps) && test d)
    often d = sym (own_is d sorted) ∙ sum_by-IsPermutation (λ x. one x d) set sorted kept ∙ h.once d

    at_most_one : (b : Bool) → bit b ≤ 1
    at_most_one true = omega arith
    at_most_one false = omega arith

-- the set of a block
pub block_made : (by : Planning) (number : ℕ) (objects : List (FileId × ℕ × ℕ)) (marks : List Bool) (i stamp : ℕ) (stamps set symbols : List ℕ) → length objects ≤ i
    → AreElsewhere by.link by.live marks → length stamps ≡ length (all_symbols by.link.groups)
    → AreNoted stamp (λ d. list_any (needs_thunk by d) (take i objects) || ((number == 0) && is_marked marks d)) stamps set
    → ((st : ℕ) (test : ℕ → Bool) (ss : List ℕ) → AreNoted st test ss set → symbols ≡ filter test (range_with_len 0 (length ss)))
    → symbols ≡ thunk_set by number objects
block_made by number objects marks i stamp stamps set symbols le elsewhere count h made =
    made stamp (has_thunk by number objects) stamps
    (noted_below stamp (λ d. list_any (needs_thunk by d) (take i objects) || ((number == 0) && is_marked marks d)) (has_thunk by number objects) stamps set
    (λ d lt. ap (λ xs. list_any (needs_thunk by d) xs || ((number == 0) && is_marked marks d)) (take_all i objects le)
    ∙ ap (λ b. list_any (needs_thunk by d) objects || ((number == 0) && b)) (elsewhere.each d (omega (arith, lt, count, elsewhere.count))))
    h)
    ∙ ap (λ n. filter (has_thunk by number objects) (range_with_len 0 n)) count

-- no stamp yet
pub fresh_first : (by : Planning) (n : ℕ) (stamps : List ℕ) → stamps ≡ replicate n 0 → n ≡ length (all_symbols by.link.groups) → AreFresh by 0 stamps
fresh_first by n stamps made count = record {
  count = ap length made ∙ length-replicate n 0 ∙ count;
  few = λ d lt. omega (arith, ap (λ (xs : List ℕ). get_or xs d 0) made, zero_at n d);
}
  where
    zero_at : (k d : ℕ) → get_or {A = ℕ} (replicate k 0) d 0 ≡ 0
    zero_at zero d = refl
    zero_at (suc k) zero = refl
    zero_at (suc k) (suc d) = zero_at k d

-- the marks of what is named elsewhere
pub named_marks : (link : LinkInput) (live : Live) (marks : List Bool) → ArePrimaryReferences link live marks → AreElsewhere link live marks
named_marks link live marks h = record {
  count = h.count;
  each = λ d lt. same (is_marked marks d) (is_named_elsewhere link live d) (λ marked. let both = (h.each d lt).0 marked in is_named link live d both.0 both.1) (λ named. (h.each d lt).1 (named_is link live d named));
}
  where
    same : (a b : Bool) → (a ≡ true → b ≡ true) → (b ≡ true → a ≡ true) → a ≡ b
    same true b f g = sym (f refl)
    same false true f g = g refl
    same false false f g = refl
