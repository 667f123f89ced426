-- Lists that follow each other: their ends, and the items between them.
use Rattle.std.specs.List.{flat_map, slice_get}
use Rattle.std.proofs.Common.{◌≡◌, ℕ, zero, suc, ◌+◌, ◌-◌, ◌^◌, ◌<◌, ◌≤◌, List, [], ◌∷◌, ◌++◌, Some, None, length, take, min, get_or, sum_by, refl, sym, ap, ◌∙◌, ⊎_elim, subst, arith, add-one}
use Rattle.std.proofs.lemmas.List.{take_all, take_more, append_assoc, take-append-le, get_or_append_left, get_or_at, length_push}
use Rattle.std.proofs.lemmas.List.Concat.{length-flat_map}
use Rattle.std.proofs.lemmas.List.Sums.{sum_by_push, sum_by-cons, sum_by_more}
use Rattle.std.proofs.lemmas.Option.{slice_get_past, slice_get_within, get_or_from_slice_get}
use Rattle.std.proofs.lemmas.Bool.{cases_lt}
use Rattle.lk_link.specs.Ends.{AreEnds, IsPlaceOf, start_of}

-- where a list begins, as far as 64 bits go
pub begins : {X : Type 0} (size : X → ℕ) (ends : List ℕ) (xs : List X) (k : ℕ) → AreEnds size ends xs → k ≤ length xs → start_of ends k ≡ min (sum_by size (take k xs)) (2 ^ 64 - 1)
begins size ends xs zero h le = refl
begins size ends xs (suc k) h le = rw add-one at (h.each k (omega arith))

-- no lists have no ends
pub no_ends : {X : Type 0} (size : X → ℕ) → AreEnds size [] []
no_ends size = record { count = refl; each = λ k lt. absurd (omega arith) }

-- one more list
pub one_more : {X : Type 0} (size : X → ℕ) (ends : List ℕ) (xs : List X) (x : X) → AreEnds size ends xs → AreEnds size (ends ++ min (start_of ends (length ends) + size x) (2 ^ 64 - 1) ∷ []) (xs ++ x ∷ [])
one_more size ends xs x h =
    let last = min (start_of ends (length ends) + size x) (2 ^ 64 - 1) in
    let same : length ends ≡ length xs = h.count in
    let more = length_push ends last in
    let wider = length_push xs x in
    record {
      count = omega arith;
      each = λ k lt. ⊎_elim
          (λ old.
          let kept = get_or_append_left ends (last ∷ []) 0 k (omega arith) in
          let before = take-append-le (k + 1) xs (x ∷ []) (omega arith) in
          kept ∙ h.each k old ∙ ap (λ ys. min (sum_by size ys) (2 ^ 64 - 1)) (sym before))
          (λ new.
          let here : length ends ≡ k = omega arith in
          let there = get_or_at ends last [] 0 k here in
          let all = take_all (k + 1) (xs ++ x ∷ []) (omega arith) in
          let sum = sum_by_push size xs x in
          let start : start_of ends (length ends) ≡ min (sum_by size xs) (2 ^ 64 - 1) =
          ap (start_of ends) same ∙ begins size ends xs (length xs) h (omega arith) ∙ ap (λ ys. min (sum_by size ys) (2 ^ 64 - 1)) (take_all (length xs) xs (omega arith)) in
          let total : last ≡ min (sum_by size (xs ++ x ∷ [])) (2 ^ 64 - 1) = omega (arith, start, sum) in
          there ∙ total ∙ ap (λ ys. min (sum_by size ys) (2 ^ 64 - 1)) (sym all))
          (cases_lt k (length xs));
    }

-- one more list of those behind others
pub next_end : {X : Type 0} (size : X → ℕ) (ends new : List ℕ) (before xs : List X) (i : ℕ) (x : X) → i < length xs → x ≡ get_or xs i x → new ≡ ends ++ min (start_of ends (length ends) + size x) (2 ^ 64 - 1) ∷ [] → AreEnds size ends (before ++ take i xs) → AreEnds size new (before ++ take (i + 1) xs)
next_end size ends new before xs i x lt at_i e h =
    let more : take (i + 1) xs ≡ take i xs ++ x ∷ [] = take_more xs i x lt ∙ ap (λ y. take i xs ++ y ∷ []) (sym at_i) in
    let all : before ++ take i xs ++ x ∷ [] ≡ before ++ take (i + 1) xs = append_assoc before (take i xs) (x ∷ []) ∙ ap (λ ys. before ++ ys) (sym more) in
    subst (λ ys. AreEnds size new ys) all (rw e (one_more size ends (before ++ take i xs) x h))

-- ---- items

front : {X : Type 0} (xs ys : List X) (i : ℕ) → i < length xs → slice_get (xs ++ ys) i ≡ slice_get xs i
front [] ys i lt = absurd (omega arith)
front (x ∷ xs) ys zero lt = refl
front (x ∷ xs) ys (suc i) lt = front xs ys i (omega arith)

behind : {X : Type 0} (xs ys : List X) (i : ℕ) → slice_get (xs ++ ys) (length xs + i) ≡ slice_get ys i
behind [] ys i = let e : 0 + i ≡ i = omega arith in ap (slice_get ys) e
behind (x ∷ xs) ys i = let e : suc (length xs) + i ≡ suc (length xs + i) = omega arith in ap (slice_get (x ∷ (xs ++ ys))) e ∙ behind xs ys i

-- item i of the k-th list stands among all items behind those of the lists before it
pub item_of : {X Y : Type 0} (f : X → List Y) (xs : List X) (k i : ℕ) (x : X) → slice_get xs k ≡ Some x → i < length (f x) → slice_get (flat_map f xs) (sum_by (λ y. length (f y)) (take k xs) + i) ≡ slice_get (f x) i
item_of f [] k i x at_k lt = absurd (cc)
item_of f (y ∷ xs) zero i x at_k lt =
    let same : y ≡ x = cc in
    let e : 0 + i ≡ i = omega arith in
    ap (slice_get (f y ++ flat_map f xs)) e ∙ front (f y) (flat_map f xs) i (rw same lt) ∙ ap (λ z. slice_get (f z) i) same
item_of f (y ∷ xs) (suc k) i x at_k lt =
    let size = sum_by-cons (λ z. length (f z)) y (take k xs) in
    let e : sum_by (λ z. length (f z)) (y ∷ take k xs) + i ≡ length (f y) + (sum_by (λ z. length (f z)) (take k xs) + i) = omega arith in
    ap (slice_get (f y ++ flat_map f xs)) e ∙ behind (f y) (flat_map f xs) (sum_by (λ z. length (f z)) (take k xs) + i) ∙ item_of f xs k i x at_k lt

-- what stands at an item's place
pub at_place : {X Y : Type 0} (f : X → List Y) (ends : List ℕ) (xs : List X) (n k i : ℕ) (x : X) → AreEnds (λ y. length (f y)) ends xs → IsPlaceOf ends n k i → slice_get xs k ≡ Some x → slice_get (flat_map f xs) n ≡ slice_get (f x) i
at_place f ends xs n k i x h p at_k =
    let inside = slice_get_within xs k x at_k in
    let start = begins (λ y. length (f y)) ends xs k h (omega arith) in
    let end = h.each k inside in
    let more = sum_by_more (λ y. length (f y)) xs k x inside in
    let same = ap (λ y. length (f y)) (get_or_from_slice_get xs k x x at_k) in
    let offset = p.offset in
    let below = p.below in
    let place : sum_by (λ y. length (f y)) (take k xs) + i ≡ n = omega arith in
    let lt : i < length (f x) = omega arith in
    ap (slice_get (flat_map f xs)) (sym place) ∙ item_of f xs k i x at_k lt

-- behind the last list there is nothing
pub none_behind : {X Y : Type 0} (f : X → List Y) (ends : List ℕ) (xs : List X) (n : ℕ) → AreEnds (λ y. length (f y)) ends xs → start_of ends (length ends) ≤ n → n < 2 ^ 64 - 1 → slice_get (flat_map f xs) n ≡ None
none_behind f ends xs n h past small =
    let start : start_of ends (length ends) ≡ min (sum_by (λ y. length (f y)) xs) (2 ^ 64 - 1) =
    ap (start_of ends) h.count ∙ begins (λ y. length (f y)) ends xs (length xs) h (omega arith) ∙ ap (λ ys. min (sum_by (λ y. length (f y)) ys) (2 ^ 64 - 1)) (take_all (length xs) xs (omega arith)) in
    let count = length-flat_map f xs in
    slice_get_past (flat_map f xs) n (omega arith)

-- where nothing stands the list has ended
pub past_none : {X : Type 0} (xs : List X) (k : ℕ) → slice_get xs k ≡ None → length xs ≤ k
past_none [] k h = omega arith
past_none (x ∷ xs) zero h = absurd (cc)
past_none (x ∷ xs) (suc k) h = let later = past_none xs k h in omega arith
