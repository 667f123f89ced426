-- Segments that are open, section by section.
use Rattle.std.proofs.Common.{◌≡◌, ℕ, zero, suc, ◌+◌, ◌<◌, ◌≤◌, ◌⊎◌, Bool, true, false, List, [], ◌∷◌, length, get_or, refl, sym, ap, ◌∙◌, subst, inl, inr, ⊎_elim, arith}
use Rattle.std.specs.Prelude.{IsTrue, ◌↔◌, ◌&&◌, ◌||◌, ◌==◌, nat_le, not}
use Rattle.std.specs.Bool.{MatchBool}
use Rattle.std.specs.BinaryHeap.{IsHeap}
use Rattle.std.specs.List.{All, Contains, list_any}
use Rattle.std.specs.List.Sorted.{IsPermutation}
use Rattle.std.proofs.lemmas.Bool.{cases_eq, cases_lt, false≢true}
use Rattle.std.proofs.lemmas.Bool.Decides.{nat_tests}
use Rattle.std.proofs.lemmas.List.Elements.{Contains-get_or}
use Rattle.std.proofs.lemmas.List.Sorted.{Contains-permutation, IsPermutation-sym}
use Rattle.lk_map.specs.declared.sweep.Need.{Need}
use Rattle.lk_map.specs.declared.sweep.Offer.{Offer}
use Rattle.lk_map.specs.declared.sweep.Open.{Open}
use Rattle.lk_map.specs.Sweep.{HasBegun, HasHolder, HasLong, is_unserved, IsBest, IsLater, IsOpenFor, IsSpent, LetsGo, NeedsRise, OffersRise, open_cmp, open_of, OpensUpTo, serves, StartsLater}

-- ---- members of longer lists

pub in_cons : {X : Type 0} (x : X) (xs : List X) (y : X) → Contains xs y → Contains (x ∷ xs) y
in_cons x xs y (k, h, e) = (suc k, omega arith, e)

pub first_in : {X : Type 0} (x : X) (xs : List X) → Contains (x ∷ xs) x
first_in x xs = (0, omega arith, refl)

pub cons_cases : {X : Type 0} (x : X) (xs : List X) (y : X) → Contains (x ∷ xs) y → (x ≡ y) ⊎ Contains xs y
cons_cases x xs y (zero, h, e) = inl e
cons_cases x xs y (suc k, h, e) = inr (k, omega arith, e)

-- ---- the orders

began_before : (o p : Offer) (n : Need) → StartsLater o p → HasBegun p n → HasBegun o n
began_before o p n h k = grind arith

began_later : (o : Offer) (n m : Need) → IsLater n m → HasBegun o n → HasBegun o m
began_later o n m h k = grind arith

spent_later : (x : Open) (n m : Need) → IsLater n m → IsSpent x n → IsSpent x m
spent_later x n m h k = grind arith

not_less : (x : Open) (n : Need) → x.distance ≤ n.distance → ¬ IsSpent x n → x.distance ≡ n.distance
not_less x n h k = ⊎_elim (λ (l : x.distance < n.distance). absurd (k (inl l))) (λ (g : n.distance ≤ x.distance). omega arith) (cases_lt x.distance n.distance)

not_ended : (x : Open) (n : Need) → x.distance ≡ n.distance → ¬ IsSpent x n → n.file_end ≤ x.file_end
not_ended x n e k = ⊎_elim (λ (l : x.file_end < n.file_end). absurd (k (inr (e, l)))) (λ (g : n.file_end ≤ x.file_end). g) (cases_lt x.file_end n.file_end)

not_spent_of : (x : Open) (n : Need) → x.distance ≡ n.distance → n.file_end ≤ x.file_end → IsSpent x n → ⊥
not_spent_of x n e h k = grind arith

distance_kept : (o : Offer) (n : Need) (far : ℕ) → o.distance ≡ far → HasBegun o n → far ≤ n.distance
distance_kept o n far e h = grind arith

abbrev pub some_offer : Offer
some_offer = record { distance = 0; start = 0; file_end = 0; mem_end = 0 }

-- ---- serving

and_parts : (a b : Bool) → (a && b) ≡ true → (a ≡ true) × (b ≡ true)
and_parts true b e = (refl, e)
and_parts false b e = absurd (false≢true e)

and_whole : {a b : Bool} → a ≡ true → b ≡ true → (a && b) ≡ true
and_whole p q = rw (p, q) refl

not_true : (b : Bool) → ¬ (b ≡ true) → b ≡ false
not_true true h = absurd (h refl)
not_true false h = refl

le_is : (a b : ℕ) → nat_le a b ≡ true → a ≤ b
le_is a b h = grind (arith, nat_tests)

less_is : (a b : ℕ) → nat_le a b ≡ false → b < a
less_is a b h = grind (arith, nat_tests)

is_le : (a b : ℕ) → a ≤ b → nat_le a b ≡ true
is_le a b h = grind (arith, nat_tests)

is_equal : (a b : ℕ) → (a == b) ≡ true → a ≡ b
is_equal a b h = grind (arith, nat_tests)

equal_is : (a b : ℕ) → a ≡ b → (a == b) ≡ true
equal_is a b h = grind (arith, nat_tests)

pub serves_is : (o : Offer) (n : Need) → serves o n ≡ true → (o.distance ≡ n.distance) × (o.start ≤ n.start) × (n.file_end ≤ o.file_end) × (n.mem_end ≤ o.mem_end)
unfolding serves
serves_is o n e =
    let (a, rest) = and_parts (o.distance == n.distance) (nat_le o.start n.start && (nat_le n.file_end o.file_end && nat_le n.mem_end o.mem_end)) e in
    let (b, more) = and_parts (nat_le o.start n.start) (nat_le n.file_end o.file_end && nat_le n.mem_end o.mem_end) rest in
    let (c, d) = and_parts (nat_le n.file_end o.file_end) (nat_le n.mem_end o.mem_end) more in
    (is_equal o.distance n.distance a, le_is o.start n.start b, le_is n.file_end o.file_end c, le_is n.mem_end o.mem_end d)

pub serves_whole : (o : Offer) (n : Need) → o.distance ≡ n.distance → o.start ≤ n.start → n.file_end ≤ o.file_end → n.mem_end ≤ o.mem_end → serves o n ≡ true
unfolding serves
serves_whole o n a b c d = and_whole (equal_is o.distance n.distance a) (and_whole (is_le o.start n.start b) (and_whole (is_le n.file_end o.file_end c) (is_le n.mem_end o.mem_end d)))

start_at : (o : Offer) (n : Need) → o.distance ≡ n.distance → HasBegun o n → o.start ≤ n.start
start_at o n e h = grind arith

serves_so : (o : Offer) (n : Need) → o.distance ≡ n.distance → HasBegun o n → n.file_end ≤ o.file_end → n.mem_end ≤ o.mem_end → serves o n ≡ true
serves_so o n a h c d = serves_whole o n a (start_at o n a h) c d

or_right : (a : Bool) {b : Bool} → b ≡ true → (a || b) ≡ true
or_right true e = refl
or_right false e = e

any_true : {X : Type 0} (test : X → Bool) (xs : List X) (k : ℕ) (x : X) → k < length xs → get_or xs k x ≡ x → test x ≡ true → list_any test xs ≡ true
any_true test [] k x h e hit = absurd (omega arith)
any_true test (y ∷ xs) zero x h e hit = ap (λ b. b || list_any test xs) (ap test e ∙ hit)
any_true test (y ∷ xs) (suc k) x h e hit = or_right (test y) (any_true test xs k x (omega arith) e hit)

any_false : {X : Type 0} (test : X → Bool) (xs : List X) → All (λ x. test x ≡ false) xs → list_any test xs ≡ false
any_false test [] h = refl
any_false test (x ∷ xs) h = ap (λ b. b || list_any test xs) (h 0 x (omega arith)) ∙ any_false test xs (λ k d b. h (suc k) d (omega arith))

served_by : (offers : List Offer) (n : Need) (o : Offer) → Contains offers o → serves o n ≡ true → is_unserved offers n ≡ false
unfolding is_unserved
served_by offers n o (k, h, e) hit = ap not (any_true (λ o. serves o n) offers k o h e hit)

unserved_all : (offers : List Offer) (n : Need) → All (λ o. serves o n ≡ false) offers → is_unserved offers n ≡ true
unfolding is_unserved
unserved_all offers n h = ap not (any_false (λ o. serves o n) offers h)

-- ---- opening

-- so far opened: as `OpensUpTo`, but for what follows
pub record OpensSo (offers : List Offer) (next now : ℕ) (need : Need) (old new : List Open) : Type 0 where
  pub from : next ≤ now
  pub within : now ≤ length offers
  pub heap : IsHeap open_cmp old → IsHeap open_cmp new
  pub kept : (x : Open) → Contains old x → Contains new x
  pub opened : (k : ℕ) (d : Offer) → next ≤ k → k < now → Contains new (open_of (get_or offers k d)) × HasBegun (get_or offers k d) need
  pub only : (x : Open) → Contains new x → Contains old x ⊎ ((k : ℕ) × (next ≤ k) × (k < now) × ((d : Offer) → open_of (get_or offers k d) ≡ x))

pub opens_first : (offers : List Offer) (next : ℕ) (need : Need) (old : List Open) → next ≤ length offers → OpensSo offers next next need old old
opens_first offers next need old h = record {
  from = omega arith;
  within = h;
  heap = λ x. x;
  kept = λ x k. k;
  opened = λ k d a b. absurd (omega arith);
  only = λ x k. inl k;
}

module _ (offers : List Offer) (next now : ℕ) (need : Need) (old mid new : List Open) (so : OpensSo offers next now need old mid) where
  pub opens_more : (o : Offer) → now < length offers → ((d : Offer) → get_or offers now d ≡ o) → HasBegun o need → IsPermutation (open_of o ∷ mid) new → (IsHeap open_cmp mid → IsHeap open_cmp new) → OpensSo offers next (now + 1) need old new
  opens_more o below is begun p order =
      let from = so.from in
      let there : (x : Open) → Contains mid x → Contains new x = λ x h. Contains-permutation (open_of o ∷ mid) new x p (in_cons (open_of o) mid x h) in
      let here : Contains new (open_of o) = Contains-permutation (open_of o ∷ mid) new (open_of o) p (first_in (open_of o) mid) in
      record {
        from = omega arith;
        within = omega arith;
        heap = λ h. order (so.heap h);
        kept = λ x h. there x (so.kept x h);
        opened = λ k d a b. ⊎_elim
            (λ (e : k ≡ now). subst (λ n. Contains new (open_of (get_or offers n d)) × HasBegun (get_or offers n d) need) (sym e) (subst (λ p. Contains new (open_of p) × HasBegun p need) (sym (is d)) (here, begun)))
            (λ (ne : k ≡ now → ⊥). let (c, b') = so.opened k d a (omega arith) in (there (open_of (get_or offers k d)) c, b'))
            (cases_eq k now);
        only = λ x h. ⊎_elim
            (λ (e : open_of o ≡ x). inr (now, from, omega arith, λ d. ap open_of (is d) ∙ e))
            (λ (c : Contains mid x). ⊎_elim
            (λ (a : Contains old x). inl a)
            (λ (w : (k : ℕ) × (next ≤ k) × (k < now) × ((d : Offer) → open_of (get_or offers k d) ≡ x)). let low = w.2 in inr (w.0, w.1, omega arith, w.3))
            (so.only x c))
            (cons_cases (open_of o) mid x (Contains-permutation new (open_of o ∷ mid) x (IsPermutation-sym (open_of o ∷ mid) new p) h));
      }

  up_to : ((k : ℕ) (d : Offer) → now ≤ k → k < length offers → ¬ HasBegun (get_or offers k d) need) → OpensUpTo offers next now need old mid
  up_to rest = record { from = so.from; within = so.within; heap = so.heap; kept = so.kept; opened = so.opened; only = so.only; rest = rest }

  pub opens_all : length offers ≤ now → OpensUpTo offers next now need old mid
  opens_all past = up_to (λ k d a b. absurd (omega arith))

  pub opens_stop : (o : Offer) → now < length offers → ((d : Offer) → get_or offers now d ≡ o) → ¬ HasBegun o need → OffersRise offers → OpensUpTo offers next now need old mid
  opens_stop o below is not_begun rise = up_to (λ k d a b has. ⊎_elim
      (λ (e : k ≡ now). not_begun (subst (λ p. HasBegun p need) (is d) (subst (λ n. HasBegun (get_or offers n d) need) e has)))
      (λ (ne : k ≡ now → ⊥).
      let later : StartsLater (get_or offers now d) (get_or offers k d) = rise now k d (omega arith) b in
      not_begun (subst (λ p. HasBegun p need) (is d) (began_before (get_or offers now d) (get_or offers k d) need later has)))
      (cases_eq k now))

-- ---- letting go

pub lets_none_go : (need : Need) (old : List Open) → LetsGo need old old
lets_none_go need old = record { heap = λ h. h; only = λ x h. h; kept = λ x h. inl h }

pub lets_go_more : (need : Need) (old mid new : List Open) (x : Open) → LetsGo need old mid → IsPermutation mid (x ∷ new) → IsSpent x need → (IsHeap open_cmp mid → IsHeap open_cmp new) → LetsGo need old new
lets_go_more need old mid new x so p spent order = record {
  heap = λ h. order (so.heap h);
  only = λ y h. so.only y (Contains-permutation (x ∷ new) mid y (IsPermutation-sym mid (x ∷ new) p) (in_cons x new y h));
  kept = λ y h. ⊎_elim
      (λ (c : Contains mid y). ⊎_elim
      (λ (e : x ≡ y). inr (subst (λ z. IsSpent z need) e spent))
      (λ (k : Contains new y). inl k)
      (cons_cases x new y (Contains-permutation mid (x ∷ new) y p c)))
      (λ (s : IsSpent y need). inr s)
      (so.kept y h);
}

-- the best that isn't spent decides
pub best_holds : (held : List Open) (x : Open) (need : Need) → IsBest held x → x.distance ≤ need.distance → ¬ IsSpent x need → need.mem_end ≤ x.mem_end → HasHolder held need
best_holds held x need (there, best) near not_spent long =
    let same : x.distance ≡ need.distance = not_less x need near not_spent in
    let ends : need.file_end ≤ x.file_end = not_ended x need same not_spent in
    (x, there, same, ends, long)

pub best_is_short : (held : List Open) (x : Open) (need : Need) → IsBest held x → x.distance ≤ need.distance → ¬ IsSpent x need → x.mem_end < need.mem_end → ¬ HasLong held need
best_is_short held x need (there, best) near not_spent short (y, y_in, y_same, y_long) =
    let same : x.distance ≡ need.distance = not_less x need near not_spent in
    ⊎_elim (λ (h : y.distance < x.distance). omega arith) (λ (h : (y.distance ≡ x.distance) × (y.mem_end ≤ x.mem_end)). omega (arith, h.1)) (best y y_in)

pub none_is_long : (held : List Open) (need : Need) → held ≡ [] → ¬ HasLong held need
none_is_long held need none (y, (k, h, e), y_same, y_long) = let long : length held ≡ 0 = ap length none in omega arith

-- ---- open for what follows

pub open_at_first : (offers : List Offer) (needs : List Need) (held : List Open) → held ≡ [] → IsHeap open_cmp held → IsOpenFor offers 0 needs 0 held
open_at_first offers needs held none order = record {
  within = omega arith;
  heap = order;
  only = λ x h. let long : length held ≡ 0 = ap length none in let inside = h.1 in absurd (omega arith);
  begun = λ k d j e h a b. absurd (omega arith);
  kept = λ k d j e h a b. absurd (omega arith);
}

-- a later section of the list
later_at : (needs : List Need) → NeedsRise needs → (i j : ℕ) (d : Need) → i ≤ j → j < length needs → IsLater (get_or needs i d) (get_or needs j d)
later_at needs rise i j d h b =
    ⊎_elim
    (λ (e : i ≡ j). subst (λ n. IsLater (get_or needs n d) (get_or needs j d)) (sym e) (inr (refl, omega arith, omega arith)))
    (λ (ne : i ≡ j → ⊥). rise i j d (omega arith) b)
    (cases_eq i j)

module _ (offers : List Offer) (next now : ℕ) (needs : List Need) (i : ℕ) (need : Need) (old mid new : List Open)
    (open_for : IsOpenFor offers next needs i old) (below : i < length needs) (is : (d : Need) → get_or needs i d ≡ need) (up : OpensUpTo offers next now need old mid) where
  begun_here : (k : ℕ) (d : Offer) → k < now → HasBegun (get_or offers k d) need
  begun_here k d h =
      ⊎_elim
      (λ (a : k < next). subst (λ n. HasBegun (get_or offers k d) n) (is need) (open_for.begun k d i need a (omega arith) below))
      (λ (a : next ≤ k). (up.opened k d a h).1)
      (cases_lt k next)

  -- where an open segment comes from
  source : (x : Open) → Contains mid x → (k : ℕ) × (k < now) × ((d : Offer) → open_of (get_or offers k d) ≡ x)
  source x h =
      let from = up.from in
      ⊎_elim
      (λ (a : Contains old x). let (k, low, e) = open_for.only x a in (k, omega arith, e))
      (λ (w : (k : ℕ) × (next ≤ k) × (k < now) × ((d : Offer) → open_of (get_or offers k d) ≡ x)). (w.0, w.2, w.3))
      (up.only x h)

  in_mid : (k : ℕ) (d : Offer) → k < now → Contains mid (open_of (get_or offers k d)) ⊎ IsSpent (open_of (get_or offers k d)) need
  in_mid k d h =
      ⊎_elim
      (λ (low : k < next). ⊎_elim
      (λ (c : Contains old (open_of (get_or offers k d))). inl (up.kept (open_of (get_or offers k d)) c))
      (λ (s : IsSpent (open_of (get_or offers k d)) (get_or needs i need)). inr (subst (IsSpent (open_of (get_or offers k d))) (is need) s))
      (open_for.kept k d i need low (omega arith) below))
      (λ (high : next ≤ k). inl (up.opened k d high h).0)
      (cases_lt k next)

  -- no open segment is too far on
  pub near : (x : Open) → Contains mid x → x.distance ≤ need.distance
  near x h =
      let (k, low, e) = source x h in
      let d = some_offer in
      let same : (get_or offers k d).distance ≡ x.distance = ap (λ y. y.distance) (e d) in
      distance_kept (get_or offers k d) need x.distance same (begun_here k d low)

  pub heap_there : IsHeap open_cmp mid
  heap_there = up.heap open_for.heap

  module _ (go : LetsGo need mid new) where
    later : NeedsRise needs → (j : ℕ) (e : Need) → i + 1 ≤ j → j < length needs → IsLater need (get_or needs j e)
    later rise j e a b = subst (λ n. IsLater n (get_or needs j e)) (is e) (later_at needs rise i j e (omega arith) b)

    kept_mid : NeedsRise needs → (k : ℕ) (d : Offer) (j : ℕ) (e : Need) → i + 1 ≤ j → j < length needs → Contains mid (open_of (get_or offers k d)) → Contains new (open_of (get_or offers k d)) ⊎ IsSpent (open_of (get_or offers k d)) (get_or needs j e)
    kept_mid rise k d j e a b c =
        ⊎_elim
        (λ (h : Contains new (open_of (get_or offers k d))). inl h)
        (λ (s : IsSpent (open_of (get_or offers k d)) need). inr (spent_later (open_of (get_or offers k d)) need (get_or needs j e) (later rise j e a b) s))
        (go.kept (open_of (get_or offers k d)) c)

    pub open_next : NeedsRise needs → IsOpenFor offers now needs (i + 1) new
    open_next rise = record {
      within = up.within;
      heap = go.heap heap_there;
      only = λ x h. source x (go.only x h);
      begun = λ k d j e h a b. began_later (get_or offers k d) need (get_or needs j e) (later rise j e a b) (begun_here k d h);
      kept = λ k d j e h a b. ⊎_elim
          (λ (low : k < next). ⊎_elim
          (λ (c : Contains old (open_of (get_or offers k d))). kept_mid rise k d j e a b (up.kept (open_of (get_or offers k d)) c))
          (λ (s : IsSpent (open_of (get_or offers k d)) (get_or needs i e)). inr (spent_later (open_of (get_or offers k d)) need (get_or needs j e) (later rise j e a b) (subst (IsSpent (open_of (get_or offers k d))) (is e) s)))
          (open_for.kept k d i e low (omega arith) below))
          (λ (high : next ≤ k). kept_mid rise k d j e a b (up.opened k d high h).0)
          (cases_lt k next);
    }

    -- a holder among the open ones is one of the segments
    pub is_served : HasHolder new need → is_unserved offers need ≡ false
    is_served (x, there, same, ends, long) =
        let (k, low, e) = source x (go.only x there) in
        let inside = up.within in
        let d = some_offer in
        let o = get_or offers k d in
        let dist : o.distance ≡ x.distance = ap (λ y. y.distance) (e d) in
        let file : o.file_end ≡ x.file_end = ap (λ y. y.file_end) (e d) in
        let memory : o.mem_end ≡ x.mem_end = ap (λ y. y.mem_end) (e d) in
        let hit : serves o need ≡ true = serves_so o need (dist ∙ same) (begun_here k d low) (omega arith) (omega arith) in
        served_by offers need o (Contains-get_or offers k d (omega arith)) hit

    -- and where none is long enough none of them serves
    pub is_not_served : ¬ HasLong new need → is_unserved offers need ≡ true
    is_not_served none = unserved_all offers need (λ k d h. not_true (serves (get_or offers k d) need) (λ hit.
        let (dist, start, file, memory) = serves_is (get_or offers k d) need hit in
        ⊎_elim
        (λ (low : k < now).
        let c : Contains mid (open_of (get_or offers k d)) ⊎ IsSpent (open_of (get_or offers k d)) need = in_mid k d low in
        ⊎_elim
        (λ (m : Contains mid (open_of (get_or offers k d))). ⊎_elim
        (λ (n : Contains new (open_of (get_or offers k d))). none (open_of (get_or offers k d), n, dist, memory))
        (λ (s : IsSpent (open_of (get_or offers k d)) need). not_spent_of (open_of (get_or offers k d)) need dist file s)
        (go.kept (open_of (get_or offers k d)) m))
        (λ (s : IsSpent (open_of (get_or offers k d)) need). not_spent_of (open_of (get_or offers k d)) need dist file s)
        c)
        (λ (high : now ≤ k). up.rest k d high h (inr (dist, start)))
        (cases_lt k now)))

    pub served_so : (r : Bool) → MatchBool r (HasHolder new need) (¬ HasLong new need) → is_unserved offers need ≡ not r
    served_so true h = is_served h
    served_so false h = is_not_served h

-- ---- what code's tests say

pub so_true : {P : Type 0} (b : Bool) → IsTrue b ↔ P → b ≡ true → P
so_true true h e = h.0 refl
so_true false h e = absurd (false≢true e)

pub so_false : {P : Type 0} (b : Bool) → IsTrue b ↔ P → b ≡ false → ¬ P
so_false true h e p = absurd (false≢true (sym e))
so_false false h e p = absurd (false≢true (h.1 p))

-- what the best says, once it isn't spent
decide_case : (held : List Open) (x : Open) (need : Need) (b : Bool) → nat_le need.mem_end x.mem_end ≡ b → IsBest held x → x.distance ≤ need.distance → ¬ IsSpent x need → MatchBool b (HasHolder held need) (¬ HasLong held need)
decide_case held x need true e best near not_spent = best_holds held x need best near not_spent (le_is need.mem_end x.mem_end e)
decide_case held x need false e best near not_spent = best_is_short held x need best near not_spent (less_is need.mem_end x.mem_end e)

pub best_decides : (held : List Open) (x : Open) (need : Need) → IsBest held x → x.distance ≤ need.distance → ¬ IsSpent x need → MatchBool (nat_le need.mem_end x.mem_end) (HasHolder held need) (¬ HasLong held need)
best_decides held x need best near not_spent = decide_case held x need (nat_le need.mem_end x.mem_end) refl best near not_spent
