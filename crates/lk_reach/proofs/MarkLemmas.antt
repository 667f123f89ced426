-- Marks of units: what rounds of marking mark, and that so many rounds as there are units are enough.
use Rattle.std.proofs.Common.{◌≡◌, ℕ, zero, suc, ◌+◌, ◌<◌, ◌≤◌, Bool, true, false, List, [], ◌∷◌, ◌++◌, length, Option, Some, None, refl, sym, ap, ◌∙◌, subst, inl, inr, ◌⊎◌, arith, replicate, slice_index_or, slice_set}
use Rattle.std.specs.List.{All}
use Rattle.std.specs.Option.{ForSome}
use Rattle.std.proofs.lemmas.Bool.{cases_eq, cases_lt}
use Rattle.std.proofs.lemmas.List.{get_or_append_left, length-set, get_or-set_same, get_or-set_other, get_or-append-add, length-append, length-replicate, set_past}
use Rattle.std.proofs.lemmas.List.Elements.{All-append, All-cons, All-head, All-nil, All-tail}
use Rattle.lk_reach.specs.declared.units.Ask.{Ask}
use Rattle.lk_reach.specs.Walking.{unmarked}
use Rattle.lk_reach.specs.Marks.{Asking, IsHit, IsMarked, asked, asked_from, mark_all, mark_target, marks_of, rounds}

-- ---- two lists

pub all_left : {X : Type 0} (P : X → Type 0) (xs ys : List X) → All P (xs ++ ys) → All P xs
all_left P xs ys h k d lt = subst P (get_or_append_left xs ys d k lt) (h k d (omega (arith, length-append xs ys)))

pub all_right : {X : Type 0} (P : X → Type 0) (xs ys : List X) → All P (xs ++ ys) → All P ys
all_right P xs ys h k d lt = subst P (get_or-append-add xs ys k d) (h (length xs + k) d (omega (arith, length-append xs ys)))

-- ---- one mark

-- a mark that is there stands inside
pub marked_within : (marks : List Bool) (u : ℕ) → IsMarked marks u → u < length marks
marked_within [] u h = absurd (cc)
marked_within (m ∷ marks) zero h = omega arith
marked_within (m ∷ marks) (suc u) h = omega (arith, marked_within marks u h)

pub mark_keeps : (marks : List Bool) (t : Option ℕ) (u : ℕ) → IsMarked marks u → IsMarked (mark_target marks t) u
mark_keeps marks None u h = h
mark_keeps marks (Some v) u h = elim (cases_eq u v) [
  | inl same ↦ subst (λ w. IsMarked (slice_set marks w true) u) same (get_or-set_same marks u true false (marked_within marks u h))
  | inr other ↦ get_or-set_other marks v u true false other ∙ h
]

pub mark_hits : (marks : List Bool) (v : ℕ) → v < length marks → IsMarked (slice_set marks v true) v
mark_hits marks v lt = get_or-set_same marks v true false lt

pub mark_length : (marks : List Bool) (t : Option ℕ) → length (mark_target marks t) ≡ length marks
mark_length marks None = refl
mark_length marks (Some v) = length-set marks v true

-- what is marked afterwards was marked before, or is the one
pub mark_cases : (marks : List Bool) (v u : ℕ) → IsMarked (slice_set marks v true) u → IsMarked marks u ⊎ (u ≡ v)
mark_cases marks v u h = elim (cases_eq u v) [
  | inl same ↦ inr same
  | inr other ↦ inl (sym (get_or-set_other marks v u true false other) ∙ h)
]

-- to mark a marked unit changes nothing
pub mark_again : (marks : List Bool) (u : ℕ) → IsMarked marks u → slice_set marks u true ≡ marks
mark_again [] u h = absurd (cc)
mark_again (m ∷ marks) zero h = let same : m ≡ true = h in ap (λ b. b ∷ marks) (sym same)
mark_again (m ∷ marks) (suc u) h = ap (λ ms. m ∷ ms) (mark_again marks u h)

-- whether a unit is marked
pub marked_or_not : (marks : List Bool) (u : ℕ) → IsMarked marks u ⊎ (slice_index_or marks u false ≡ false)
marked_or_not [] u = inr refl
marked_or_not (true ∷ marks) zero = inl refl
marked_or_not (false ∷ marks) zero = inr refl
marked_or_not (m ∷ marks) (suc u) = marked_or_not marks u

-- ---- how many are unmarked

pub unmarked_fewer : (marks : List Bool) (u : ℕ) → u < length marks → slice_index_or marks u false ≡ false → suc (unmarked (slice_set marks u true)) ≡ unmarked marks
unfolding unmarked
unmarked_fewer [] u lt h = absurd (omega arith)
unmarked_fewer (true ∷ marks) zero lt h = absurd (cc)
unmarked_fewer (false ∷ marks) zero lt h = refl
unmarked_fewer (true ∷ marks) (suc u) lt h = unmarked_fewer marks u (omega arith) h
unmarked_fewer (false ∷ marks) (suc u) lt h = ap suc (unmarked_fewer marks u (omega arith) h)

pub unmarked_none : (n : ℕ) → unmarked (replicate n false) ≡ n
unfolding unmarked
unmarked_none zero = refl
unmarked_none (suc n) = ap suc (unmarked_none n)

unmarked_zero : (marks : List Bool) (u : ℕ) → unmarked marks ≤ 0 → u < length marks → IsMarked marks u
unfolding unmarked
unmarked_zero [] u h lt = absurd (omega arith)
unmarked_zero (true ∷ marks) zero h lt = refl
unmarked_zero (false ∷ marks) u h lt = absurd (omega arith)
unmarked_zero (true ∷ marks) (suc u) h lt = unmarked_zero marks u h (omega arith)

-- marking one leaves no more unmarked
unmarked_target : (marks : List Bool) (t : Option ℕ) → unmarked (mark_target marks t) ≤ unmarked marks
unmarked_target marks None = omega arith
unmarked_target marks (Some v) = elim (marked_or_not marks v) [
  | inl is ↦ omega (arith, ap unmarked (mark_again marks v is))
  | inr isnt ↦ elim (cases_lt v (length marks)) [
    | inl lt ↦ omega (arith, unmarked_fewer marks v lt isnt)
    | inr past ↦ omega (arith, ap unmarked (set_past marks v true past))
  ]
]

-- ---- what marked units ask for

-- what holds of all that is asked holds of what a marked unit asks for
pub of_marked : (P : Ask → Type 0) (follows : ℕ → List Ask) (u : ℕ) (marks : List Bool) (v : ℕ) → All P (asked_from follows u marks) → IsMarked marks v → All P (follows (u + v))
unfolding asked_from
of_marked P follows u [] v h is = absurd (cc)
of_marked P follows u (true ∷ marks) zero h is = subst (λ n. All P (follows n)) (omega arith) (all_left P (follows u) (asked_from follows (suc u) marks) h)
of_marked P follows u (false ∷ marks) zero h is = absurd (cc)
of_marked P follows u (true ∷ marks) (suc v) h is = subst (λ n. All P (follows n)) (omega arith) (of_marked P follows (suc u) marks v (all_right P (follows u) (asked_from follows (suc u) marks) h) is)
of_marked P follows u (false ∷ marks) (suc v) h is = subst (λ n. All P (follows n)) (omega arith) (of_marked P follows (suc u) marks v h is)

-- and the other way round
pub from_marked : (P : Ask → Type 0) (follows : ℕ → List Ask) (u : ℕ) (marks : List Bool) → ((v : ℕ) → IsMarked marks v → All P (follows (u + v))) → All P (asked_from follows u marks)
unfolding asked_from
from_marked P follows u [] h = All-nil P
from_marked P follows u (true ∷ marks) h =
    All-append P (follows u) (asked_from follows (suc u) marks)
    (subst (λ n. All P (follows n)) (omega arith) (h 0 refl))
    (from_marked P follows (suc u) marks (λ v is. subst (λ n. All P (follows n)) (omega arith) (h (suc v) is)))
from_marked P follows u (false ∷ marks) h = from_marked P follows (suc u) marks (λ v is. subst (λ n. All P (follows n)) (omega arith) (h (suc v) is))

-- ---- to mark all that is asked for

pub mark_all_length : (g : Asking) (marks : List Bool) (asks : List Ask) → length (mark_all g marks asks) ≡ length marks
unfolding mark_all
mark_all_length g marks [] = refl
mark_all_length g marks (a ∷ asks) = mark_all_length g (mark_target marks (g.target a)) asks ∙ mark_length marks (g.target a)

pub mark_all_keeps : (g : Asking) (marks : List Bool) (asks : List Ask) (u : ℕ) → IsMarked marks u → IsMarked (mark_all g marks asks) u
unfolding mark_all
mark_all_keeps g marks [] u h = h
mark_all_keeps g marks (a ∷ asks) u h = mark_all_keeps g (mark_target marks (g.target a)) asks u (mark_keeps marks (g.target a) u h)

pub hit_keeps : (g : Asking) (marks more : List Bool) → ((u : ℕ) → IsMarked marks u → IsMarked more u) → (a : Ask) → IsHit g marks a → IsHit g more a
hit_keeps g marks more keeps a h u e = keeps u (h u e)

-- targets are inside
abbrev pub IsTargetBelow : Asking → ℕ → Ask → Type 0
IsTargetBelow g n a = ForSome (g.target a) (λ u. u < n)

hits_own : (g : Asking) (marks : List Bool) (a : Ask) (t : Option ℕ) → g.target a ≡ t → IsTargetBelow g (length marks) a → IsHit g (mark_target marks t) a
hits_own g marks a None e h u f = absurd (cc)
hits_own g marks a (Some v) e h u f =
    let same : v ≡ u = cc in
    subst (λ w. IsMarked (slice_set marks w true) u) (sym same) (mark_hits marks u (h u f))

pub mark_all_hits : (g : Asking) (marks : List Bool) (asks : List Ask) → All (IsTargetBelow g (length marks)) asks → All (IsHit g (mark_all g marks asks)) asks
unfolding mark_all
mark_all_hits g marks [] h = All-nil (IsHit g marks)
mark_all_hits g marks (a ∷ asks) h =
    let next = mark_target marks (g.target a) in
    let own : IsHit g next a = hits_own g marks a (g.target a) refl (All-head (IsTargetBelow g (length marks)) a asks h) in
    let rest : All (IsTargetBelow g (length next)) asks
    = subst (λ n. All (IsTargetBelow g n) asks) (sym (mark_length marks (g.target a))) (All-tail (IsTargetBelow g (length marks)) a asks h) in
    All-cons (IsHit g (mark_all g next asks)) a asks (hit_keeps g next (mark_all g next asks) (mark_all_keeps g next asks) a own) (mark_all_hits g next asks rest)

target_only : (g : Asking) (R : ℕ → Type 0) (marks : List Bool) (a : Ask) (t : Option ℕ) → g.target a ≡ t → ((u : ℕ) → IsMarked marks u → R u) → ForSome (g.target a) R → (u : ℕ) → IsMarked (mark_target marks t) u → R u
target_only g R marks a None e h r u is = h u is
target_only g R marks a (Some v) e h r u is = elim (mark_cases marks v u is) [ inl before ↦ h u before | inr same ↦ r u (e ∙ ap Some (sym same)) ]

-- only what was marked before, and targets, are marked afterwards
pub mark_all_only : (g : Asking) (R : ℕ → Type 0) (marks : List Bool) (asks : List Ask) → ((u : ℕ) → IsMarked marks u → R u) → All (λ a. ForSome (g.target a) R) asks → (u : ℕ) → IsMarked (mark_all g marks asks) u → R u
unfolding mark_all
mark_all_only g R marks [] h all u is = h u is
mark_all_only g R marks (a ∷ asks) h all u is =
    let head = All-head (λ a. ForSome (g.target a) R) a asks all in
    let tail = All-tail (λ a. ForSome (g.target a) R) a asks all in
    mark_all_only g R (mark_target marks (g.target a)) asks (target_only g R marks a (g.target a) refl h head) tail u is

unmarked_never_grows : (g : Asking) (marks : List Bool) (asks : List Ask) → unmarked (mark_all g marks asks) ≤ unmarked marks
unfolding mark_all
unmarked_never_grows g marks [] = omega arith
unmarked_never_grows g marks (a ∷ asks) = omega (arith, unmarked_never_grows g (mark_target marks (g.target a)) asks, unmarked_target marks (g.target a))

target_marked : (g : Asking) (marks : List Bool) (a : Ask) (t : Option ℕ) → g.target a ≡ t → IsHit g marks a → mark_target marks t ≡ marks
target_marked g marks a None e h = refl
target_marked g marks a (Some v) e h = mark_again marks v (h v e)

-- where all targets are marked, nothing changes
pub mark_all_marked : (g : Asking) (marks : List Bool) (asks : List Ask) → All (IsHit g marks) asks → mark_all g marks asks ≡ marks
unfolding mark_all
mark_all_marked g marks [] h = refl
mark_all_marked g marks (a ∷ asks) h =
    let same = target_marked g marks a (g.target a) refl (All-head (IsHit g marks) a asks h) in
    ap (λ ms. mark_all g ms asks) same ∙ mark_all_marked g marks asks (All-tail (IsHit g marks) a asks h)

target_or_fewer : (g : Asking) (marks : List Bool) (a : Ask) (t : Option ℕ) → g.target a ≡ t → IsTargetBelow g (length marks) a
    → IsHit g marks a ⊎ (unmarked (mark_target marks t) < unmarked marks)
target_or_fewer g marks a None e h = inl (λ u f. absurd (cc))
target_or_fewer g marks a (Some v) e h = elim (marked_or_not marks v) [
  | inl is ↦ inl (λ u f. let same : v ≡ u = cc in subst (IsMarked marks) same is)
  | inr isnt ↦ inr (omega (arith, unmarked_fewer marks v (h v e) isnt))
]

-- all targets are marked already, or fewer are unmarked afterwards
pub marked_or_fewer : (g : Asking) (marks : List Bool) (asks : List Ask) → All (IsTargetBelow g (length marks)) asks
    → All (IsHit g marks) asks ⊎ (unmarked (mark_all g marks asks) < unmarked marks)
unfolding mark_all
marked_or_fewer g marks [] h = inl (All-nil (IsHit g marks))
marked_or_fewer g marks (a ∷ asks) h = elim (target_or_fewer g marks a (g.target a) refl (All-head (IsTargetBelow g (length marks)) a asks h)) [
  | inr fewer ↦ inr (omega (arith, unmarked_never_grows g (mark_target marks (g.target a)) asks))
  | inl is ↦
      let same = target_marked g marks a (g.target a) refl is in
      let tail = All-tail (IsTargetBelow g (length marks)) a asks h in
      elim (marked_or_fewer g marks asks tail) [
        | inl rest ↦ inl (All-cons (IsHit g marks) a asks is rest)
        | inr fewer ↦ inr (omega (arith, ap (λ ms. unmarked (mark_all g ms asks)) same))
      ]
]

-- ---- rounds

-- targets are units, of what roots and units ask for
pub record AreTargetsBelow (g : Asking) : Type 0 where
  pub by_roots : All (IsTargetBelow g g.count) g.roots
  pub by_units : (u : ℕ) → All (IsTargetBelow g g.count) (g.follows u)

-- targets of roots and of marked units are marked
pub record IsMarkClosed (g : Asking) (marks : List Bool) : Type 0 where
  pub by_roots : All (IsHit g marks) g.roots
  pub by_units : (u : ℕ) → IsMarked marks u → All (IsHit g marks) (g.follows u)

asks_below : (g : Asking) (marks : List Bool) → AreTargetsBelow g → All (IsTargetBelow g g.count) (asked g marks)
asks_below g marks h =
    All-append (IsTargetBelow g g.count) g.roots (asked_from g.follows 0 marks) h.by_roots
    (from_marked (IsTargetBelow g g.count) g.follows 0 marks (λ v is. h.by_units (0 + v)))

closed_from_asked : (g : Asking) (marks : List Bool) → All (IsHit g marks) (asked g marks) → IsMarkClosed g marks
closed_from_asked g marks h = record {
  by_roots = all_left (IsHit g marks) g.roots (asked_from g.follows 0 marks) h;
  by_units = λ u is.
      let e : 0 + u ≡ u = omega arith in
      subst (λ n. All (IsHit g marks) (g.follows n)) e (of_marked (IsHit g marks) g.follows 0 marks u (all_right (IsHit g marks) g.roots (asked_from g.follows 0 marks) h) is);
}

asked_from_closed : (g : Asking) (marks : List Bool) → IsMarkClosed g marks → All (IsHit g marks) (asked g marks)
asked_from_closed g marks h =
    All-append (IsHit g marks) g.roots (asked_from g.follows 0 marks) h.by_roots
    (from_marked (IsHit g marks) g.follows 0 marks (λ v is. let e : v ≡ 0 + v = omega arith in subst (λ n. All (IsHit g marks) (g.follows n)) e (h.by_units v is)))

-- where nothing is left to mark, rounds change nothing
rounds_closed : (g : Asking) (k : ℕ) (marks : List Bool) → IsMarkClosed g marks → rounds g k marks ≡ marks
unfolding rounds
rounds_closed g zero marks h = refl
rounds_closed g (suc k) marks h =
    let same = mark_all_marked g marks (asked g marks) (asked_from_closed g marks h) in
    ap (rounds g k) same ∙ rounds_closed g k marks h

all_marked_closed : (g : Asking) (marks : List Bool) → AreTargetsBelow g → length marks ≡ g.count → unmarked marks ≤ 0 → IsMarkClosed g marks
all_marked_closed g marks below size none =
    let hit : (a : Ask) → IsTargetBelow g g.count a → IsHit g marks a = λ a h u e. unmarked_zero marks u none (omega (arith, h u e)) in
    record {
      by_roots = λ k d lt. hit _ (below.by_roots k d lt);
      by_units = λ u is k d lt. hit _ (below.by_units u k d lt);
    }

-- a round for each unmarked unit is enough
pub saturated : (g : Asking) → AreTargetsBelow g → (k : ℕ) (marks : List Bool) → length marks ≡ g.count → unmarked marks ≤ k → IsMarkClosed g (rounds g k marks)
unfolding rounds
saturated g below zero marks size few = all_marked_closed g marks below size few
saturated g below (suc k) marks size few =
    let asks = asked g marks in
    let inside : All (IsTargetBelow g (length marks)) asks = subst (λ n. All (IsTargetBelow g n) asks) (sym size) (asks_below g marks below) in
    elim (marked_or_fewer g marks asks inside) [
      | inl done ↦
          let closed = closed_from_asked g marks done in
          let same : rounds g k (mark_all g marks asks) ≡ marks = ap (rounds g k) (mark_all_marked g marks asks done) ∙ rounds_closed g k marks closed in
          subst (IsMarkClosed g) (sym same) closed
      | inr fewer ↦ saturated g below k (mark_all g marks asks) (mark_all_length g marks asks ∙ size) (omega arith)
    ]

pub rounds_length : (g : Asking) (k : ℕ) (marks : List Bool) → length (rounds g k marks) ≡ length marks
unfolding rounds
rounds_length g zero marks = refl
rounds_length g (suc k) marks = rounds_length g k (mark_all g marks (asked g marks)) ∙ mark_all_length g marks (asked g marks)

-- what roots' asks have, and is handed on from a unit to what it asks for, is had by all that rounds mark
pub rounds_only : (g : Asking) (R : ℕ → Type 0) → All (λ a. ForSome (g.target a) R) g.roots → ((u : ℕ) → R u → All (λ a. ForSome (g.target a) R) (g.follows u))
    → (k : ℕ) (marks : List Bool) → ((u : ℕ) → IsMarked marks u → R u) → (u : ℕ) → IsMarked (rounds g k marks) u → R u
unfolding rounds
rounds_only g R root step zero marks h u is = h u is
rounds_only g R root step (suc k) marks h u is =
    let P : Ask → Type 0 = λ a. ForSome (g.target a) R in
    let asks : All P (asked g marks) = All-append P g.roots (asked_from g.follows 0 marks) root (from_marked P g.follows 0 marks (λ v m. let e : v ≡ 0 + v = omega arith in subst (λ n. All P (g.follows n)) e (step v (h v m)))) in
    rounds_only g R root step k (mark_all g marks (asked g marks)) (mark_all_only g R marks (asked g marks) h asks) u is

-- ---- all that is reached

pub none_marked : (n u : ℕ) → IsMarked (replicate n false) u → ⊥
none_marked zero u h = absurd (cc)
none_marked (suc n) zero h = absurd (cc)
none_marked (suc n) (suc u) h = none_marked n u h

pub reached_closed : (g : Asking) → AreTargetsBelow g → IsMarkClosed g (marks_of g)
reached_closed g below =
    let none = replicate g.count false in
    saturated g below g.count none (length-replicate g.count false) (omega (arith, unmarked_none g.count))

pub reached_length : (g : Asking) → length (marks_of g) ≡ g.count
reached_length g = rounds_length g g.count (replicate g.count false) ∙ length-replicate g.count false

pub reached_only : (g : Asking) (R : ℕ → Type 0) → All (λ a. ForSome (g.target a) R) g.roots → ((u : ℕ) → R u → All (λ a. ForSome (g.target a) R) (g.follows u))
    → (u : ℕ) → IsMarked (marks_of g) u → R u
reached_only g R root step u is = rounds_only g R root step g.count (replicate g.count false) (λ v m. absurd (none_marked g.count v m)) u is
