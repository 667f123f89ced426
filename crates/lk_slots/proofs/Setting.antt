-- Setting flags passes on what stood.
use Rattle.std.proofs.Common.{◌≡◌, ◌⊎◌, ◌==◌, ◌||◌, ◌∙◌, [], ◌∷◌, ◌++◌, ℕ, Bool, true, false, ap, arith, cond, inl, inr, not, refl, subst, sym, bit_or}
use Rattle.std.proofs.lemmas.Bool.{cases_eq}
use Rattle.std.proofs.lemmas.List.Elements.{Contains-append_left, Contains-append_right}
use Rattle.std.proofs.lemmas.Nat.Bits.{bit_at-lt, bit_at_or}
use Rattle.std.specs.Int.{bit_at}
use Rattle.std.specs.List.{Contains}
use Rattle.std.specs.Prelude.{⊤}
use Rattle.lk_slots.specs.Machine.{Graph, Item, Load, Mark, Joins, Refer, Request, SetsFlags, Slot, State, Task, left_of}
use Rattle.lk_slots.specs.Reach.{IsWhole}
use Rattle.lk_slots.specs.States.{HasBit, IsDone, IsMet, Stands, in_hand, in_list, in_slot}
use Rattle.lk_slots.proofs.Holding.{Holds, IsTrue}
use Rattle.lk_slots.proofs.Kept.{IsKept, IsPassed, IsRequested, passed}
use Rattle.lk_slots.proofs.Lists.{first_in, in_cases, moved_in}
use Rattle.lk_slots.proofs.Moving.{Moves, done_over, each_stands}

-- ---- words

left_bit : (a b i : ℕ) → bit_at a i ≡ 1 → bit_at (bit_or a b) i ≡ 1
left_bit a b i h = omega (arith, bit_at_or a b i, bit_at-lt b i)

right_bit : (a b i : ℕ) → bit_at b i ≡ 1 → bit_at (bit_or a b) i ≡ 1
right_bit a b i h = omega (arith, bit_at_or a b i, bit_at-lt a i)

bits_stay : (graph : Graph) (g : ℕ) (old new : State) → Joins graph g old new → (s i : ℕ) → HasBit old s i → HasBit new s i
bits_stay graph g old new f s i bit = elim (cases_eq s f.symbol) [
  | inl here ↦
      ap (λ w. bit_at w i) (ap new.words here ∙ f.word)
      ∙ left_bit (old.words f.symbol) f.flags i (ap (λ w. bit_at w i) (ap old.words (sym here)) ∙ bit)
  | inr other ↦ ap (λ w. bit_at w i) (f.words s other) ∙ bit
]

-- ---- tasks

-- a list of one task is there, or it isn't
either_way : (b : Bool) (x : Task) → Contains (cond b (x ∷ []) []) x ⊎ (b ≡ false)
either_way true x = inl (first_in x [])
either_way false x = inr refl

or_false : (a b : Bool) → (a || not b) ≡ false → b ≡ true
or_false true b e = absurd (cc)
or_false false true e = refl
or_false false false e = absurd (cc)

-- a unit was requested, so what asks for it is met
met : (graph : Graph) (st : State) (s u : ℕ) → s ≡ u → IsRequested graph st s → IsMet graph st u
met graph st s u e (inl done) = inl (subst (IsDone graph st) e done)
met graph st s u e (inr stands) = inr (Request (Load s), stands, e)

-- the task in hand sets its flags, and what it asks for is requested, or was before
task_passed : (graph : Graph) (old new : State) (task : Task) (s flags : ℕ) → IsKept graph old → SetsFlags task s flags
    → ((i : ℕ) → bit_at flags i ≡ 1 → HasBit new s i)
    → ((t : Task) → Contains (left_of graph (old.words s) task) t → Stands new t)
    → (IsRequested graph old s → IsRequested graph new s) → IsPassed graph new task
task_passed graph old new (Refer r f) s flags kept e bits left over = record {
  handled = record {
    asks = λ u a. elim (either_way ((f == 0) || not (graph.resolves (old.words s))) (Request (Load r))) [
      | inl there ↦ inr (Request (Load r), left (Request (Load r)) there, a)
      | inr none ↦
          met graph new s u (sym e.0 ∙ a) (over (kept.resolved s (or_false (f == 0) (graph.resolves (old.words s)) none)))
    ];
    sets = λ q i a. inl (subst (λ k. HasBit new k i) (sym e.0 ∙ a.0) (bits i (ap (λ w. bit_at w i) (sym e.1) ∙ a.1)));
  };
  load = λ u same. absurd (cc);
}
task_passed graph old new (Mark r f) s flags kept e bits left over = record {
  handled = record {
    asks = λ u a. absurd a;
    sets = λ q i a. inl (subst (λ k. HasBit new k i) (sym e.0 ∙ a.0) (bits i (ap (λ w. bit_at w i) (sym e.1) ∙ a.1)));
  };
  load = λ u same. absurd (cc);
}
task_passed graph old new (Request x) s flags kept e bits left over = absurd e

-- flags that give a resolution come from a reference, which found one or requests its symbol
first_resolution : (graph : Graph) (old new : State) (task : Task) (s flags : ℕ) → IsWhole graph → IsTrue graph task
    → SetsFlags task s flags
    → ((t : Task) → Contains (left_of graph (old.words s) task) t → Stands new t) → graph.resolves flags ≡ true
    → (graph.resolves (old.words s) ≡ true) ⊎ IsRequested graph new s
first_resolution graph old new (Refer r f) s flags whole holds e left is =
    elim (either_way ((f == 0) || not (graph.resolves (old.words s))) (Request (Load r))) [
      | inl there ↦ inr (inr (subst (λ k. Stands new (Request (Load k))) e.0 (left (Request (Load r)) there)))
      | inr none ↦ inl (or_false (f == 0) (graph.resolves (old.words s)) none)
    ]
first_resolution graph old new (Mark r f) s flags whole holds e left is =
    absurd (let both : false ≡ true = sym (whole.marks r f (holds.mark r f refl)) ∙ ap graph.resolves e.1 ∙ is in cc)
first_resolution graph old new (Request x) s flags whole holds e left is = absurd e

-- ---- the step

abbrev IsRequest : Task → Type 0
IsRequest (Request x) = ⊤
IsRequest _ = ⊥

sets_no_request : (task : Task) (s flags : ℕ) → SetsFlags task s flags → IsRequest task → ⊥
sets_no_request (Refer r f) s flags e is = is
sets_no_request (Mark r f) s flags e is = is
sets_no_request (Request x) s flags e is = e

module _ (graph : Graph) (g : ℕ) (old new : State) (f : Joins graph g old new) where
  left_stands : (t : Task) → Contains (left_of graph (old.words f.symbol) f.task) t → Stands new t
  left_stands t there =
      let left = left_of graph (old.words f.symbol) f.task in
      in_hand g t (moved_in (left ++ f.rest) (new.groups g).hand t (sym f.turns.hand) (Contains-append_left left f.rest t there))

  hand_cases : (t : Task) → Contains (old.groups g).hand t → (f.task ≡ t) ⊎ Stands new t
  hand_cases t there =
      let left = left_of graph (old.words f.symbol) f.task in
      elim (in_cases f.task f.rest t (moved_in (old.groups g).hand (f.task ∷ f.rest) t f.begins there)) [
        | inl is ↦ inl is
        | inr later ↦ inr (in_hand g t
            (moved_in (left ++ f.rest) (new.groups g).hand t (sym f.turns.hand) (Contains-append_right left f.rest t later)))
      ]

  items_stand : (x : Item) → Contains (old.groups g).items x → Stands new (Request x)
  items_stand x there = in_list g x (moved_in (old.groups g).items (new.groups g).items x (sym f.turns.items) there)

  inbox_stands : (x : Item) → Contains (old.slots g).inbox x → Stands new (Request x)
  inbox_stands x there =
      in_slot g x (moved_in (old.slots g).inbox (new.slots g).inbox x (sym (ap (λ (y : Slot). y.inbox) (f.slots g))) there)

  request_stays : (t : Task) → Stands old t → IsRequest t → Stands new t
  request_stays t there is =
      each_stands old new g g (λ r. IsRequest r → Stands new r) f.groups (λ k _. f.slots k) (λ r stands _. stands)
      (λ r at request. elim (hand_cases r at) [
        | inl first ↦ absurd (sets_no_request f.task f.symbol f.flags f.sets (subst IsRequest (sym first) request))
        | inr stands ↦ stands
      ])
      (λ x at _. items_stand x at) (λ x at _. inbox_stands x at) there is

  done_stays : (u : ℕ) → IsDone graph old u → IsDone graph new u
  done_stays u is = done_over g old.groups new.groups f.groups (λ v was. f.turns.done v ∙ was) (graph.group_of u) u is

  requested_stays : (u : ℕ) → IsRequested graph old u → IsRequested graph new u
  requested_stays u (inl done) = inl (done_stays u done)
  requested_stays u (inr stands) = inr (request_stays (Request (Load u)) stands tt)

  resolved_by : IsWhole graph → Holds graph old → (s : ℕ) → graph.resolves (new.words s) ≡ true
      → (graph.resolves (old.words s) ≡ true) ⊎ IsRequested graph new s
  resolved_by whole h s is = elim (cases_eq s f.symbol) [
    | inl here ↦
        elim (whole.joins (old.words f.symbol) f.flags (sym (ap graph.resolves (ap new.words here ∙ f.word)) ∙ is)) [
          | inl was ↦ inl (ap (λ k. graph.resolves (old.words k)) here ∙ was)
          | inr flags ↦
              subst (λ k. (graph.resolves (old.words k) ≡ true) ⊎ IsRequested graph new k) (sym here)
              (first_resolution graph old new f.task f.symbol f.flags whole task f.sets left_stands flags)
        ]
    | inr other ↦ inl (sym (ap graph.resolves (f.words s other)) ∙ is)
  ]
    where
      task : IsTrue graph f.task
      task =
          (h.groups g).hand f.task (moved_in (f.task ∷ f.rest) (old.groups g).hand f.task (sym f.begins) (first_in f.task f.rest))

  pub moves_joins : IsWhole graph → Holds graph old → IsKept graph old → Moves graph g g old new
  moves_joins whole h kept = record {
    groups = f.groups;
    slots = λ k _. f.slots k;
    hand = λ t there. elim (hand_cases t there) [
      | inl is ↦
          subst (IsPassed graph new) is (task_passed graph old new f.task f.symbol f.flags kept f.sets
          (λ i bit. ap (λ w. bit_at w i) f.word ∙ right_bit (old.words f.symbol) f.flags i bit) left_stands
          (requested_stays f.symbol))
      | inr stands ↦ passed graph new t stands
    ];
    items = λ x there. passed graph new (Request x) (items_stand x there);
    inbox = λ x there. passed graph new (Request x) (inbox_stands x there);
    done = λ u is. f.turns.done u ∙ is;
    fresh = λ u is. inl (sym (f.turns.done u) ∙ is);
    active = λ is. inl (sym f.turns.active ∙ is);
    bits = bits_stay graph g old new f;
    resolved = resolved_by whole h;
  }
