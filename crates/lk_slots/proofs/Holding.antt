-- What holds of groups, slots and words behind every list of steps, and so at the start.
use Rattle.std.proofs.Common.{◌≡◌, ◌<◌, ◌∙◌, [], ℕ, true, false, ap, inl, inr, subst, sym}
use Rattle.std.proofs.lemmas.Bool.{cases_Bool, cases_eq}
use Rattle.std.specs.Int.{bit_at}
use Rattle.std.specs.List.{Contains}
use Rattle.lk_slots.specs.Machine.{Graph, Group, IsStart, Item, Mark, Request, SameBut, Slot, State, Task, home_of}
use Rattle.lk_slots.specs.Reach.{Asks, HasFlag, IsReached, IsTask, Sets, by_root, by_unit}
use Rattle.lk_slots.specs.States.{HasBit}
use Rattle.lk_slots.proofs.Lists.{none_in}

-- what a task asks for is reached, what it sets are flags, and a mark is one of the graph's
pub record IsTrue (graph : Graph) (t : Task) : Type 0 where
  pub asks : (u : ℕ) → Asks t u → IsReached graph u
  pub sets : (s i : ℕ) → Sets graph t s i → HasFlag graph s i
  pub mark : (s flags : ℕ) → t ≡ Mark s flags → IsTask graph (Mark s flags)

abbrev pub IsOwn : Graph → ℕ → Item → Type 0
IsOwn graph g x = IsTrue graph (Request x) × (home_of graph x ≡ g)

pub record GroupHolds (graph : Graph) (g : ℕ) (x : Group) : Type 0 where
  pub hand : (t : Task) → Contains x.hand t → IsTrue graph t
  pub items : (i : Item) → Contains x.items i → IsOwn graph g i
  pub done : (u : ℕ) → x.done u ≡ true → IsReached graph u × (graph.group_of u ≡ g)
  pub asleep : x.active ≡ false → (x.hand ≡ []) × (x.items ≡ [])
  pub inside : x.active ≡ true → g < graph.groups

pub record SlotHolds (graph : Graph) (g : ℕ) (x : Slot) : Type 0 where
  pub inbox : (i : Item) → Contains x.inbox i → IsOwn graph g i
  pub awake : x.parked ≡ true → x.inbox ≡ []

pub record Holds (graph : Graph) (st : State) : Type 0 where
  pub groups : (g : ℕ) → GroupHolds graph g (st.groups g)
  pub slots : (g : ℕ) → SlotHolds graph g (st.slots g)
  pub flags : (s i : ℕ) → HasBit st s i → HasFlag graph s i

-- a fact goes over to all places but one
pub each_place : {X : Type 0} (P : ℕ → X → Type 0) (g : ℕ) (old new : ℕ → X) → SameBut g old new → ((h : ℕ) → P h (old h))
    → P g (new g) → (h : ℕ) → P h (new h)
each_place P g old new same all here h = elim (cases_eq h g) [
  | inl e ↦ subst (λ k. P k (new k)) (sym e) here
  | inr other ↦ subst (P h) (sym (same h other)) (all h)
]

pub true_task : (graph : Graph) (t : Task) → IsTask graph t → IsTrue graph t
true_task graph t (inl root) = record {
  asks = λ u h. by_root root.0 t u root.1 root.2 h;
  sets = λ s i h. inr (t, inl root, h);
  mark = λ s flags e. subst (IsTask graph) e (inl root);
}
true_task graph t (inr unit) = record {
  asks = λ u h. by_unit unit.0 t u unit.1 unit.2 h;
  sets = λ s i h. inr (t, inr unit, h);
  mark = λ s flags e. subst (IsTask graph) e (inr unit);
}

-- a group with something in hand is activated
pub with_hand : (graph : Graph) (g : ℕ) (x : Group) (t : Task) → GroupHolds graph g x → Contains x.hand t → x.active ≡ true
with_hand graph g x t h there = elim (cases_Bool x.active) [
  | inl active ↦ active
  | inr asleep ↦ none_in x.hand t (h.asleep asleep).0 there
]

pub with_items : (graph : Graph) (g : ℕ) (x : Group) (i : Item) → GroupHolds graph g x → Contains x.items i → x.active ≡ true
with_items graph g x i h there = elim (cases_Bool x.active) [
  | inl active ↦ active
  | inr asleep ↦ none_in x.items i (h.asleep asleep).1 there
]

pub holds_first : (graph : Graph) (st : State) → IsStart graph st → Holds graph st
holds_first graph st h = record {
  groups = λ g. record {
    hand = λ t there. none_in (st.groups g).hand t (h.hand g) there;
    items = λ i there. none_in (st.groups g).items i (h.items g) there;
    done = λ u is. absurd (let both : false ≡ true = sym (h.done g u) ∙ is in cc);
    asleep = λ _. (h.hand g, h.items g);
    inside = λ is. absurd (let both : false ≡ true = sym (h.active g) ∙ is in cc);
  };
  slots = λ g. record {
    inbox = λ i there. none_in (st.slots g).inbox i (h.inbox g) there;
    awake = λ _. h.inbox g;
  };
  flags = λ s i bit. inl (sym (ap (λ w. bit_at w i) (h.words s)) ∙ bit);
}
