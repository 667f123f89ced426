-- A step that changes one group and one slot passes on what stood.
use Rattle.std.proofs.Common.{◌≡◌, ◌⊎◌, ◌∙◌, ℕ, true, ap, inl, inr, subst, sym}
use Rattle.std.proofs.lemmas.Bool.{cases_eq}
use Rattle.std.specs.Int.{bit_at}
use Rattle.std.specs.List.{Contains}
use Rattle.lk_slots.specs.Machine.{Graph, Group, Item, Request, Same, SameBut, Slot, State, Task}
use Rattle.lk_slots.specs.States.{HasBit, Stands, in_hand, in_list, in_slot}
use Rattle.lk_slots.proofs.Kept.{IsPassed, IsRequested, Passes, passed}
use Rattle.lk_slots.proofs.Lists.{moved_in}

pub record Moves (graph : Graph) (g h : ℕ) (old new : State) : Type 0 where
  pub groups : SameBut g old.groups new.groups
  pub slots : SameBut h old.slots new.slots
  pub hand : (t : Task) → Contains (old.groups g).hand t → IsPassed graph new t
  pub items : (x : Item) → Contains (old.groups g).items x → IsPassed graph new (Request x)
  pub inbox : (x : Item) → Contains (old.slots h).inbox x → IsPassed graph new (Request x)
  pub done : (u : ℕ) → (old.groups g).done u ≡ true → (new.groups g).done u ≡ true
  pub fresh : (u : ℕ) → (new.groups g).done u ≡ true
      → ((old.groups g).done u ≡ true) ⊎ ((t : Task) → Contains (graph.follows u) t → Stands new t)
  pub active : (new.groups g).active ≡ true
      → ((old.groups g).active ≡ true) ⊎ ((t : Task) → Contains (graph.roots g) t → Stands new t)
  pub bits : (s i : ℕ) → HasBit old s i → HasBit new s i
  pub resolved : (s : ℕ) → graph.resolves (new.words s) ≡ true → (graph.resolves (old.words s) ≡ true) ⊎ IsRequested graph new s

-- a fact on all that stood, from those at the places that changed
pub each_stands : (old new : State) (g h : ℕ) (P : Task → Type 0) → SameBut g old.groups new.groups
    → SameBut h old.slots new.slots
    → ((t : Task) → Stands new t → P t) → ((t : Task) → Contains (old.groups g).hand t → P t)
    → ((x : Item) → Contains (old.groups g).items x → P (Request x))
    → ((x : Item) → Contains (old.slots h).inbox x → P (Request x))
    → {t : Task} → Stands old t → P t
each_stands old new g h P groups slots still hand items inbox (in_hand k t there) = elim (cases_eq k g) [
  | inl e ↦ hand t (subst (λ j. Contains (old.groups j).hand t) e there)
  | inr other ↦ still t
      (in_hand k t (moved_in (old.groups k).hand (new.groups k).hand t (sym (ap (λ (x : Group). x.hand) (groups k other))) there))
]
each_stands old new g h P groups slots still hand items inbox (in_list k x there) = elim (cases_eq k g) [
  | inl e ↦ items x (subst (λ j. Contains (old.groups j).items x) e there)
  | inr other ↦ still (Request x) (in_list k x
      (moved_in (old.groups k).items (new.groups k).items x (sym (ap (λ (y : Group). y.items) (groups k other))) there))
]
each_stands old new g h P groups slots still hand items inbox (in_slot k x there) = elim (cases_eq k h) [
  | inl e ↦ inbox x (subst (λ j. Contains (old.slots j).inbox x) e there)
  | inr other ↦ still (Request x)
      (in_slot k x (moved_in (old.slots k).inbox (new.slots k).inbox x (sym (ap (λ (y : Slot). y.inbox) (slots k other))) there))
]

pub done_over : (g : ℕ) (old new : ℕ → Group) → SameBut g old new → ((u : ℕ) → (old g).done u ≡ true → (new g).done u ≡ true)
    → (h u : ℕ) → (old h).done u ≡ true → (new h).done u ≡ true
done_over g old new same here h u is = elim (cases_eq h g) [
  | inl e ↦ subst (λ k. (new k).done u ≡ true) (sym e) (here u (subst (λ k. (old k).done u ≡ true) e is))
  | inr other ↦ ap (λ (x : Group). x.done u) (same h other) ∙ is
]

pub passes : (graph : Graph) (g h : ℕ) (old new : State) → Moves graph g h old new → Passes graph old new
passes graph g h old new m = record {
  done = λ u is. done_over g old.groups new.groups m.groups m.done (graph.group_of u) u is;
  bits = m.bits;
  stood =
      λ t there. each_stands old new g h (IsPassed graph new) m.groups m.slots (passed graph new) m.hand m.items m.inbox there;
  active = λ k is. elim (cases_eq k g) [
    | inl e ↦
        subst (λ j. ((old.groups j).active ≡ true) ⊎ ((t : Task) → Contains (graph.roots j) t → Stands new t)) (sym e)
        (m.active (subst (λ j. (new.groups j).active ≡ true) e is))
    | inr other ↦ inl (sym (ap (λ (x : Group). x.active) (m.groups k other)) ∙ is)
  ];
  fresh = λ u is. elim (cases_eq (graph.group_of u) g) [
    | inl e ↦
        elim (m.fresh u (subst (λ j. (new.groups j).done u ≡ true) e is)) [
          | inl was ↦ inl (subst (λ j. (old.groups j).done u ≡ true) (sym e) was)
          | inr now ↦ inr now
        ]
    | inr other ↦ inl (sym (ap (λ (x : Group). x.done u) (m.groups (graph.group_of u) other)) ∙ is)
  ];
  resolved = m.resolved;
}

-- words that don't change
pub same_bits : (old new : State) → Same old.words new.words → (s i : ℕ) → HasBit old s i → HasBit new s i
same_bits old new same s i bit = ap (λ w. bit_at w i) (same s) ∙ bit

pub same_resolved : (graph : Graph) (old new : State) → Same old.words new.words → (s : ℕ) → graph.resolves (new.words s) ≡ true
    → (graph.resolves (old.words s) ≡ true) ⊎ IsRequested graph new s
same_resolved graph old new same s is = inl (sym (ap graph.resolves (same s)) ∙ is)

-- slots that don't change
pub same_inbox : (graph : Graph) (old new : State) → Same old.slots new.slots → (g : ℕ) (x : Item)
    → Contains (old.slots g).inbox x
    → IsPassed graph new (Request x)
same_inbox graph old new same g x there =
    passed graph new (Request x)
    (in_slot g x (moved_in (old.slots g).inbox (new.slots g).inbox x (sym (ap (λ (y : Slot). y.inbox) (same g))) there))
