-- Activating, taking and resting pass on what stood.
use Rattle.std.proofs.Common.{◌≡◌, ◌⊎◌, ◌==◌, ◌||◌, ◌∙◌, [], ◌∷◌, ℕ, Bool, true, false, ap, cond, inl, inr, refl, subst, sym}
use Rattle.std.proofs.lemmas.Bool.{cases_Bool, eq-eqb, eqb-true, or_cases}
use Rattle.std.specs.List.{Contains}
use Rattle.lk_slots.specs.Machine.{Activates, ChangesGroup, Export, Graph, Group, Item, Load, Parks, Refer, Request, Rests, SameButItems, State, Swaps, Takes, Task, done_after, home_of, unit_of, work_of}
use Rattle.lk_slots.specs.States.{IsDone, Stands, in_hand, in_list}
use Rattle.lk_slots.proofs.Holding.{Holds}
use Rattle.lk_slots.proofs.Kept.{IsPassed, passed}
use Rattle.lk_slots.proofs.Lists.{first_in, moved_in, none_in, out_cases, out_in}
use Rattle.lk_slots.proofs.Moving.{Moves, same_bits, same_inbox, same_resolved}

pub moves_activated : (graph : Graph) (g : ℕ) (old new : State) → Holds graph old → ChangesGroup g (Activates graph g) old new
    → Moves graph g g old new
moves_activated graph g old new h f = record {
  groups = f.groups;
  slots = λ k _. f.slots k;
  hand = λ t there. none_in (old.groups g).hand t ((h.groups g).asleep f.change.fresh).0 there;
  items = λ x there. none_in (old.groups g).items x ((h.groups g).asleep f.change.fresh).1 there;
  inbox = same_inbox graph old new f.slots g;
  done = λ u is. f.change.done u ∙ is;
  fresh = λ u is. inl (sym (f.change.done u) ∙ is);
  active = λ _. inr (λ t there. in_hand g t (moved_in (graph.roots g) (new.groups g).hand t (sym f.change.hand) there));
  bits = same_bits old new f.words;
  resolved = same_resolved graph old new f.words;
}

-- ---- taking

or_left : (a b : Bool) → a ≡ true → (a || b) ≡ true
or_left a b e = ap (λ c. c || b) e

or_right : (a b : Bool) → b ≡ true → (a || b) ≡ true
or_right true b e = refl
or_right false b e = e

done_stays : (group : Group) (x : Item) (u : ℕ) → group.done u ≡ true → done_after group x u ≡ true
done_stays group (Load v) u is = or_left (group.done u) (u == v) is
done_stays group (Export s) u is = is

-- the unit of a request, to tell two requests apart
loaded : Task → ℕ
loaded (Request x) = unit_of x
loaded _ = 0

same_load : (v u : ℕ) → Request (Load v) ≡ Request (Load u) → v ≡ u
unfolding loaded
same_load v u e = ap loaded e

-- the item that was taken
item_taken : (graph : Graph) (g : ℕ) (old new : State) (x : Item) → home_of graph x ≡ g
    → ((u : ℕ) → (new.groups g).done u ≡ done_after (old.groups g) x u) → (new.groups g).hand ≡ work_of graph (old.groups g) x
    → IsPassed graph new (Request x)
item_taken graph g old new (Load v) home done hand =
    let is : IsDone graph new v
    = subst (λ k. (new.groups k).done v ≡ true) (sym home)
    (done v ∙ or_right ((old.groups g).done v) (v == v) (eq-eqb v v refl)) in
    record {
      handled = record {
        asks = λ u e. inl (subst (IsDone graph new) e is);
        sets = λ s i e. absurd e;
      };
      load = λ u e. inl (subst (IsDone graph new) (same_load v u e) is);
    }
item_taken graph g old new (Export s) home done hand =
    let there : Stands new (Refer s graph.export_flags)
    = in_hand g (Refer s graph.export_flags)
    (moved_in (Refer s graph.export_flags ∷ []) (new.groups g).hand (Refer s graph.export_flags) (sym hand)
    (first_in (Refer s graph.export_flags) [])) in
    record {
      handled = record {
        asks = λ u e. inr (Refer s graph.export_flags, there, e);
        sets = λ r i e. inr (Refer s graph.export_flags, there, e);
      };
      load = λ u e. absurd (cc);
    }

-- a unit that is done behind that was done, or is the one that was taken
newly_done : (graph : Graph) (g : ℕ) (old new : State) (x : Item) (u : ℕ) → (new.groups g).hand ≡ work_of graph (old.groups g) x
    → done_after (old.groups g) x u ≡ true
    → ((old.groups g).done u ≡ true) ⊎ ((t : Task) → Contains (graph.follows u) t → Stands new t)
newly_done graph g old new (Load v) u hand is = elim (cases_Bool ((old.groups g).done u)) [
  | inl was ↦ inl was
  | inr wasnt ↦ elim (or_cases ((old.groups g).done u) (u == v) is) [
    | inl was ↦ inl was
    | inr same ↦ inr (λ t there. in_hand g t (moved_in (graph.follows u) (new.groups g).hand t (sym (work same wasnt)) there))
  ]
]
  where
    work : (u == v) ≡ true → (old.groups g).done u ≡ false → (new.groups g).hand ≡ graph.follows u
    work same wasnt =
        hand ∙ ap (λ w. cond ((old.groups g).done w) [] (graph.follows w)) (sym (eqb-true u v same)) ∙ ap
        (λ b. cond b [] (graph.follows u)) wasnt
newly_done graph g old new (Export s) u hand is = inl is

pub moves_taken : (graph : Graph) (g : ℕ) (old new : State) → Holds graph old → ChangesGroup g (Takes graph) old new
    → Moves graph g g old new
moves_taken graph g old new h f = record {
  groups = f.groups;
  slots = λ k _. f.slots k;
  hand = λ t there. none_in (old.groups g).hand t f.change.idle there;
  items = λ x there. elim (out_cases (old.groups g).items f.change.item (new.groups g).items x f.change.out there) [
    | inl is ↦ subst (λ y. IsPassed graph new (Request y)) is (item_taken graph g old new f.change.item
        ((h.groups g).items f.change.item
        (out_in (old.groups g).items f.change.item (new.groups g).items f.change.out)).1 f.change.done f.change.hand)
    | inr stays ↦ passed graph new (Request x) (in_list g x stays)
  ];
  inbox = same_inbox graph old new f.slots g;
  done = λ u is. f.change.done u ∙ done_stays (old.groups g) f.change.item u is;
  fresh = λ u is. newly_done graph g old new f.change.item u f.change.hand (sym (f.change.done u) ∙ is);
  active = λ is. inl (sym f.change.active ∙ is);
  bits = same_bits old new f.words;
  resolved = same_resolved graph old new f.words;
}

-- ---- resting

parks_moves : (graph : Graph) (g : ℕ) (old new : State) → Rests g old new → new.groups g ≡ old.groups g
    → Parks (old.slots g) (new.slots g)
    → Moves graph g g old new
parks_moves graph g old new f same parks = record {
  groups = f.groups;
  slots = f.slots;
  hand = λ t there. none_in (old.groups g).hand t f.hand there;
  items = λ x there. none_in (old.groups g).items x f.items there;
  inbox = λ x there. none_in (old.slots g).inbox x parks.nothing there;
  done = λ u is. ap (λ (x : Group). x.done u) same ∙ is;
  fresh = λ u is. inl (sym (ap (λ (x : Group). x.done u) same) ∙ is);
  active = λ _. inl f.active;
  bits = same_bits old new f.words;
  resolved = same_resolved graph old new f.words;
}

swaps_moves : (graph : Graph) (g : ℕ) (old new : State) → Rests g old new → SameButItems (old.groups g) (new.groups g)
    → Swaps (old.groups g).items (new.groups g).items (old.slots g) (new.slots g) → Moves graph g g old new
swaps_moves graph g old new f same swaps = record {
  groups = f.groups;
  slots = f.slots;
  hand = λ t there. none_in (old.groups g).hand t f.hand there;
  items = λ x there. none_in (old.groups g).items x f.items there;
  inbox = λ x there. passed graph new (Request x)
      (in_list g x (moved_in (old.slots g).inbox (new.groups g).items x (sym swaps.items) there));
  done = λ u is. same.done u ∙ is;
  fresh = λ u is. inl (sym (same.done u) ∙ is);
  active = λ _. inl f.active;
  bits = same_bits old new f.words;
  resolved = same_resolved graph old new f.words;
}

pub moves_rests : (graph : Graph) (g : ℕ) (old new : State) → Rests g old new → Moves graph g g old new
moves_rests graph g old new f = elim f.goes [
  | inl parks ↦ parks_moves graph g old new f parks.0 parks.1
  | inr swaps ↦ swaps_moves graph g old new f swaps.0 swaps.1
]
