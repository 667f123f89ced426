-- A deposit passes on what stood.
use Rattle.std.proofs.Common.{◌≡◌, ◌∙◌, [], ◌∷◌, ◌++◌, ℕ, List, ap, inl, inr, subst, sym}
use Rattle.std.proofs.lemmas.List.Elements.{Contains-append_left, Contains-push}
use Rattle.std.specs.Int.{bit_at}
use Rattle.std.specs.List.{Contains}
use Rattle.lk_slots.specs.Machine.{ChangesGroup, Export, Graph, HandsOn, Item, Keeps, Mark, PutsDown, Refer, Request, State, Task, home_of}
use Rattle.lk_slots.specs.States.{Stands, in_hand, in_list, in_slot}
use Rattle.lk_slots.proofs.Kept.{IsPassed, passed}
use Rattle.lk_slots.proofs.Lists.{in_cases, moved_in}
use Rattle.lk_slots.proofs.Moving.{Moves, same_bits, same_inbox, same_resolved}

-- a task whose item stands
put_down : (graph : Graph) (new : State) (task : Task) (x : Item) → PutsDown graph task x → Stands new (Request x)
    → IsPassed graph new task
put_down graph new (Request y) x puts there =
    subst (λ i. IsPassed graph new (Request i)) (sym puts) (passed graph new (Request x) there)
put_down graph new (Refer s flags) x puts there =
    let stands : Stands new (Request (Export s)) = subst (λ i. Stands new (Request i)) (sym puts.1) there in
    record {
      handled = record {
        asks = λ u e. inr (Request (Export s), stands, e);
        sets = λ r i e. inr (Request (Export s), stands, (e.0, ap (λ w. bit_at w i) (sym puts.0) ∙ e.1));
      };
      load = λ u e. absurd (cc);
    }
put_down graph new (Mark s flags) x puts there = absurd puts

hand_over : (graph : Graph) (g : ℕ) (old new : State) (task : Task) (rest : List Task) (x : Item)
    → (old.groups g).hand ≡ task ∷ rest
    → (new.groups g).hand ≡ rest → PutsDown graph task x → Stands new (Request x) → (t : Task) → Contains (old.groups g).hand t
    → IsPassed graph new t
hand_over graph g old new task rest x begins hand puts there t at = elim
    (in_cases task rest t (moved_in (old.groups g).hand (task ∷ rest) t begins at)) [
      | inl is ↦ subst (IsPassed graph new) is (put_down graph new task x puts there)
      | inr later ↦ passed graph new t (in_hand g t (moved_in rest (new.groups g).hand t (sym hand) later))
    ]

pub moves_keeps : (graph : Graph) (g : ℕ) (old new : State) (task : Task) (rest : List Task) (x : Item) → PutsDown graph task x
    → (old.groups g).hand ≡ task ∷ rest → ChangesGroup g (Keeps x rest) old new → Moves graph g g old new
moves_keeps graph g old new task rest x puts begins f = record {
  groups = f.groups;
  slots = λ k _. f.slots k;
  hand = hand_over graph g old new task rest x begins f.change.hand puts
      (in_list g x (kept x (Contains-push (old.groups g).items x)));
  items = λ y at. passed graph new (Request y) (in_list g y (kept y (Contains-append_left (old.groups g).items (x ∷ []) y at)));
  inbox = same_inbox graph old new f.slots g;
  done = λ u is. f.change.done u ∙ is;
  fresh = λ u is. inl (sym (f.change.done u) ∙ is);
  active = λ is. inl (sym f.change.active ∙ is);
  bits = same_bits old new f.words;
  resolved = same_resolved graph old new f.words;
}
  where
    kept : (y : Item) → Contains ((old.groups g).items ++ x ∷ []) y → Contains (new.groups g).items y
    kept y at = moved_in ((old.groups g).items ++ x ∷ []) (new.groups g).items y (sym f.change.items) at

pub moves_hands : (graph : Graph) (g : ℕ) (old new : State) (task : Task) (rest : List Task) (x : Item) → PutsDown graph task x
    → (old.groups g).hand ≡ task ∷ rest → HandsOn graph g x rest old new → Moves graph g (home_of graph x) old new
moves_hands graph g old new task rest x puts begins f = record {
  groups = f.groups;
  slots = f.slots;
  hand = hand_over graph g old new task rest x begins f.turns.hand puts
      (in_slot (home_of graph x) x (left x (Contains-push (old.slots (home_of graph x)).inbox x)));
  items = λ y at. passed graph new (Request y)
      (in_list g y (moved_in (old.groups g).items (new.groups g).items y (sym f.turns.items) at));
  inbox = λ y at. passed graph new (Request y)
      (in_slot (home_of graph x) y (left y (Contains-append_left (old.slots (home_of graph x)).inbox (x ∷ []) y at)));
  done = λ u is. f.turns.done u ∙ is;
  fresh = λ u is. inl (sym (f.turns.done u) ∙ is);
  active = λ is. inl (sym f.turns.active ∙ is);
  bits = same_bits old new f.words;
  resolved = same_resolved graph old new f.words;
}
  where
    left : (y : Item) → Contains ((old.slots (home_of graph x)).inbox ++ x ∷ []) y
        → Contains (new.slots (home_of graph x)).inbox y
    left y at =
        moved_in ((old.slots (home_of graph x)).inbox ++ x ∷ []) (new.slots (home_of graph x)).inbox y (sym f.receives.inbox) at
