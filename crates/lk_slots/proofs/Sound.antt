-- What holds goes over each step.
use Rattle.std.proofs.Common.{◌≡◌, ◌<◌, ◌∙◌, [], ◌∷◌, ◌++◌, ℕ, true, false, List, ap, inl, inr, refl, subst, sym}
use Rattle.std.proofs.lemmas.Bool.{cases_eq}
use Rattle.std.proofs.lemmas.List.Elements.{Contains-append_cases, Contains-push_cases}
use Rattle.std.specs.Int.{bit_at}
use Rattle.std.specs.List.{Contains}
use Rattle.lk_slots.specs.Machine.{Activate, Activates, ChangesGroup, Deposit, Deposits, Does, Drop, Drops, Graph, Group, HandsOn, Item, Keeps, LeadTo, Or, Joins, Parks, ParkOrSwap, Receives, Request, Rests, Same, Slot, State, Step, Take, Takes, Task, Turns, home_of, left_of}
use Rattle.lk_slots.specs.Reach.{HasFlag, IsReached}
use Rattle.lk_slots.specs.States.{HasBit}
use Rattle.lk_slots.proofs.Holding.{GroupHolds, Holds, IsOwn, IsTrue, SlotHolds, each_place, holds_first, true_task, with_hand, with_items}
use Rattle.lk_slots.proofs.Lists.{first_in, later_in, left_in, moved_in, none_in, out_in}
use Rattle.lk_slots.proofs.Tasks.{done_true, or_bit, sets_bit, true_item, true_left, true_work}

-- ---- groups and slots

group_after : (graph : Graph) (g : ℕ) (old new : Group) → GroupHolds graph g old → old.active ≡ true → new.active ≡ old.active
    → ((t : Task) → Contains new.hand t → IsTrue graph t) → ((i : Item) → Contains new.items i → IsOwn graph g i)
    → ((u : ℕ) → new.done u ≡ true → IsReached graph u × (graph.group_of u ≡ g)) → GroupHolds graph g new
group_after graph g old new h was same hand items done = record {
  hand = hand;
  items = items;
  done = done;
  asleep = λ is. absurd (let both : true ≡ false = sym was ∙ sym same ∙ is in cc);
  inside = λ _. h.inside was;
}

same_items : (graph : Graph) (g : ℕ) (old new : Group) → GroupHolds graph g old → new.items ≡ old.items → (i : Item)
    → Contains new.items i → IsOwn graph g i
same_items graph g old new h same i there = h.items i (moved_in new.items old.items i same there)

activated : (graph : Graph) (g : ℕ) (old new : Group) → g < graph.groups → GroupHolds graph g old → Activates graph g old new
    → GroupHolds graph g new
activated graph g old new inside h f = record {
  hand = λ t there. true_task graph t (inl (g, inside, moved_in new.hand (graph.roots g) t f.hand there));
  items = same_items graph g old new h f.items;
  done = λ u is. h.done u (sym (f.done u) ∙ is);
  asleep = λ is. absurd (let both : true ≡ false = sym f.active ∙ is in cc);
  inside = λ _. inside;
}

turned : (graph : Graph) (g : ℕ) (tasks : List Task) (old new : Group) → GroupHolds graph g old → old.active ≡ true
    → ((t : Task) → Contains tasks t → IsTrue graph t) → Turns tasks old new → GroupHolds graph g new
turned graph g tasks old new h was true_tasks f =
    group_after graph g old new h was f.active (λ t there. true_tasks t (moved_in new.hand tasks t f.hand there))
    (same_items graph g old new h f.items)
    (λ u is. h.done u (sym (f.done u) ∙ is))

taken : (graph : Graph) (g : ℕ) (old new : Group) → GroupHolds graph g old → Takes graph old new → GroupHolds graph g new
taken graph g old new h f =
    let there = out_in old.items f.item new.items f.out in
    let own = h.items f.item there in
    group_after graph g old new h (with_items graph g old f.item h there) f.active
    (λ t at. true_work graph old f.item t own.0 (moved_in new.hand _ t f.hand at))
    (λ i at. h.items i (left_in old.items f.item new.items i f.out at))
    (λ u is. done_true graph g old f.item u h own (sym (f.done u) ∙ is))

kept : (graph : Graph) (g : ℕ) (x : Item) (rest : List Task) (old new : Group) → GroupHolds graph g old → old.active ≡ true
    → ((t : Task) → Contains rest t → IsTrue graph t) → IsOwn graph g x → Keeps x rest old new → GroupHolds graph g new
kept graph g x rest old new h was true_rest own f =
    group_after graph g old new h was f.active (λ t at. true_rest t (moved_in new.hand rest t f.hand at))
    (λ i at. elim (Contains-push_cases old.items x i (moved_in new.items (old.items ++ x ∷ []) i f.items at)) [
      | inl before ↦ h.items i before
      | inr is ↦ subst (IsOwn graph g) is own
    ])
    (λ u is. h.done u (sym (f.done u) ∙ is))

dropped : (graph : Graph) (g : ℕ) (old new : Group) → GroupHolds graph g old → Drops old new → GroupHolds graph g new
dropped graph g old new h f = elim f.gone [
  | inl item ↦
      group_after graph g old new h (with_items graph g old item.0 h (out_in old.items item.0 new.items item.1)) f.active
      (λ t at. h.hand t (moved_in new.hand old.hand t item.2 at))
      (λ i at. h.items i (left_in old.items item.0 new.items i item.1 at)) done
  | inr task ↦
      group_after graph g old new h (with_hand graph g old task.0 h (out_in old.hand task.0 new.hand task.1)) f.active
      (λ t at. h.hand t (left_in old.hand task.0 new.hand t task.1 at)) (same_items graph g old new h task.2) done
]
  where
    done : (u : ℕ) → new.done u ≡ true → IsReached graph u × (graph.group_of u ≡ g)
    done u is = h.done u (sym (f.done u) ∙ is)

received : (graph : Graph) (g : ℕ) (x : Item) (old new : Slot) → SlotHolds graph g old → IsOwn graph g x → Receives x old new
    → SlotHolds graph g new
received graph g x old new h own f = record {
  inbox = λ i at. elim (Contains-push_cases old.inbox x i (moved_in new.inbox (old.inbox ++ x ∷ []) i f.inbox at)) [
    | inl before ↦ h.inbox i before
    | inr is ↦ subst (IsOwn graph g) is own
  ];
  awake = λ is. absurd (let both : false ≡ true = sym f.parked ∙ is in cc);
}

parked : (graph : Graph) (g : ℕ) (old new : Slot) → Parks old new → SlotHolds graph g new
parked graph g old new f = record {
  inbox = λ i at. none_in new.inbox i f.inbox at;
  awake = λ _. f.inbox;
}

-- ---- steps

same_flags : (graph : Graph) (old new : State) → Holds graph old → Same old.words new.words → (s i : ℕ) → HasBit new s i
    → HasFlag graph s i
same_flags graph old new h same s i bit = h.flags s i (sym (ap (λ w. bit_at w i) (same s)) ∙ bit)

same_slots : (graph : Graph) (old new : State) → Holds graph old → Same old.slots new.slots → (g : ℕ)
    → SlotHolds graph g (new.slots g)
same_slots graph old new h same g = subst (SlotHolds graph g) (sym (same g)) (h.slots g)

holds_group : (graph : Graph) (g : ℕ) (Change : Group → Group → Type 0) (old new : State) → Holds graph old
    → ChangesGroup g Change old new
    → GroupHolds graph g (new.groups g) → Holds graph new
holds_group graph g Change old new h f here = record {
  groups = each_place (GroupHolds graph) g old.groups new.groups f.groups h.groups here;
  slots = same_slots graph old new h f.slots;
  flags = same_flags graph old new h f.words;
}

-- the rest of a hand is true
true_rest : (graph : Graph) (g : ℕ) (old : State) (task : Task) (rest : List Task) → Holds graph old
    → (old.groups g).hand ≡ task ∷ rest
    → (t : Task) → Contains rest t → IsTrue graph t
true_rest graph g old task rest h begins t there =
    (h.groups g).hand t (moved_in (task ∷ rest) (old.groups g).hand t (sym begins) (later_in task rest t there))

true_first : (graph : Graph) (g : ℕ) (old : State) (task : Task) (rest : List Task) → Holds graph old
    → (old.groups g).hand ≡ task ∷ rest → Contains (old.groups g).hand task
true_first graph g old task rest h begins = moved_in (task ∷ rest) (old.groups g).hand task (sym begins) (first_in task rest)

holds_joins : (graph : Graph) (g : ℕ) (old new : State) → Holds graph old → Joins graph g old new → Holds graph new
holds_joins graph g old new h f = record {
  groups = each_place (GroupHolds graph) g old.groups new.groups f.groups h.groups
      (turned graph g (left_of graph (old.words f.symbol) f.task ++ f.rest) (old.groups g) (new.groups g) (h.groups g)
      (with_hand graph g (old.groups g) f.task (h.groups g) first)
      (λ t at. elim (Contains-append_cases (left_of graph (old.words f.symbol) f.task) f.rest t at) [
        | inl left ↦ true_left graph (old.words f.symbol) f.task t task left
        | inr later ↦ true_rest graph g old f.task f.rest h f.begins t later
      ]) f.turns);
  slots = same_slots graph old new h f.slots;
  flags = λ s i bit. elim (cases_eq s f.symbol) [
    | inl here ↦
        elim (or_bit (old.words f.symbol) f.flags i (sym (ap (λ w. bit_at w i) (ap new.words here ∙ f.word)) ∙ bit)) [
          | inl before ↦ subst (λ r. HasFlag graph r i) (sym here) (h.flags f.symbol i before)
          | inr now ↦ subst (λ r. HasFlag graph r i) (sym here)
              (task.sets f.symbol i (sets_bit graph f.task f.symbol f.flags i f.sets now))
        ]
    | inr other ↦ h.flags s i (sym (ap (λ w. bit_at w i) (f.words s other)) ∙ bit)
  ];
}
  where
    first : Contains (old.groups g).hand f.task
    first = true_first graph g old f.task f.rest h f.begins

    task : IsTrue graph f.task
    task = (h.groups g).hand f.task (true_first graph g old f.task f.rest h f.begins)

holds_hands : (graph : Graph) (g : ℕ) (x : Item) (rest : List Task) (old new : State) → Holds graph old
    → (old.groups g).active ≡ true
    → ((t : Task) → Contains rest t → IsTrue graph t) → IsTrue graph (Request x) → HandsOn graph g x rest old new
    → Holds graph new
holds_hands graph g x rest old new h was rest_true item f = record {
  groups = each_place (GroupHolds graph) g old.groups new.groups f.groups h.groups
      (turned graph g rest (old.groups g) (new.groups g) (h.groups g) was rest_true f.turns);
  slots = each_place (SlotHolds graph) (home_of graph x) old.slots new.slots f.slots h.slots
      (received graph (home_of graph x) x (old.slots (home_of graph x)) (new.slots (home_of graph x))
      (h.slots (home_of graph x)) (item, refl) f.receives);
  flags = same_flags graph old new h f.words;
}

holds_deposits : (graph : Graph) (g : ℕ) (old new : State) → Holds graph old → Deposits graph g old new → Holds graph new
holds_deposits graph g old new h f = elim f.goes [
  | inl own ↦
      holds_group graph g (Keeps f.item f.rest) old new h own.1
      (kept graph g f.item f.rest (old.groups g) (new.groups g) (h.groups g) was rest_true (item, own.0) own.1.change)
  | inr other ↦ holds_hands graph g f.item f.rest old new h was rest_true item other
]
  where
    was : (old.groups g).active ≡ true
    was = with_hand graph g (old.groups g) f.task (h.groups g) (true_first graph g old f.task f.rest h f.begins)

    rest_true : (t : Task) → Contains f.rest t → IsTrue graph t
    rest_true = true_rest graph g old f.task f.rest h f.begins

    item : IsTrue graph (Request f.item)
    item = true_item graph f.task f.item f.puts ((h.groups g).hand f.task (true_first graph g old f.task f.rest h f.begins))

holds_rests : (graph : Graph) (g : ℕ) (old new : State) → Holds graph old → Rests g old new → Holds graph new
holds_rests graph g old new h f = record {
  groups = each_place (GroupHolds graph) g old.groups new.groups f.groups h.groups (elim f.goes [
    | inl parks ↦ subst (GroupHolds graph g) (sym parks.0) (h.groups g)
    | inr swaps ↦
        group_after graph g (old.groups g) (new.groups g) (h.groups g) f.active swaps.0.active
        (λ t at. (h.groups g).hand t (moved_in (new.groups g).hand (old.groups g).hand t swaps.0.hand at))
        (λ i at. (h.slots g).inbox i (moved_in (new.groups g).items (old.slots g).inbox i swaps.1.items at))
        (λ u is. (h.groups g).done u (sym (swaps.0.done u) ∙ is))
  ]);
  slots = each_place (SlotHolds graph) g old.slots new.slots f.slots h.slots (elim f.goes [
    | inl parks ↦ parked graph g (old.slots g) (new.slots g) parks.1
    | inr swaps ↦ record {
      inbox = λ i at. none_in (new.slots g).inbox i (swaps.1.inbox ∙ f.items) at;
      awake = λ _. swaps.1.inbox ∙ f.items;
    }
  ]);
  flags = same_flags graph old new h f.words;
}

pub holds_step : (graph : Graph) (step : Step) (old new : State) → Holds graph old → Does graph step old new → Holds graph new
holds_step graph (Activate g) old new h f =
    holds_group graph g (Activates graph g) old new h f.1
    (activated graph g (old.groups g) (new.groups g) f.0 (h.groups g) f.1.change)
holds_step graph (Take g) old new h f =
    holds_group graph g (Takes graph) old new h f (taken graph g (old.groups g) (new.groups g) (h.groups g) f.change)
holds_step graph (Or g) old new h f = holds_joins graph g old new h f
holds_step graph (Deposit g) old new h f = holds_deposits graph g old new h f
holds_step graph (ParkOrSwap g) old new h f = holds_rests graph g old new h f
holds_step graph (Drop g) old new h f =
    holds_group graph g Drops old new h f (dropped graph g (old.groups g) (new.groups g) (h.groups g) f.change)

pub holds_behind : (graph : Graph) (steps : List Step) (st : State) → LeadTo graph steps st → Holds graph st
unfolding LeadTo
holds_behind graph [] st h = holds_first graph st h
holds_behind graph (step ∷ steps) st h = holds_step graph step h.0 st (holds_behind graph steps h.0 h.1) h.2
