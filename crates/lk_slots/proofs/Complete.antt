-- Where nothing was given up, what stays to be done is never lost, and so a quiet state is all.
use Rattle.std.proofs.Common.{◌≡◌, ◌<◌, [], ◌∷◌, ℕ, List, inl, inr, refl, subst}
use Rattle.std.specs.List.{Contains}
use Rattle.lk_slots.specs.Laws.{NothingGivenUp}
use Rattle.lk_slots.specs.Machine.{Activate, Deposit, Deposits, Does, Drop, Graph, LeadTo, Or, ParkOrSwap, State, Step, Take, Task, home_of, unit_of}
use Rattle.lk_slots.specs.Reach.{HasFlag, IsReached, IsWhole, Sets, by_root, by_unit}
use Rattle.lk_slots.specs.States.{HasBit, IsDone, IsMet, IsQuiet, Stands, in_hand, in_list, in_slot}
use Rattle.lk_slots.proofs.Handing.{moves_hands, moves_keeps}
use Rattle.lk_slots.proofs.Holding.{Holds, with_hand, with_items}
use Rattle.lk_slots.proofs.Kept.{IsHandled, IsKept, Passes, kept_first, kept_over}
use Rattle.lk_slots.proofs.Lists.{first_in, later_in, none_in}
use Rattle.lk_slots.proofs.Moving.{passes}
use Rattle.lk_slots.proofs.Setting.{moves_joins}
use Rattle.lk_slots.proofs.Sound.{holds_behind}
use Rattle.lk_slots.proofs.Working.{moves_activated, moves_rests, moves_taken}

-- ---- steps

deposits_pass : (graph : Graph) (g : ℕ) (old new : State) → Deposits graph g old new → Passes graph old new
deposits_pass graph g old new f = elim f.goes [
  | inl own ↦ passes graph g g old new (moves_keeps graph g old new f.task f.rest f.item f.puts f.begins own.1)
  | inr other ↦
      passes graph g (home_of graph f.item) old new (moves_hands graph g old new f.task f.rest f.item f.puts f.begins other)
]

step_passes : (graph : Graph) (step : Step) (old new : State) → IsWhole graph → Holds graph old → IsKept graph old
    → ((g : ℕ) → step ≡ Drop g → ⊥)
    → Does graph step old new → Passes graph old new
step_passes graph (Activate g) old new whole h kept stays f = passes graph g g old new (moves_activated graph g old new h f.1)
step_passes graph (Take g) old new whole h kept stays f = passes graph g g old new (moves_taken graph g old new h f)
step_passes graph (Or g) old new whole h kept stays f = passes graph g g old new (moves_joins graph g old new f whole h kept)
step_passes graph (Deposit g) old new whole h kept stays f = deposits_pass graph g old new f
step_passes graph (ParkOrSwap g) old new whole h kept stays f = passes graph g g old new (moves_rests graph g old new f)
step_passes graph (Drop g) old new whole h kept stays f = absurd (stays g refl)

pub kept_behind : (graph : Graph) (steps : List Step) (st : State) → IsWhole graph → NothingGivenUp steps
    → LeadTo graph steps st → IsKept graph st
unfolding LeadTo
kept_behind graph [] st whole stays h = kept_first graph st whole h
kept_behind graph (step ∷ steps) st whole stays h =
    let before = kept_behind graph steps h.0 whole (λ g there. stays g (later_in step steps (Drop g) there)) h.1 in
    kept_over graph h.0 st before (step_passes graph step h.0 st whole (holds_behind graph steps h.0 h.1) before
    (λ g is. stays g (subst (Contains (step ∷ steps)) is (first_in step steps))) h.2)

-- ---- quiet states

module _ (graph : Graph) (st : State) (whole : IsWhole graph) (h : Holds graph st) (quiet : IsQuiet graph st) where
  nothing_stands : {A : Type 0} (t : Task) → Stands st t → A
  nothing_stands {A} t (in_hand g r there) =
      none_in (st.groups g).hand r
      (quiet.hand g ((h.groups g).inside (with_hand graph g (st.groups g) r (h.groups g) there))) there
  nothing_stands {A} t (in_list g x there) =
      none_in (st.groups g).items x
      (quiet.items g ((h.groups g).inside (with_items graph g (st.groups g) x (h.groups g) there))) there
  nothing_stands {A} t (in_slot g x there) =
      let own = (h.slots g).inbox x there in
      let inside : g < graph.groups =
      subst (λ k. k < graph.groups) own.1 (whole.inside (unit_of x) (own.0.asks (unit_of x) refl)) in
      none_in (st.slots g).inbox x ((h.slots g).awake (quiet.parked g inside)) there

  met_done : (u : ℕ) → IsMet graph st u → IsDone graph st u
  met_done u (inl done) = done
  met_done u (inr stands) = nothing_stands stands.0 stands.1

  handled_bit : (t : Task) (s i : ℕ) → IsHandled graph st t → Sets graph t s i → HasBit st s i
  handled_bit t s i handled sets = elim (handled.sets s i sets) [
    | inl bit ↦ bit
    | inr stands ↦ nothing_stands stands.0 stands.1
  ]

  pub all_done : IsKept graph st → {u : ℕ} → IsReached graph u → IsDone graph st u
  all_done kept (by_root g t u inside there asks) = met_done u ((kept.roots g t (quiet.active g inside) there).asks u asks)
  all_done kept (by_unit v t u reached there asks) = met_done u ((kept.follows v t (all_done kept reached) there).asks u asks)

  pub all_flags : IsKept graph st → (s i : ℕ) → HasFlag graph s i → HasBit st s i
  all_flags kept s i (inl handed) = kept.handed s i handed
  all_flags kept s i (inr task) = elim task.1 [
    | inl root ↦ handled_bit task.0 s i (kept.roots root.0 task.0 (quiet.active root.0 root.1) root.2) task.2
    | inr unit ↦ handled_bit task.0 s i (kept.follows unit.0 task.0 (all_done kept unit.1) unit.2) task.2
  ]
