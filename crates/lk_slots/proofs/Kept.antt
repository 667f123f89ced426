-- What stays to be done is never lost, as long as nothing is given up.
use Rattle.std.proofs.Common.{◌≡◌, ◌⊎◌, ◌∙◌, ℕ, true, false, ap, inl, inr, refl, subst, sym}
use Rattle.std.specs.Int.{bit_at}
use Rattle.std.specs.List.{Contains}
use Rattle.lk_slots.specs.Machine.{Graph, IsStart, Load, Request, State, Task}
use Rattle.lk_slots.specs.Reach.{Asks, IsWhole, Sets}
use Rattle.lk_slots.specs.States.{HasBit, IsDone, IsMet, Stands}

-- what a task asks for is met; what it sets is in the words, or a task stands that sets it
pub record IsHandled (graph : Graph) (st : State) (t : Task) : Type 0 where
  pub asks : (u : ℕ) → Asks t u → IsMet graph st u
  pub sets : (s i : ℕ) → Sets graph t s i → HasBit st s i ⊎ ((r : Task) × Stands st r × Sets graph r s i)

abbrev pub IsRequested : Graph → State → ℕ → Type 0
IsRequested graph st u = IsDone graph st u ⊎ Stands st (Request (Load u))

-- what stood before a step is handled behind it, and a request to load stands still, or the unit is done
pub record IsPassed (graph : Graph) (st : State) (t : Task) : Type 0 where
  pub handled : IsHandled graph st t
  pub load : (u : ℕ) → t ≡ Request (Load u) → IsRequested graph st u

pub record IsKept (graph : Graph) (st : State) : Type 0 where
  pub roots : (g : ℕ) (t : Task) → (st.groups g).active ≡ true → Contains (graph.roots g) t → IsHandled graph st t
  pub follows : (u : ℕ) (t : Task) → IsDone graph st u → Contains (graph.follows u) t → IsHandled graph st t
  pub resolved : (s : ℕ) → graph.resolves (st.words s) ≡ true → IsRequested graph st s
  pub handed : (s i : ℕ) → bit_at (graph.handed_in s) i ≡ 1 → HasBit st s i

-- what each step does
pub record Passes (graph : Graph) (old new : State) : Type 0 where
  pub done : (u : ℕ) → IsDone graph old u → IsDone graph new u
  pub bits : (s i : ℕ) → HasBit old s i → HasBit new s i
  pub stood : (t : Task) → Stands old t → IsPassed graph new t
  pub active : (g : ℕ) → (new.groups g).active ≡ true
      → ((old.groups g).active ≡ true) ⊎ ((t : Task) → Contains (graph.roots g) t → Stands new t)
  pub fresh : (u : ℕ) → IsDone graph new u → IsDone graph old u ⊎ ((t : Task) → Contains (graph.follows u) t → Stands new t)
  pub resolved : (s : ℕ) → graph.resolves (new.words s) ≡ true → (graph.resolves (old.words s) ≡ true) ⊎ IsRequested graph new s

pub passed : (graph : Graph) (st : State) (t : Task) → Stands st t → IsPassed graph st t
passed graph st t there = record {
  handled = record {
    asks = λ u h. inr (t, there, h);
    sets = λ s i h. inr (t, there, h);
  };
  load = λ u e. inr (subst (Stands st) e there);
}

handled_over : (graph : Graph) (old new : State) (t : Task) → Passes graph old new → IsHandled graph old t → IsHandled graph new t
handled_over graph old new t p h = record {
  asks = λ u a. elim (h.asks u a) [
    | inl done ↦ inl (p.done u done)
    | inr stands ↦ (p.stood stands.0 stands.1).handled.asks u stands.2
  ];
  sets = λ s i a. elim (h.sets s i a) [
    | inl bit ↦ inl (p.bits s i bit)
    | inr stands ↦ (p.stood stands.0 stands.1).handled.sets s i stands.2
  ];
}

requested_over : (graph : Graph) (old new : State) (u : ℕ) → Passes graph old new → IsRequested graph old u
    → IsRequested graph new u
requested_over graph old new u p (inl done) = inl (p.done u done)
requested_over graph old new u p (inr stands) = (p.stood (Request (Load u)) stands).load u refl

pub kept_over : (graph : Graph) (old new : State) → IsKept graph old → Passes graph old new → IsKept graph new
kept_over graph old new h p = record {
  roots = λ g t is there. elim (p.active g is) [
    | inl was ↦ handled_over graph old new t p (h.roots g t was there)
    | inr now ↦ (passed graph new t (now t there)).handled
  ];
  follows = λ u t is there. elim (p.fresh u is) [
    | inl was ↦ handled_over graph old new t p (h.follows u t was there)
    | inr now ↦ (passed graph new t (now t there)).handled
  ];
  resolved = λ s is. elim (p.resolved s is) [
    | inl was ↦ requested_over graph old new s p (h.resolved s was)
    | inr now ↦ now
  ];
  handed = λ s i bit. p.bits s i (h.handed s i bit);
}

pub kept_first : (graph : Graph) (st : State) → IsWhole graph → IsStart graph st → IsKept graph st
kept_first graph st whole h = record {
  roots = λ g t is there. absurd (let both : false ≡ true = sym (h.active g) ∙ is in cc);
  follows = λ u t is there. absurd (let both : false ≡ true = sym (h.done (graph.group_of u) u) ∙ is in cc);
  resolved = λ s is. absurd (let both : false ≡ true = sym (whole.unresolved s) ∙ sym (ap graph.resolves (h.words s)) ∙ is in cc);
  handed = λ s i bit. ap (λ w. bit_at w i) (h.words s) ∙ bit;
}
