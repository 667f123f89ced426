-- What comes of a task that is true is true.
use Rattle.std.proofs.Common.{◌≡◌, ◌⊎◌, ◌==◌, ◌||◌, ◌∙◌, [], ◌∷◌, ℕ, Bool, true, false, ap, arith, cond, inl, inr, not, refl, subst, sym, bit_or}
use Rattle.std.proofs.lemmas.Bool.{cases_eq, eqb-true, or_cases}
use Rattle.std.proofs.lemmas.Nat.Bits.{bit_at-lt, bit_at_or}
use Rattle.std.specs.Int.{bit_at}
use Rattle.std.specs.List.{Contains}
use Rattle.lk_slots.specs.Machine.{Export, Graph, Group, Item, Load, Mark, PutsDown, Refer, Request, SetsFlags, Task, done_after, left_of, work_of}
use Rattle.lk_slots.specs.Reach.{IsReached, Sets}
use Rattle.lk_slots.proofs.Holding.{GroupHolds, IsOwn, IsTrue, true_task}
use Rattle.lk_slots.proofs.Lists.{in_cases, none_in}

pub or_bit : (a b i : ℕ) → bit_at (bit_or a b) i ≡ 1 → (bit_at a i ≡ 1) ⊎ (bit_at b i ≡ 1)
or_bit a b i h = elim (cases_eq (bit_at a i) 1) [
  | inl is ↦ inl is
  | inr isnt ↦ inr (omega (arith, bit_at_or a b i, bit_at-lt a i, bit_at-lt b i))
]

pub sets_bit : (graph : Graph) (t : Task) (s flags i : ℕ) → SetsFlags t s flags → bit_at flags i ≡ 1 → Sets graph t s i
sets_bit graph (Refer r f) s flags i e bit = (e.0, ap (λ w. bit_at w i) e.1 ∙ bit)
sets_bit graph (Mark r f) s flags i e bit = (e.0, ap (λ w. bit_at w i) e.1 ∙ bit)
sets_bit graph (Request x) s flags i e bit = absurd e

-- a list of one task, or of none
pub one_or_none : (b : Bool) (x t : Task) → Contains (cond b (x ∷ []) []) t → x ≡ t
one_or_none true x t there = elim (in_cases x [] t there) [
  | inl is ↦ is
  | inr later ↦ none_in [] t refl later
]
one_or_none false x t there = none_in [] t refl there

true_load : (graph : Graph) (s flags : ℕ) → IsTrue graph (Refer s flags) → IsTrue graph (Request (Load s))
true_load graph s flags h = record {
  asks = h.asks;
  sets = λ r i no_flags. absurd no_flags;
  mark = λ r f e. absurd (cc);
}

pub true_left : (graph : Graph) (word : ℕ) (task t : Task) → IsTrue graph task → Contains (left_of graph word task) t
    → IsTrue graph t
true_left graph word (Refer s flags) t h there =
    subst (IsTrue graph) (one_or_none ((flags == 0) || not (graph.resolves word)) (Request (Load s)) t there)
    (true_load graph s flags h)
true_left graph word (Mark s flags) t h there = none_in [] t refl there
true_left graph word (Request x) t h there = none_in [] t refl there

pub true_item : (graph : Graph) (task : Task) (x : Item) → PutsDown graph task x → IsTrue graph task → IsTrue graph (Request x)
true_item graph (Request y) x puts h = subst (λ i. IsTrue graph (Request i)) puts h
true_item graph (Refer s flags) x puts h = subst (λ i. IsTrue graph (Request i)) puts.1 (record {
  asks = h.asks;
  sets = λ r i e. h.sets r i (e.0, ap (λ w. bit_at w i) puts.0 ∙ e.1);
  mark = λ r f e. absurd (cc);
})
true_item graph (Mark s flags) x puts h = absurd puts

true_export : (graph : Graph) (s : ℕ) → IsTrue graph (Request (Export s)) → IsTrue graph (Refer s graph.export_flags)
true_export graph s h = record {
  asks = h.asks;
  sets = h.sets;
  mark = λ r f e. absurd (cc);
}

pub true_work : (graph : Graph) (group : Group) (x : Item) (t : Task) → IsTrue graph (Request x)
    → Contains (work_of graph group x) t → IsTrue graph t
true_work graph group (Load v) t h there = by (group.done v) there
  where
    by : (b : Bool) → Contains (cond b [] (graph.follows v)) t → IsTrue graph t
    by true found = none_in [] t refl found
    by false found = true_task graph t (inr (v, h.asks v refl, found))
true_work graph group (Export s) t h there = elim (in_cases (Refer s graph.export_flags) [] t there) [
  | inl is ↦ subst (IsTrue graph) is (true_export graph s h)
  | inr later ↦ none_in [] t refl later
]

pub done_true : (graph : Graph) (g : ℕ) (group : Group) (x : Item) (u : ℕ) → GroupHolds graph g group → IsOwn graph g x
    → done_after group x u ≡ true
    → IsReached graph u × (graph.group_of u ≡ g)
done_true graph g group (Load v) u h own is = elim (or_cases (group.done u) (u == v) is) [
  | inl before ↦ h.done u before
  | inr now ↦
      let same = eqb-true u v now in subst (λ w. IsReached graph w × (graph.group_of w ≡ g)) (sym same) (own.0.asks v refl, own.1)
]
done_true graph g group (Export s) u h own is = h.done u is
