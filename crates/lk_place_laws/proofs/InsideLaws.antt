-- A section stands inside a segment exactly where an event places it there.
use Rattle.std.proofs.Common.{◌≡◌, ℕ, zero, suc, ◌+◌, Bool, true, false, List, [], ◌∷◌, take, Option, Some, None, refl, sym, ap, subst, ◌∙◌, ◌⊎◌, inl, inr, arith, add-zero, zero-add, eq-eqb}
use Rattle.std.specs.Prelude.{◌==◌, if◌then◌else◌, slice_get}
use Rattle.std.specs.List.{cons_option, enumerate_from, filter_map, list_any}
use Rattle.std.proofs.lemmas.Bool.{eqb-true, or_cases, or_left, or_right}
use Rattle.lk_link.specs.declared.plan.OrderEvent.{OrderEvent}
use Rattle.lk_link.specs.declared.plan.OrderEvent.TheVariants.{Section}
use Rattle.lk_link.specs.Inside.{is_open, placed_inside, placed_section}
use Rattle.lk_place_laws.specs.Laws.{InsideIsPlaced}
use Rattle.lk_place_laws.proofs.OpenBefore.{section_event}

-- whether a section is among those from some event on
abbrev among : List OrderEvent → ℕ → ℕ → ℕ → List OrderEvent → Bool
among events i s j es = list_any (λ t. t == s) (filter_map (placed_inside events i) (enumerate_from j es))

-- event k of those behind the first j places the section while the segment is open
record IsBehind (events : List OrderEvent) (i s j : ℕ) (es : List OrderEvent) : Type 0 where
  k : ℕ
  here : slice_get es k ≡ Some (Section s)
  inside : is_open i (take (j + k) events) ≡ true

chosen : (b : Bool) (o : Option ℕ) (s : ℕ) → (if b then o else None) ≡ Some s → (b ≡ true) × (o ≡ Some s)
chosen true o s h = (refl, h)
chosen false o s h = absurd (cc)

-- the section is the first, or among the rest
first_or_rest : (o : Option ℕ) (s : ℕ) (rest : List ℕ) → list_any (λ t. t == s) (cons_option o rest) ≡ true → (o ≡ Some s) ⊎ (list_any (λ t. t == s) rest ≡ true)
first_or_rest None s rest h = inr h
first_or_rest (Some t) s rest h =
    elim (or_cases (t == s) (list_any (λ u. u == s) rest) h) [
      | inl same ↦ inl (ap (λ n. Some n) (eqb-true t s same))
      | inr later ↦ inr later
    ]

in_rest : (o : Option ℕ) (s : ℕ) (rest : List ℕ) → list_any (λ t. t == s) rest ≡ true → list_any (λ t. t == s) (cons_option o rest) ≡ true
in_rest None s rest h = h
in_rest (Some t) s rest h = or_right (t == s) (list_any (λ u. u == s) rest) h

found_from : (events : List OrderEvent) (i s j : ℕ) (es : List OrderEvent) → among events i s j es ≡ true → IsBehind events i s j es
found_from events i s j [] h = absurd (cc)
found_from events i s j (e ∷ es) h =
    elim (first_or_rest (placed_inside events i (j, e)) s (filter_map (placed_inside events i) (enumerate_from (j + 1) es)) h) [
      | inl first ↦
          let there = chosen (is_open i (take j events)) (placed_section e) s first in
          record { k = 0; here = ap (λ (x : OrderEvent). Some x) (section_event e s there.1); inside = ap (λ n. is_open i (take n events)) (add-zero j) ∙ there.0 }
      | inr later ↦
          let rest : IsBehind events i s (j + 1) es = found_from events i s (j + 1) es later in
          let number : j + suc rest.k ≡ j + 1 + rest.k = omega arith in
          record { k = suc rest.k; here = rest.here; inside = ap (λ n. is_open i (take n events)) number ∙ rest.inside }
    ]

listed_from : (events : List OrderEvent) (i s j k : ℕ) (es : List OrderEvent) → slice_get es k ≡ Some (Section s) → is_open i (take (j + k) events) ≡ true
    → among events i s j es ≡ true
listed_from events i s j k [] here inside = absurd (cc)
listed_from events i s j zero (e ∷ es) here inside =
    let is : e ≡ Section s = cc in
    let rest : List ℕ = filter_map (placed_inside events i) (enumerate_from (j + 1) es) in
    let still : is_open i (take j events) ≡ true = ap (λ n. is_open i (take n events)) (sym (add-zero j)) ∙ inside in
    let placed : placed_inside events i (j, e) ≡ Some s = ap (λ b. if b then placed_section e else None) still ∙ ap placed_section is in
    subst (λ o. list_any (λ t. t == s) (cons_option o rest) ≡ true) (sym placed) (or_left (s == s) (list_any (λ t. t == s) rest) (eq-eqb s s refl))
listed_from events i s j (suc k) (e ∷ es) here inside =
    let number : j + suc k ≡ j + 1 + k = omega arith in
    let still : is_open i (take (j + 1 + k) events) ≡ true = ap (λ n. is_open i (take n events)) (sym number) ∙ inside in
    in_rest (placed_inside events i (j, e)) s (filter_map (placed_inside events i) (enumerate_from (j + 1) es)) (listed_from events i s (j + 1) k es here still)

pub inside_is_placed : InsideIsPlaced
inside_is_placed plan i s = (
  λ h.
      let found : IsBehind plan.events i s 0 plan.events = found_from plan.events i s 0 plan.events h in
      (found.k, record { here = found.here; inside = ap (λ n. is_open i (take n plan.events)) (sym (zero-add found.k)) ∙ found.inside }),
  λ h. listed_from plan.events i s 0 h.0 plan.events h.1.here (ap (λ n. is_open i (take n plan.events)) (zero-add h.0) ∙ h.1.inside),
)
