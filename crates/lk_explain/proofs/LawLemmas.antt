-- The laws: what is accepted is reached, and a reached unit has one shown path.
use Rattle.std.proofs.Common.{◌≡◌, ◌⊎◌, ℕ, zero, suc, ◌+◌, ◌-◌, ◌<◌, ◌≤◌, Bool, true, false, ◌==◌, List, [], ◌∷◌, ◌++◌, length, Option, Some, None, refl, sym, ap, ◌∙◌, subst, inl, inr, arith}
use Rattle.std.specs.List.{slice_get}
use Rattle.std.proofs.lemmas.Bool.{eqb-false, eqb-true}
use Rattle.std.proofs.lemmas.List.{length_push}
use Rattle.std.proofs.lemmas.Option.{slice_get_within}
use Rattle.lk_link.proofs.Elements.{append_at, append_left, at_contained, at_index, contains_at}
use Rattle.lk_link.specs.declared.link.LinkInput.{LinkInput}
use Rattle.lk_link.specs.WellFormed.{IsWellFormed}
use Rattle.lk_reach.specs.declared.units.Ask.{Ask}
use Rattle.lk_reach.specs.declared.units.Unit.{Unit as LinkUnit}
use Rattle.lk_reach.specs.Marks.{Asking, IsUnit, all_units, asking, unit_at, unit_number}
use Rattle.lk_reach.specs.Reach.{IsReached}
use Rattle.lk_reach.specs.Units.{AsksFor, follows, roots}
use Rattle.lk_reach.proofs.ReachLemmas.{reached_unit}
use Rattle.lk_reach.proofs.UnitLemmas.{asks_are_inside, number_of}
use Rattle.lk_explain.specs.KeepPath.{IsDistance, IsLeastAsker, IsPathTo, IsShown}
use Rattle.lk_explain.specs.Laws.{AcceptedIsReached, ReachedIsShown, ShownIsOne}
use Rattle.lk_explain.specs.Searching.{IsFor, LeadsTo}
use Rattle.lk_explain.proofs.NumberLemmas.{asked_unit, asks_number, follower, led_to, path_last, path_leads, path_push, path_some, reached_by}
use Rattle.lk_explain.proofs.PathLemmas.{accepted_path}
use Rattle.lk_explain.proofs.ShownLemmas.{distance_leads, distance_unit}

pub accepted_is_reached : AcceptedIsReached
accepted_is_reached link path unit k accepted long last =
    let keeps = accepted_path link path accepted in
    let end : Some keeps.0 ≡ Some unit = sym (path_last link path keeps.0 k keeps.1 long) ∙ last in
    let same : keeps.0 ≡ unit = cc in
    subst (IsReached link) same (reached_by link path keeps.0 keeps.1)

-- ---- one path

same_places : (xs ys : List LinkUnit) → length xs ≡ length ys → ((k : ℕ) → k < length xs → slice_get xs k ≡ slice_get ys k) → xs ≡ ys
same_places [] [] e h = refl
same_places [] (y ∷ ys) e h = absurd (omega (arith, e))
same_places (x ∷ xs) [] e h = absurd (omega (arith, e))
same_places (x ∷ xs) (y ∷ ys) e h =
    let first : Some x ≡ Some y = h 0 (omega arith) in
    let same : x ≡ y = cc in
    ap (λ z. z ∷ xs) same ∙ ap (λ zs. y ∷ zs) (same_places xs ys (omega (arith, e)) (λ k lt. h (suc k) (omega (arith, lt))))

one_asker : (link : LinkInput) (unit a b : LinkUnit) (k : ℕ) → IsWellFormed link → IsLeastAsker link unit k a → IsLeastAsker link unit k b → a ≡ b
one_asker link unit a b k wf h j =
    let le = h.least b j.far j.asks in
    let ge = j.least a h.far h.asks in
    let number : unit_number link.groups b ≡ unit_number link.groups a = omega (arith, le, ge) in
    let is_a : IsUnit link.groups a = distance_unit link a k wf h.far in
    let is_b : unit_at link.groups (unit_number link.groups a) ≡ Some b = subst (λ n. unit_at link.groups n ≡ Some b) number (distance_unit link b k wf j.far) in
    let both : Some a ≡ Some b = sym is_a ∙ is_b in
    cc

same_from_end : (link : LinkInput) (path other : List LinkUnit) (unit : LinkUnit) (j k : ℕ) → IsWellFormed link → IsShown link path unit → IsShown link other unit → length path ≡ length other → suc k + j ≡ length path
    → slice_get path k ≡ slice_get other k
same_from_end link path other unit zero k wf p q e at =
    path_last link path unit k p.leads (omega (arith, at)) ∙ sym (path_last link other unit k q.leads (omega (arith, at, e)))
same_from_end link path other unit (suc j) k wf p q e at =
    let next = at_index path (suc k) (omega (arith, at)) in
    let a = at_index path k (omega (arith, at)) in
    let b = at_index other k (omega (arith, at, e)) in
    let next_other : slice_get other (suc k) ≡ Some next.0 = sym (same_from_end link path other unit j (suc k) wf p q e (omega (arith, at))) ∙ next.1 in
    let same : a.0 ≡ b.0 = one_asker link next.0 a.0 b.0 (suc k) wf (p.before k a.0 next.0 a.1 next.1) (q.before k b.0 next.0 b.1 next_other) in
    a.1 ∙ ap Some same ∙ sym b.1

pub shown_is_one : ShownIsOne
shown_is_one link path other unit wf p q =
    let long : length path ≡ length other = omega (arith, p.far.least other q.leads, q.far.least path p.leads) in
    same_places path other long (λ k lt. same_from_end link path other unit (length path - suc k) k wf p q long (omega (arith, lt)))

-- ---- the least of those that can be told

-- the least number of which something holds
record IsLeast (P : ℕ → Type 0) (n : ℕ) : Type 0 where
  holds : P n
  least : (m : ℕ) → P m → n ≤ m

less_or_not : (m n : ℕ) → (m < n) ⊎ (n ≤ m)
less_or_not m zero = inr (omega arith)
less_or_not zero (suc n) = inl (omega arith)
less_or_not (suc m) (suc n) = elim (less_or_not m n) [ inl lt ↦ inl (omega arith) | inr ge ↦ inr (omega arith) ]

last_none : (P : ℕ → Type 0) (n m : ℕ) → ((j : ℕ) → j < n → P j → ⊥) → (P n → ⊥) → m < suc n → P m → ⊥
last_none P n m none isnt lt h = elim (less_or_not m n) [
  | inl less ↦ none m less h
  | inr ge ↦ let same : m ≡ n = omega (arith, lt, ge) in isnt (subst P same h)
]

at_least : (P : ℕ → Type 0) (n m : ℕ) → ((j : ℕ) → j < n → P j → ⊥) → P m → n ≤ m
at_least P n m none h = elim (less_or_not m n) [ inl lt ↦ absurd (none m lt h) | inr ge ↦ ge ]

search_below : (P : ℕ → Type 0) (dec : (n : ℕ) → P n ⊎ (P n → ⊥)) (n : ℕ) → ((m : ℕ) × IsLeast P m) ⊎ ((m : ℕ) → m < n → P m → ⊥)
search_below P dec zero = inr (λ m lt h. omega (arith, lt))
search_below P dec (suc n) = elim (search_below P dec n) [
  | inl found ↦ inl found
  | inr none ↦ elim (dec n) [
    | inl is ↦ inl (n, record { holds = is; least = λ m h. at_least P n m none h })
    | inr isnt ↦ inr (λ m lt h. last_none P n m none isnt lt h)
  ]
]

least_of : (P : ℕ → Type 0) (dec : (n : ℕ) → P n ⊎ (P n → ⊥)) (n : ℕ) → P n → (m : ℕ) × IsLeast P m
least_of P dec n h = elim (search_below P dec (suc n)) [ inl found ↦ found | inr none ↦ absurd (none n (omega arith) h) ]

-- ---- what can be told

number_is : (v u : ℕ) (b : Bool) → (v == u) ≡ b → (◌≡◌ {A = Option ℕ} (Some v) (Some u)) ⊎ (◌≡◌ {A = Option ℕ} (Some v) (Some u) → ⊥)
number_is v u true is = inl (ap Some (eqb-true v u is))
number_is v u false is = inr (λ e. let same : v ≡ u = cc in eqb-false v u is same)

target_is : (o : Option ℕ) (u : ℕ) → (o ≡ Some u) ⊎ (o ≡ Some u → ⊥)
target_is None u = inr (λ e. absurd (cc))
target_is (Some v) u = number_is v u (v == u) refl

for_neither_at : (g : Asking) (a : Ask) (asks : List Ask) (u : ℕ) (b : Ask) (k : ℕ) → slice_get (a ∷ asks) k ≡ Some b → g.target b ≡ Some u → (g.target a ≡ Some u → ⊥) → (IsFor g asks u → ⊥) → ⊥
for_neither_at g a asks u b zero at target isnt none = let same : a ≡ b = cc in isnt (ap g.target same ∙ target)
for_neither_at g a asks u b (suc k) at target isnt none = none (record { ask = b; among = contains_at asks k b at; target = target })

for_neither : (g : Asking) (a : Ask) (asks : List Ask) (u : ℕ) → (g.target a ≡ Some u → ⊥) → (IsFor g asks u → ⊥) → IsFor g (a ∷ asks) u → ⊥
for_neither g a asks u isnt none h =
    let at = at_contained (a ∷ asks) h.ask h.among in
    for_neither_at g a asks u h.ask at.0 at.1 h.target isnt none

for_is : (g : Asking) (asks : List Ask) (u : ℕ) → IsFor g asks u ⊎ (IsFor g asks u → ⊥)
for_is g [] u = inr (λ h. omega (arith, h.among.1))
for_is g (a ∷ asks) u = elim (target_is (g.target a) u) [
  | inl is ↦ inl (record { ask = a; among = contains_at (a ∷ asks) 0 a refl; target = is })
  | inr isnt ↦ elim (for_is g asks u) [
    | inl later ↦
        let at = at_contained asks later.ask later.among in
        inl (record { ask = later.ask; among = contains_at (a ∷ asks) (suc at.0) later.ask at.1; target = later.target })
    | inr none ↦ inr (for_neither g a asks u isnt none)
  ]
]

both_are : (P Q : Type 0) → P ⊎ (P → ⊥) → Q ⊎ (Q → ⊥) → (P × Q) ⊎ (P × Q → ⊥)
both_are P Q (inl p) (inl q) = inl (p, q)
both_are P Q (inl p) (inr no_q) = inr (λ h. no_q h.1)
both_are P Q (inr no_p) q = inr (λ h. no_p h.0)

-- an asker at a distance, by its number
abbrev Asks : Asking → ℕ → ℕ → ℕ → Type 0
Asks g k u w = LeadsTo g k w × IsFor g (g.follows w) u

asks_is : (link : LinkInput) (k u : ℕ) → ((w : ℕ) → LeadsTo (asking link) k w ⊎ (LeadsTo (asking link) k w → ⊥)) → (w : ℕ) → Asks (asking link) k u w ⊎ (Asks (asking link) k u w → ⊥)
asks_is link k u leads w =
    let g = asking link in
    both_are (LeadsTo g k w) (IsFor g (g.follows w) u) (leads w) (for_is g (g.follows w) u)

leads_is : (link : LinkInput) (k u : ℕ) → LeadsTo (asking link) k u ⊎ (LeadsTo (asking link) k u → ⊥)
leads_is link zero u = for_is (asking link) (roots link) u
leads_is link (suc k) u =
    let g = asking link in
    elim (search_below (Asks g k u) (asks_is link k u (leads_is link k)) g.count) [
      | inl found ↦ inl (found.0, found.1.holds.0, found.1.holds.1)
      | inr none ↦ inr (λ h.
          let from = follower link h.0 u (unit_at link.groups h.0) refl h.2 in
          none h.0 (slice_get_within (all_units link.groups) h.0 from.unit from.there) (h.1, h.2))
    ]

-- ---- a path that is shown

distance_by : (link : LinkInput) (k n : ℕ) (u : LinkUnit) → IsWellFormed link → unit_at link.groups n ≡ Some u → IsLeast (λ j. LeadsTo (asking link) j n) k → IsDistance link u (suc k)
distance_by link k n u wf there h =
    let led = led_to link k n u wf h.holds there in
    record {
      path = led.path;
      leads = led.leads;
      long = led.long;
      least = λ other path.
          let j = path_some link other u path in
          let leads : LeadsTo (asking link) j.0 n = subst (LeadsTo (asking link) j.0) (number_of link.groups n u there) (path_leads link other u j.0 wf path j.1) in
          omega (arith, j.1, h.least j.0 leads);
    }

record HasShown (link : LinkInput) (k : ℕ) (u : LinkUnit) : Type 0 where
  path : List LinkUnit
  shown : IsShown link path u
  long : length path ≡ suc k

asker_before : (link : LinkInput) (k n w : ℕ) (u v : LinkUnit) → IsWellFormed link → unit_at link.groups n ≡ Some u → unit_at link.groups w ≡ Some v → IsDistance link v (suc k) → AsksFor link v u
    → IsLeast (Asks (asking link) k n) w → IsLeastAsker link u (suc k) v
asker_before link k n w u v wf there at_w far asks h = record {
  far = far;
  asks = asks;
  least = λ other far_other asks_other.
      let own : IsUnit link.groups other = distance_unit link other (suc k) wf far_other in
      let number_u : unit_number link.groups u ≡ n = number_of link.groups n u there in
      let number_v : unit_number link.groups v ≡ w = number_of link.groups w v at_w in
      let for : IsFor (asking link) ((asking link).follows (unit_number link.groups other)) n
      = subst (IsFor (asking link) ((asking link).follows (unit_number link.groups other))) number_u (asks_number link other u own asks_other) in
      omega (arith, number_v, h.least (unit_number link.groups other) (distance_leads link other k wf far_other, for));
}

-- at the end of a path, and before it
last_step : (link : LinkInput) (path : List LinkUnit) (k j i : ℕ) (u v a next : LinkUnit) → IsPathTo link path v → length path ≡ suc k → IsLeastAsker link u (suc k) v
    → suc j ≡ length path + i → slice_get (u ∷ []) i ≡ Some next → slice_get (path ++ u ∷ []) j ≡ Some a → IsLeastAsker link next (suc j) a
last_step link path k j (suc i) u v a next leads long least e at_next at_a = absurd (cc)
last_step link path k j zero u v a next leads long least e at_next at_a =
    let is_next : u ≡ next = cc in
    let place : k ≡ j = omega (arith, e, long) in
    let own : slice_get (path ++ u ∷ []) j ≡ Some v = append_left path (u ∷ []) j v (subst (λ m. slice_get path m ≡ Some v) place (path_last link path v k leads long)) in
    let both : Some v ≡ Some a = sym own ∙ at_a in
    let is_a : v ≡ a = cc in
    subst (λ m. IsLeastAsker link next (suc m) a) place (subst (λ x. IsLeastAsker link x (suc k) a) is_next (subst (IsLeastAsker link u (suc k)) is_a least))

first_steps : (link : LinkInput) (path : List LinkUnit) (j : ℕ) (u v a next : LinkUnit) → IsShown link path v → slice_get path (suc j) ≡ Some next → slice_get (path ++ u ∷ []) j ≡ Some a → IsLeastAsker link next (suc j) a
first_steps link path j u v a next shown at_next at_a = elim (append_at path (u ∷ []) j a at_a) [
  | inl here ↦ shown.before j a next here at_next
  | inr past ↦ absurd (omega (arith, past.1, slice_get_within path (suc j) next at_next))
]

push_shown : (link : LinkInput) (k : ℕ) (u v : LinkUnit) → HasShown link k v → AsksFor link v u → IsLeastAsker link u (suc k) v → IsDistance link u (suc (suc k)) → HasShown link (suc k) u
push_shown link k u v h asks least far =
    let path : List LinkUnit = h.path ++ u ∷ [] in
    let long : length path ≡ suc (suc k) = length_push h.path u ∙ omega (arith, h.long) in
    record {
      path = path;
      long = long;
      shown = record {
        leads = path_push link h.path v u h.shown.leads asks;
        far = subst (IsDistance link u) (sym long) far;
        before = λ j a next at_a at_next. elim (append_at h.path (u ∷ []) (suc j) next at_next) [
          | inl here ↦ first_steps link h.path j u v a next h.shown here at_a
          | inr end ↦ last_step link h.path k j end.0 u v a next h.shown.leads h.long least end.1 end.2 at_a
        ];
      };
    }

shown_at : (link : LinkInput) (k n : ℕ) (u : LinkUnit) → IsWellFormed link → unit_at link.groups n ≡ Some u → IsLeast (λ j. LeadsTo (asking link) j n) k → HasShown link k u
shown_at link zero n u wf there h = record {
  path = u ∷ [];
  long = refl;
  shown = record {
    leads = (asked_unit link (roots link) n u (asks_are_inside.by_roots link wf) h.holds there, refl);
    far = distance_by link zero n u wf there h;
    before = λ j a next at_a at_next. absurd (cc);
  };
}
shown_at link (suc k) n u wf there h =
    let g = asking link in
    let found = least_of (Asks g k n) (asks_is link k n (leads_is link k)) h.holds.0 (h.holds.1, h.holds.2) in
    let w : ℕ = found.0 in
    let from = follower link w n (unit_at link.groups w) refl found.1.holds.1 in
    let v : LinkUnit = from.unit in
    let nearest : IsLeast (λ j. LeadsTo g j w) k = record {
      holds = found.1.holds.0;
      least = λ j leads. omega (arith, h.least (suc j) (w, leads, found.1.holds.1));
    } in
    let asks : AsksFor link v u = asked_unit link (follows link v) n u (asks_are_inside.by_unit link v wf) from.for there in
    push_shown link k u v (shown_at link k w v wf from.there nearest) asks
    (asker_before link k n w u v wf there from.there (distance_by link k w v wf from.there nearest) asks found.1) (distance_by link (suc k) n u wf there h)

pub reached_is_shown : ReachedIsShown
reached_is_shown link unit wf r =
    let g = asking link in
    let n : ℕ = unit_number link.groups unit in
    let there : IsUnit link.groups unit = reached_unit link unit wf r in
    let leads : LeadsTo g (length r.rest) n = path_leads link (r.first ∷ r.rest) unit (length r.rest) wf (r.root, r.path) refl in
    let found = least_of (λ k. LeadsTo g k n) (λ k. leads_is link k n) (length r.rest) leads in
    let has = shown_at link found.0 n unit wf there found.1 in
    (has.path, has.shown)
