-- What asks do to a search: one, several, and one after the other.
use Rattle.std.proofs.Common.{◌≡◌, ◌⊎◌, ℕ, zero, suc, ◌+◌, ◌<◌, ◌≤◌, Bool, true, false, if◌then◌else◌, ◌==◌, List, take, [], ◌∷◌, ◌++◌, Contains, length, Some, None, refl, sym, ap, ◌∙◌, subst, inl, inr, arith, get_or, length-set}
use Rattle.std.specs.List.{All, flat_map, slice_get, slice_index, slice_set}
use Rattle.std.specs.Prelude.{Result, Ok, Err, OnOk}
use Rattle.std.specs.Option.{ForSome}
use Rattle.std.proofs.lemmas.Bool.{eqb-false, eqb-true}
use Rattle.std.proofs.lemmas.List.{append-nil, append_assoc, flat_map_more, length-append, map_push, take_more}
use Rattle.std.proofs.lemmas.List.Elements.{All-append, All-contains, All-head, All-nil, All-push, All-tail, Contains-append_left, Contains-append_right}
use Rattle.std.proofs.lemmas.Option.{slice_get-get_or}
use Rattle.lk_link.proofs.Elements.{at_contained, contains_at, flat_map_at, map_at, map_in}
use Rattle.lk_reach.specs.declared.units.Ask.{Ask}
use Rattle.lk_reach.specs.Marks.{Asking}
use Rattle.lk_explain.specs.declared.search.Search.{Search}
use Rattle.lk_explain.specs.Searching.{IsAskedBy, IsBelow, IsFor, IsSized, Meets, Takes, asks_of, back, far, unfound, with_asker}

-- a target is found, and at the distance by no greater asker
abbrev Settled : Asking → ℕ → Search → ℕ × Ask → Type 0
Settled g distance s p = ForSome (g.target p.1) (λ u. (0 < far s u) × (far s u ≡ distance → back s u ≤ p.0))

-- ---- asks with their askers

pub asked_at : (g : Asking) (asker : ℕ) (asks : List Ask) (u w k : ℕ) (a : Ask) → g.target a ≡ Some u → slice_get (with_asker asker asks) k ≡ Some (w, a) → (asker ≡ w) × IsFor g asks u
asked_at g asker asks u w k a target h =
    let pair : Ask → ℕ × Ask = λ b. (asker, b) in
    let at = map_at pair asks k (w, a) h in
    let own : asker ≡ w = ap (λ (p : ℕ × Ask). p.0) at.2 in
    let same : at.0 ≡ a = ap (λ (p : ℕ × Ask). p.1) at.2 in
    (own, record { ask = a; among = contains_at asks k a (at.1 ∙ ap Some same); target = target })

pub asked_by_one : (g : Asking) (asker : ℕ) (asks : List Ask) (u w : ℕ) → IsAskedBy g (with_asker asker asks) u w → (asker ≡ w) × IsFor g asks u
asked_by_one g asker asks u w h =
    let at = at_contained (with_asker asker asks) (w, h.ask) h.among in
    asked_at g asker asks u w at.0 h.ask h.target at.1

pub asked_by_level : (g : Asking) (level : List ℕ) (u w : ℕ) → IsAskedBy g (asks_of g level) u w → Contains level w × IsFor g (g.follows w) u
asked_by_level g level u w h =
    let each : ℕ → List (ℕ × Ask) = λ v. with_asker v (g.follows v) in
    let at = at_contained (asks_of g level) (w, h.ask) h.among in
    let from = flat_map_at each level at.0 (w, h.ask) at.1 in
    let v : ℕ = from.from in
    let one = asked_at g v (g.follows v) u w from.inner h.ask h.target from.gives in
    (contains_at level from.outer w (from.there ∙ ap Some one.0), subst (λ x. IsFor g (g.follows x) u) one.0 one.1)

pub one_among : (asker : ℕ) (asks : List Ask) (a : Ask) → Contains asks a → (k : ℕ) × (slice_get (with_asker asker asks) k ≡ Some (asker, a))
one_among asker asks a h =
    let pair : Ask → ℕ × Ask = λ b. (asker, b) in
    let at = at_contained asks a h in
    (at.0, map_in pair asks at.0 a at.1)

pub contains_one : (asker : ℕ) (asks : List Ask) (a : Ask) → Contains asks a → Contains (with_asker asker asks) (asker, a)
contains_one asker asks a h = let at = one_among asker asks a h in contains_at (with_asker asker asks) at.0 (asker, a) at.1

-- ---- none, and more

pub zero_or : (n : ℕ) → (n ≡ 0) ⊎ (0 < n)
zero_or zero = inl refl
zero_or (suc n) = inr (omega arith)

pub takes_none : (g : Asking) (distance : ℕ) (s : Search) → 0 < distance → Takes g distance [] s s
takes_none g distance s some = record {
  distances = refl;
  askers = refl;
  kept = λ u h. (refl, refl);
  fresh = λ u h. inl h;
  settled = All-nil (Settled g distance s);
  more = [];
  behind = sym (append-nil s.found.items);
  found = λ u h e. absurd (omega (arith, h, e, some));
  within = All-nil (λ u. far s u ≡ distance);
  measure = omega arith;
}

asked_left : (g : Asking) (asks more : List (ℕ × Ask)) (u w : ℕ) → IsAskedBy g asks u w → IsAskedBy g (asks ++ more) u w
asked_left g asks more u w h = record { ask = h.ask; among = Contains-append_left asks more (w, h.ask) h.among; target = h.target }

asked_right : (g : Asking) (asks more : List (ℕ × Ask)) (u w : ℕ) → IsAskedBy g more u w → IsAskedBy g (asks ++ more) u w
asked_right g asks more u w h = record { ask = h.ask; among = Contains-append_right asks more (w, h.ask) h.among; target = h.target }

pub takes_more : (g : Asking) (distance : ℕ) (asks more : List (ℕ × Ask)) (a b c : Search) → 0 < distance → Takes g distance asks a b → Takes g distance more b c → Takes g distance (asks ++ more) a c
takes_more g distance asks more a b c some h k = record {
  distances = k.distances ∙ h.distances;
  askers = k.askers ∙ h.askers;
  kept = λ u e.
      let first = h.kept u e in
      let last = k.kept u (omega (arith, first.0, e)) in
      (last.0 ∙ first.0, last.1 ∙ first.1);
  fresh = λ u e. elim (h.fresh u e) [
    | inl none ↦ elim (k.fresh u none) [ inl nil ↦ inl nil | inr at ↦ inr (at.0, asked_right g asks more u (back c u) at.1) ]
    | inr at ↦
        let last = k.kept u (omega (arith, at.0, some)) in
        inr (last.0 ∙ at.0, subst (IsAskedBy g (asks ++ more) u) (sym last.1) (asked_left g asks more u (back b u) at.1))
  ];
  settled =
      All-append (Settled g distance c) asks more
      (λ i d lt u e.
      let first = h.settled i d lt u e in
      let now = k.kept u first.0 in (
        omega (arith, now.0, first.0),
        λ is. omega (arith, now.1, first.1 (sym now.0 ∙ is)),
      ))
      k.settled;
  more = h.more ++ k.more;
  behind = k.behind ∙ ap (λ xs. xs ++ k.more) h.behind ∙ append_assoc a.found.items h.more k.more;
  found = λ u e is. elim (h.fresh u e) [
    | inl none ↦ Contains-append_right h.more k.more u (k.found u none is)
    | inr at ↦ Contains-append_left h.more k.more u (h.found u e at.0)
  ];
  within =
      All-append (λ u. far c u ≡ distance) h.more k.more
      (λ i d lt. let at : far b (get_or h.more i d) ≡ distance = h.within i d lt in (k.kept (get_or h.more i d) (omega (arith, at, some))).0 ∙ at)
      k.within;
  measure = omega (arith, k.measure, h.measure, length-append h.more k.more);
}

-- ---- meeting a unit

pub unfound_fewer : (xs : List ℕ) (u d : ℕ) → u < length xs → 0 < d → slice_index xs u ≡ 0 → suc (unfound (slice_set xs u d)) ≡ unfound xs
unfolding unfound
unfound_fewer [] u d lt some h = absurd (omega arith)
unfound_fewer (zero ∷ xs) zero zero lt some h = absurd (omega arith)
unfound_fewer (zero ∷ xs) zero (suc d) lt some h = refl
unfound_fewer (suc e ∷ xs) zero d lt some h = absurd (omega arith)
unfound_fewer (zero ∷ xs) (suc u) d lt some h = ap suc (unfound_fewer xs u d (omega arith) some h)
unfound_fewer (suc e ∷ xs) (suc u) d lt some h = unfound_fewer xs u d (omega arith) some h

-- what stands in a list after a write: what was written, or what stood there
read_set : (xs : List ℕ) (i v j : ℕ) → i < length xs → ((j ≡ i) × (slice_index (slice_set xs i v) j ≡ v)) ⊎ ((j ≡ i → ⊥) × (slice_index (slice_set xs i v) j ≡ slice_index xs j))
read_set [] i v j lt = absurd (omega arith)
read_set (x ∷ xs) zero v zero lt = inl (refl, refl)
read_set (x ∷ xs) zero v (suc j) lt = inr (λ e. omega (arith, e), refl)
read_set (x ∷ xs) (suc i) v zero lt = inr (λ e. omega (arith, e), refl)
read_set (x ∷ xs) (suc i) v (suc j) lt = elim (read_set xs i v j (omega arith)) [
  | inl is ↦ inl (ap suc is.0, is.1)
  | inr isnt ↦ inr (λ e. isnt.0 (omega (arith, e)), isnt.1)
]

-- a new unit stands at the distance with an asker, and all others as before
record Puts (unit asker distance : ℕ) (old new : Search) : Type 0 where
  before : far old unit ≡ 0
  there : (far new unit ≡ distance) × (back new unit ≡ asker)
  others : (u : ℕ) → (u ≡ unit) ⊎ ((u ≡ unit → ⊥) × (far new u ≡ far old u) × (back new u ≡ back old u))
  distances : length new.distances.items ≡ length old.distances.items
  askers : length new.askers.items ≡ length old.askers.items
  behind : new.found.items ≡ old.found.items ++ unit ∷ []
  measure : suc (unfound new.distances.items) ≡ unfound old.distances.items

one_asks : (g : Asking) (a : Ask) (asker unit : ℕ) → g.target a ≡ Some unit → IsAskedBy g ((asker, a) ∷ []) unit asker
one_asks g a asker unit target = record { ask = a; among = (0, omega arith, refl); target = target }

takes_put : (g : Asking) (distance asker unit : ℕ) (a : Ask) (old new : Search) → 0 < distance → g.target a ≡ Some unit → Puts unit asker distance old new → Takes g distance ((asker, a) ∷ []) old new
takes_put g distance asker unit a old new some target h =
    let there : far new unit ≡ distance = h.there.0 in
    let by : back new unit ≡ asker = h.there.1 in
    record {
      distances = h.distances;
      askers = h.askers;
      kept = λ u e. elim (h.others u) [
        | inr other ↦ (other.1, other.2)
        | inl is ↦
            let own : far old u ≡ far old unit = ap (far old) is in
            absurd (omega (arith, e, own, h.before))
      ];
      fresh = λ u e. elim (h.others u) [
        | inr other ↦ inl (other.1 ∙ e)
        | inl is ↦
            let now : asker ≡ back new u = sym (ap (back new) is ∙ by) in
            inr (ap (far new) is ∙ there, subst (IsAskedBy g ((asker, a) ∷ []) u) now (one_asks g a asker u (target ∙ ap Some (sym is))))
      ];
      settled =
          All-push (Settled g distance new) [] (asker, a) (All-nil (Settled g distance new))
          (λ u e.
          let same : Some unit ≡ Some u = sym target ∙ e in
          let is : u ≡ unit = cc in
          let now : far new u ≡ distance = ap (far new) is ∙ there in
          let now_by : back new u ≡ asker = ap (back new) is ∙ by in
          (omega (arith, now, some), λ at. omega (arith, now_by)));
      more = unit ∷ [];
      behind = h.behind;
      found = λ u e at. elim (h.others u) [
        | inr other ↦ absurd (omega (arith, e, at, other.1, some))
        | inl is ↦ subst (Contains (unit ∷ [])) (sym is) (0, omega arith, refl)
      ];
      within = All-push (λ u. far new u ≡ distance) [] unit (All-nil (λ u. far new u ≡ distance)) there;
      measure = omega (arith, h.measure);
    }

-- nothing changes, where the unit is found and has no greater asker
takes_kept : (g : Asking) (distance asker unit : ℕ) (a : Ask) (old new : Search) → 0 < distance → g.target a ≡ Some unit → 0 < far old unit → IsBelow old distance asker
    → new.distances.items ≡ old.distances.items → new.askers.items ≡ old.askers.items → new.found.items ≡ old.found.items → Takes g distance ((asker, a) ∷ []) old new
takes_kept g distance asker unit a old new some target is_found below ds bs ns =
    let fars : (u : ℕ) → far new u ≡ far old u = λ u. ap (λ xs. slice_index xs u) ds in
    let backs : (u : ℕ) → back new u ≡ back old u = λ u. ap (λ xs. slice_index xs u) bs in
    record {
      distances = ap length ds;
      askers = ap length bs;
      kept = λ u e. (fars u, backs u);
      fresh = λ u e. inl (fars u ∙ e);
      settled =
          All-push (Settled g distance new) [] (asker, a) (All-nil (Settled g distance new))
          (λ u e.
          let same : Some unit ≡ Some u = sym target ∙ e in
          let is : unit ≡ u = cc in
          let found : 0 < far old u = subst (λ v. 0 < far old v) is is_found in
          (omega (arith, fars u, found), λ at. omega (arith, backs u, below u (sym (fars u) ∙ at))));
      more = [];
      behind = ns ∙ sym (append-nil old.found.items);
      found = λ u e at. absurd (omega (arith, e, at, fars u, some));
      within = All-nil (λ u. far new u ≡ distance);
      measure = omega (arith, ap unfound ds);
    }

-- what is written, and what others have
others_by : (unit asker distance : ℕ) (old new : Search) → unit < length old.distances.items → unit < length old.askers.items
    → new.distances.items ≡ slice_set old.distances.items unit distance → new.askers.items ≡ slice_set old.askers.items unit asker
    → (u : ℕ) → (u ≡ unit) ⊎ ((u ≡ unit → ⊥) × (far new u ≡ far old u) × (back new u ≡ back old u))
others_by unit asker distance old new lt_d lt_b ds bs u = elim (read_set old.distances.items unit distance u lt_d) [
  | inl is ↦ inl is.0
  | inr isnt ↦ elim (read_set old.askers.items unit asker u lt_b) [
    | inl is ↦ inl is.0
    | inr also ↦ inr (isnt.0, ap (λ xs. slice_index xs u) ds ∙ isnt.1, ap (λ xs. slice_index xs u) bs ∙ also.1)
  ]
]

read_own : (xs : List ℕ) (i v : ℕ) → i < length xs → slice_index (slice_set xs i v) i ≡ v
read_own xs i v lt = elim (read_set xs i v i lt) [ inl is ↦ is.1 | inr isnt ↦ absurd (isnt.0 refl) ]

puts_new : (unit asker distance : ℕ) (old new : Search) → 0 < distance → unit < length old.distances.items → unit < length old.askers.items → far old unit ≡ 0
    → new.distances.items ≡ slice_set old.distances.items unit distance → new.askers.items ≡ slice_set old.askers.items unit asker → new.found.items ≡ old.found.items ++ unit ∷ []
    → Puts unit asker distance old new
puts_new unit asker distance old new some lt_d lt_b none ds bs ns = record {
  before = none;
  there = (
    ap (λ xs. slice_index xs unit) ds ∙ read_own old.distances.items unit distance lt_d,
    ap (λ xs. slice_index xs unit) bs ∙ read_own old.askers.items unit asker lt_b,
  );
  others = others_by unit asker distance old new lt_d lt_b ds bs;
  distances = ap length ds ∙ length-set old.distances.items unit distance;
  askers = ap length bs ∙ length-set old.askers.items unit asker;
  behind = ns;
  measure = omega (arith, ap unfound ds, unfound_fewer old.distances.items unit distance lt_d some none);
}

found_by : (n : ℕ) → (n == 0) ≡ false → 0 < n
found_by n h = omega (arith, eqb-false n 0 h)

meets_by : (g : Asking) (distance asker unit : ℕ) (a : Ask) (old new : Search) (b : Bool) → 0 < distance → g.target a ≡ Some unit → unit < length old.distances.items → unit < length old.askers.items
    → IsBelow old distance asker → (far old unit == 0) ≡ b
    → new.distances.items ≡ (if b then slice_set old.distances.items unit distance else old.distances.items)
    → new.askers.items ≡ (if b then slice_set old.askers.items unit asker else old.askers.items)
    → new.found.items ≡ (if b then old.found.items ++ unit ∷ [] else old.found.items)
    → Takes g distance ((asker, a) ∷ []) old new
meets_by g distance asker unit a old new true some target lt_d lt_b below is ds bs ns =
    takes_put g distance asker unit a old new some target (puts_new unit asker distance old new some lt_d lt_b (eqb-true (far old unit) 0 is) ds bs ns)
meets_by g distance asker unit a old new false some target lt_d lt_b below is ds bs ns =
    takes_kept g distance asker unit a old new some target (found_by (far old unit) is) below ds bs ns

-- meeting the target of an ask is taking it
pub takes_met : (g : Asking) (distance asker unit : ℕ) (a : Ask) (old new : Search) → 0 < distance → g.target a ≡ Some unit → IsSized g old → unit < g.count → IsBelow old distance asker → Meets unit asker distance old new
    → Takes g distance ((asker, a) ∷ []) old new
takes_met g distance asker unit a old new some target size lt below h =
    meets_by g distance asker unit a old new (far old unit == 0) some target (omega (arith, size.distances)) (omega (arith, size.askers)) below refl h.distances h.askers h.found

-- ---- what is settled already

-- an ask that reaches nothing, or what is found, changes nothing
takes_still : (g : Asking) (distance asker : ℕ) (a : Ask) (s : Search) → 0 < distance → IsBelow s distance asker → ForSome (g.target a) (λ u. 0 < far s u) → Takes g distance ((asker, a) ∷ []) s s
takes_still g distance asker a s some below found = record {
  distances = refl;
  askers = refl;
  kept = λ u h. (refl, refl);
  fresh = λ u h. inl h;
  settled = All-push (Settled g distance s) [] (asker, a) (All-nil (Settled g distance s)) (λ u e. (found u e, λ at. below u at));
  more = [];
  behind = sym (append-nil s.found.items);
  found = λ u h e. absurd (omega (arith, h, e, some));
  within = All-nil (λ u. far s u ≡ distance);
  measure = omega arith;
}

pub takes_past : (g : Asking) (distance asker : ℕ) (a : Ask) (s : Search) → 0 < distance → IsBelow s distance asker → g.target a ≡ None → Takes g distance ((asker, a) ∷ []) s s
takes_past g distance asker a s some below target =
    takes_still g distance asker a s some below (λ u e. let both : None ≡ Some u = sym target ∙ e in absurd (cc))

-- asks whose targets are found may be skipped, where no asker so far is greater
pub takes_settled : (g : Asking) (distance asker : ℕ) (asks : List Ask) (s : Search) → 0 < distance → IsBelow s distance asker → All (λ a. ForSome (g.target a) (λ u. 0 < far s u)) asks
    → Takes g distance (with_asker asker asks) s s
takes_settled g distance asker [] s some below h = takes_none g distance s some
takes_settled g distance asker (a ∷ asks) s some below h =
    let P : Ask → Type 0 = λ b. ForSome (g.target b) (λ u. 0 < far s u) in
    takes_more g distance ((asker, a) ∷ []) (with_asker asker asks) s s s some (takes_still g distance asker a s some below (All-head P a asks h))
    (takes_settled g distance asker asks s some below (All-tail P a asks h))

-- what was taken is found
pub takes_found : (g : Asking) (distance asker : ℕ) (asks : List Ask) (old new : Search) → Takes g distance (with_asker asker asks) old new → (a : Ask) → Contains asks a → ForSome (g.target a) (λ u. 0 < far new u)
takes_found g distance asker asks old new h a among u e =
    (All-contains (Settled g distance new) (with_asker asker asks) (asker, a) h.settled (contains_one asker asks a among) u e).0

-- more asks of the same unit that reach nothing
pub takes_like : (g : Asking) (distance asker : ℕ) (asks more : List Ask) (old new : Search) → ((a : Ask) → Contains asks a → Contains more a) → ((a : Ask) → Contains more a → Contains asks a ⊎ (g.target a ≡ None))
    → Takes g distance (with_asker asker asks) old new → Takes g distance (with_asker asker more) old new
takes_like g distance asker asks more old new within only h = record {
  distances = h.distances;
  askers = h.askers;
  kept = h.kept;
  fresh = λ u e. elim (h.fresh u e) [
    | inl none ↦ inl none
    | inr at ↦
        let one = asked_by_one g asker asks u (back new u) at.1 in
        let by : IsAskedBy g (with_asker asker more) u asker = record { ask = one.1.ask; among = contains_one asker more one.1.ask (within one.1.ask one.1.among); target = one.1.target } in
        inr (at.0, subst (IsAskedBy g (with_asker asker more) u) one.0 by)
  ];
  settled = λ i d lt.
      let x : ℕ × Ask = get_or (with_asker asker more) i d in
      let pair : Ask → ℕ × Ask = λ b. (asker, b) in
      let at = map_at pair more i x (slice_get-get_or (with_asker asker more) i d lt) in
      subst (Settled g distance new) at.2 (elim (only at.0 (contains_at more i at.0 at.1)) [
        | inl is ↦ All-contains (Settled g distance new) (with_asker asker asks) (asker, at.0) h.settled (contains_one asker asks at.0 is)
        | inr none ↦ λ u e. let both : None ≡ Some u = sym none ∙ e in absurd (cc)
      ]);
  more = h.more;
  behind = h.behind;
  found = h.found;
  within = h.within;
  measure = h.measure;
}

-- ---- sizes, and askers

pub sized_after : (g : Asking) (distance : ℕ) (asks : List (ℕ × Ask)) (old new : Search) → IsSized g old → Takes g distance asks old new → IsSized g new
sized_after g distance asks old new size h = record { distances = h.distances ∙ size.distances; askers = h.askers ∙ size.askers }

pub below_after : (g : Asking) (distance asker : ℕ) (asks : List Ask) (old new : Search) → 0 < distance → IsBelow old distance asker → Takes g distance (with_asker asker asks) old new → IsBelow new distance asker
below_after g distance asker asks old new some below h u e = elim (zero_or (far old u)) [
  | inr pos ↦
      let kept = h.kept u pos in
      omega (arith, kept.1, below u (sym kept.0 ∙ e))
  | inl none ↦ elim (h.fresh u none) [
    | inl nil ↦ absurd (omega (arith, nil, e, some))
    | inr at ↦ omega (arith, (asked_by_one g asker asks u (back new u) at.1).0)
  ]
]

-- ---- one more of a list

pub on_ok : {T E : Type 0} (r : Result T E) (P Q : Type 0) → OnOk r P → (P → Q) → OnOk r Q
on_ok (Ok x) P Q h f = f h
on_ok (Err e) P Q h f = h

pub takes_next : (g : Asking) (distance asker : ℕ) (asks : List Ask) (a : Ask) (first old new : Search) → 0 < distance → Takes g distance (with_asker asker asks) first old
    → Takes g distance (with_asker asker (a ∷ [])) old new → Takes g distance (with_asker asker (asks ++ a ∷ [])) first new
takes_next g distance asker asks a first old new some h k =
    let pair : Ask → ℕ × Ask = λ b. (asker, b) in
    subst (λ xs. Takes g distance xs first new) (sym (map_push pair asks a)) (takes_more g distance (with_asker asker asks) (with_asker asker (a ∷ [])) first old new some h k)

-- one more unit of a level
pub takes_unit : (g : Asking) (distance : ℕ) (level : List ℕ) (i : ℕ) (first old new : Search) → 0 < distance → i < length level → Takes g distance (asks_of g (take i level)) first old
    → Takes g distance (with_asker (slice_index level i) (g.follows (slice_index level i))) old new → Takes g distance (asks_of g (take (i + 1) level)) first new
takes_unit g distance level i first old new some lt h k =
    let number : ℕ = slice_index level i in
    let each : ℕ → List (ℕ × Ask) = λ u. with_asker u (g.follows u) in
    let more : asks_of g (take (i + 1) level) ≡ asks_of g (take i level) ++ with_asker number (g.follows number)
    = ap (flat_map each) (take_more level i 0 lt) ∙ sym (flat_map_more each [] (take i level) number) in
    subst (λ xs. Takes g distance xs first new) (sym more) (takes_more g distance (asks_of g (take i level)) (with_asker number (g.follows number)) first old new some h k)
