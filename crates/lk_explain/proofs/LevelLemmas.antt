-- Levels of a search: the first, the next, and what is known at the end.
use Rattle.std.proofs.Common.{◌≡◌, ◌⊎◌, ℕ, zero, suc, ◌+◌, ◌-◌, ◌<◌, ◌≤◌, List, [], ◌∷◌, ◌++◌, Contains, drop, IsPermutation, length, replicate, take, Some, refl, sym, ap, ◌∙◌, subst, inl, inr, arith, get_or}
use Rattle.std.specs.List.{slice_get, slice_index}
use Rattle.std.specs.Option.{ForSome}
use Rattle.std.proofs.lemmas.List.{get_or-drop, get_or_append_left, length-append, length-drop, length-replicate}
use Rattle.std.specs.List.Sorted.{IsNonDecreasing}
use Rattle.std.proofs.lemmas.List.Elements.{All-contains}
use Rattle.std.proofs.lemmas.List.Sorted.{All-permutation, Contains-permutation, length_permutation}
use Rattle.lk_link.proofs.Elements.{at_contained, contains_at, flat_map_in}
use Rattle.lk_reach.specs.declared.units.Ask.{Ask}
use Rattle.lk_reach.specs.Marks.{Asking}
use Rattle.lk_explain.specs.declared.search.Search.{Search}
use Rattle.lk_explain.specs.Searching.{IsBelow, IsFor, IsFresh, IsLevel, LeadsTo, Takes, asks_of, back, far, unfound, with_asker}
use Rattle.lk_explain.proofs.TakeLemmas.{asked_by_level, asked_by_one, one_among, zero_or}

-- ---- asks with their askers

level_among : (g : Asking) (level : List ℕ) (w : ℕ) (a : Ask) → Contains level w → Contains (g.follows w) a → Contains (asks_of g level) (w, a)
level_among g level w a in_level h =
    let each : ℕ → List (ℕ × Ask) = λ v. with_asker v (g.follows v) in
    let outer = at_contained level w in_level in
    let inner = one_among w (g.follows w) a h in
    let at = flat_map_in each level outer.0 inner.0 w (w, a) outer.1 inner.1 in
    contains_at (asks_of g level) at.0 (w, a) at.1

-- ---- numbers

less_or : (a b : ℕ) → a ≤ b → (a < b) ⊎ (a ≡ b)
less_or zero zero h = inr refl
less_or zero (suc b) h = inl (omega arith)
less_or (suc a) zero h = absurd (omega arith)
less_or (suc a) (suc b) h = elim (less_or a b (omega arith)) [ inl lt ↦ inl (omega arith) | inr e ↦ inr (ap suc e) ]

pub zero_at : (n u : ℕ) → slice_index (replicate n 0) u ≡ 0
zero_at zero u = refl
zero_at (suc n) zero = refl
zero_at (suc n) (suc u) = zero_at n u

unfound_zeros : (n : ℕ) → unfound (replicate n 0) ≡ n
unfolding unfound
unfound_zeros zero = refl
unfound_zeros (suc n) = ap suc (unfound_zeros n)

pub unfound_some : (xs : List ℕ) (u : ℕ) → u < length xs → slice_index xs u ≡ 0 → 0 < unfound xs
unfolding unfound
unfound_some [] u lt h = absurd (omega arith)
unfound_some (zero ∷ xs) u lt h = omega arith
unfound_some (suc d ∷ xs) zero lt h = absurd (omega arith)
unfound_some (suc d ∷ xs) (suc u) lt h = unfound_some xs u (omega arith) h

-- ---- the first level

leads_first : (g : Asking) (d u k : ℕ) → d ≡ suc k → d ≤ 1 → (d ≡ 1 → IsFor g g.roots u) → LeadsTo g k u
leads_first g d u zero e le root = root e
leads_first g d u (suc k) e le root = absurd (omega (arith, e))

pub first_level : (g : Asking) (old new : Search) → IsFresh g old → (h : Takes g 1 (with_asker 0 g.roots) old new) → IsLevel g h.more 1 new.distances.items new.askers.items
first_level g old new fresh h =
    let none : (u : ℕ) → far old u ≡ 0 = λ u. ap (λ xs. slice_index xs u) fresh.distances ∙ zero_at g.count u in
    let near : (u : ℕ) → far new u ≤ 1 = λ u. elim (h.fresh u (none u)) [ inl nil ↦ omega (arith, nil) | inr is ↦ omega (arith, is.0) ] in
    let root : (u : ℕ) → far new u ≡ 1 → IsFor g g.roots u = λ u e. elim (h.fresh u (none u)) [
      | inl nil ↦ absurd (omega (arith, nil, e))
      | inr asked ↦ (asked_by_one g 0 g.roots u (back new u) asked.1).1
    ] in
    record {
      sizes = (h.distances ∙ ap length fresh.distances ∙ length-replicate g.count 0, h.askers ∙ ap length fresh.askers ∙ length-replicate g.count 0);
      near = near;
      leads = λ u k e. leads_first g (far new u) u k e (near u) (root u);
      by_roots = λ u r.
          let at = one_among 0 g.roots r.ask r.among in
          let settled = All-contains (λ (p : ℕ × Ask). ForSome (g.target p.1) (λ v. (0 < far new v) × (far new v ≡ 1 → back new v ≤ p.0))) (with_asker 0 g.roots) (0, r.ask) h.settled
          (contains_at (with_asker 0 g.roots) at.0 (0, r.ask) at.1) u r.target in
          omega (arith, settled.0, near u);
      backs = λ u k e. absurd (omega (arith, e, near u));
      done = λ w u found lt for. absurd (omega (arith, found, lt));
      front = λ u e. h.found u (none u) e;
      within = h.within;
      count = omega (arith, h.measure, ap unfound fresh.distances, unfound_zeros g.count);
    }

-- ---- the next level

leads_next : (g : Asking) (d w u k : ℕ) → suc k ≡ d + 1 → 0 < d → ((j : ℕ) → d ≡ suc j → LeadsTo g j w) → IsFor g (g.follows w) u → LeadsTo g k u
leads_next g d w u zero e some leads for = absurd (omega (arith, e))
leads_next g d w u (suc j) e some leads for = (w, leads j (omega (arith, e)), for)

pub next_level : (g : Asking) (level : List ℕ) (d : ℕ) (old new : Search) → 0 < d → 0 < length level → IsLevel g level d old.distances.items old.askers.items
    → (h : Takes g (d + 1) (asks_of g level) old new) → IsLevel g h.more (d + 1) new.distances.items new.askers.items
next_level g level d old new some any is h =
    let keep : (u : ℕ) → 0 < far old u → far new u ≡ far old u = λ u e. (h.kept u e).0 in
    let below : (u : ℕ) → far old u ≡ d + 1 → ⊥ = λ u e. omega (arith, e, is.near u) in
    let near : (u : ℕ) → far new u ≤ d + 1 = λ u. elim (zero_or (far old u)) [
      | inr pos ↦ omega (arith, keep u pos, is.near u)
      | inl none ↦ elim (h.fresh u none) [ inl nil ↦ omega (arith, nil) | inr at ↦ omega (arith, at.0) ]
    ] in
    let by : (u : ℕ) → far new u ≡ d + 1 → Contains level (back new u) × IsFor g (g.follows (back new u)) u = λ u e. elim (zero_or (far old u)) [
      | inr pos ↦ absurd (below u (sym (keep u pos) ∙ e))
      | inl none ↦ elim (h.fresh u none) [
        | inl nil ↦ absurd (omega (arith, nil, e))
        | inr asked ↦ asked_by_level g level u (back new u) asked.1
      ]
    ] in
    let at_level : (w : ℕ) → Contains level w → far old w ≡ d = λ w in_level. All-contains (λ v. far old v ≡ d) level w is.within in_level in
    let settled : (w u : ℕ) → Contains level w → IsFor g (g.follows w) u → (0 < far new u) × (far new u ≡ d + 1 → back new u ≤ w) = λ w u in_level for.
    All-contains (λ (p : ℕ × Ask). ForSome (g.target p.1) (λ v. (0 < far new v) × (far new v ≡ d + 1 → back new v ≤ p.0))) (asks_of g level) (w, for.ask) h.settled
    (level_among g level w for.ask in_level for.among) u for.target in
    record {
      sizes = (h.distances ∙ is.sizes.0, h.askers ∙ is.sizes.1);
      near = near;
      leads = λ u k e. elim (zero_or (far old u)) [
        | inr pos ↦ is.leads u k (sym (keep u pos) ∙ e)
        | inl none ↦ elim (h.fresh u none) [
          | inl nil ↦ absurd (omega (arith, nil, e))
          | inr at ↦
              let asked = by u at.0 in
              leads_next g d (back new u) u k (sym e ∙ at.0) some (λ j f. is.leads (back new u) j (at_level (back new u) asked.0 ∙ f)) asked.1
        ]
      ];
      by_roots = λ u r. let one = is.by_roots u r in keep u (omega (arith, one)) ∙ one;
      backs = λ u k e. elim (zero_or (far old u)) [
        | inr pos ↦
            let before : far old u ≡ suc (suc k) = sym (keep u pos) ∙ e in
            let first = is.backs u k before in
            let same : back new u ≡ back old u = (h.kept u pos).1 in
            subst (λ w. (far new w ≡ suc k) × IsFor g (g.follows w) u) (sym same) (keep (back old u) (omega (arith, first.0)) ∙ first.0, first.1)
        | inl none ↦ elim (h.fresh u none) [
          | inl nil ↦ absurd (omega (arith, nil, e))
          | inr at ↦
              let asked = by u at.0 in
              let then_far : far old (back new u) ≡ d = at_level (back new u) asked.0 in
              (omega (arith, keep (back new u) (omega (arith, then_far)), then_far, at.0, e), asked.1)
        ]
      ];
      done = λ w u found lt for. elim (zero_or (far old w)) [
        | inl none ↦ elim (h.fresh w none) [ inl nil ↦ absurd (omega (arith, nil, found)) | inr at ↦ absurd (omega (arith, at.0, lt)) ]
        | inr pos ↦
            let own : far new w ≡ far old w = keep w pos in
            elim (less_or (far old w) d (is.near w)) [
              | inl less ↦
                  let was = is.done w u pos less for in
                  let same : far new u ≡ far old u = keep u was.found in
                  let same_back : back new u ≡ back old u = (h.kept u was.found).1 in
                  record {
                    found = omega (arith, same, was.found);
                    near = omega (arith, same, own, was.near);
                    least = λ e. omega (arith, same_back, was.least (omega (arith, same, own, e)));
                  }
              | inr equal ↦
                  let now = settled w u (is.front w equal) for in
                  record {
                    found = now.0;
                    near = omega (arith, near u, own, equal);
                    least = λ e. now.1 (omega (arith, e, own, equal));
                  }
            ]
      ];
      front = λ u e. elim (zero_or (far old u)) [
        | inr pos ↦ absurd (below u (sym (keep u pos) ∙ e))
        | inl none ↦ h.found u none e
      ];
      within = h.within;
      count = omega (arith, h.measure, is.count);
    }

-- ---- at the end

-- what a chain of asks leads to is found, no further than the chain is long, or else the search didn't come as far
pub found_by : (g : Asking) (level : List ℕ) (d : ℕ) (ds bs : List ℕ) (j u : ℕ) → 0 < d → IsLevel g level d ds bs → LeadsTo g j u
    → ((0 < slice_index ds u) × (slice_index ds u ≤ suc j)) ⊎ (d ≤ j)
found_by g level d ds bs zero u some is leads = let one = is.by_roots u leads in inl (omega (arith, one), omega (arith, one))
found_by g level d ds bs (suc j) u some is leads =
    let w : ℕ = leads.0 in
    elim (found_by g level d ds bs j w some is leads.1) [
      | inr far_off ↦ inr (omega (arith, far_off))
      | inl found ↦ elim (less_or (slice_index ds w) d (is.near w)) [
        | inr equal ↦ inr (omega (arith, found.1, equal))
        | inl less ↦
            let done = is.done w u found.0 less leads.2 in
            inl (done.found, omega (arith, done.near, found.1))
      ]
    ]

-- a unit that is found is as far as the shortest chain is long
pub no_nearer : (g : Asking) (level : List ℕ) (d : ℕ) (ds bs : List ℕ) (u k j : ℕ) → 0 < d → IsLevel g level d ds bs → slice_index ds u ≡ suc k → LeadsTo g j u → k ≤ j
no_nearer g level d ds bs u k j some is at leads = elim (found_by g level d ds bs j u some is leads) [
  | inl found ↦ omega (arith, found.1, at)
  | inr far_off ↦ omega (arith, far_off, is.near u, at)
]

nothing_left : (level : List ℕ) (u : ℕ) → level ≡ [] → Contains level u → ⊥
nothing_left level u e h = omega (arith, h.1, ap length e)

-- where nothing is left to find, all that is led to is found
pub all_found : (g : Asking) (level : List ℕ) (d : ℕ) (ds bs : List ℕ) (j u : ℕ) → level ≡ [] → IsLevel g level d ds bs → LeadsTo g j u → 0 < slice_index ds u
all_found g level d ds bs zero u ends is leads = omega (arith, is.by_roots u leads)
all_found g level d ds bs (suc j) u ends is leads =
    let w : ℕ = leads.0 in
    let found = all_found g level d ds bs j w ends is leads.1 in
    elim (less_or (slice_index ds w) d (is.near w)) [
      | inl less ↦ (is.done w u found less leads.2).found
      | inr equal ↦ absurd (nothing_left level w ends (is.front w equal))
    ]

-- of what asks for a unit from one nearer, its asker is the least
pub least_back : (g : Asking) (level : List ℕ) (d : ℕ) (ds bs : List ℕ) (u w k : ℕ) → 0 < d → IsLevel g level d ds bs → slice_index ds u ≡ suc (suc k) → LeadsTo g k w
    → ((j : ℕ) → LeadsTo g j w → k ≤ j) → IsFor g (g.follows w) u → slice_index bs u ≤ w
least_back g level d ds bs u w k some is at leads least for = elim (found_by g level d ds bs k w some is leads) [
  | inr far_off ↦ absurd (omega (arith, far_off, is.near u, at))
  | inl found ↦
      let done = is.done w u found.0 (omega (arith, found.1, is.near u, at)) for in
      done.least (omega (arith, done.near, found.1, at))
]

-- ---- turns of the search

-- a level in another order
pub level_sorted : (g : Asking) (xs ys : List ℕ) (d : ℕ) (ds bs : List ℕ) → IsPermutation xs ys → IsLevel g xs d ds bs → IsLevel g ys d ds bs
level_sorted g xs ys d ds bs h is = record {
  sizes = is.sizes;
  near = is.near;
  leads = is.leads;
  by_roots = is.by_roots;
  backs = is.backs;
  done = is.done;
  front = λ u e. Contains-permutation xs ys u h (is.front u e);
  within = All-permutation (λ u. slice_index ds u ≡ d) xs ys h is.within;
  count = omega (arith, is.count, length_permutation xs ys h);
}

taken_at : (xs : List ℕ) (k i w : ℕ) → slice_get (take k xs) i ≡ Some w → (i < k) × (slice_index xs i ≡ w)
taken_at xs zero i w h = absurd (cc)
taken_at [] (suc k) i w h = absurd (cc)
taken_at (x ∷ xs) (suc k) zero w h = let same : x ≡ w = cc in (omega arith, same)
taken_at (x ∷ xs) (suc k) (suc i) w h = let at = taken_at xs k i w h in (omega (arith, at.0), at.1)

-- what comes before a unit in a level that rises isn't greater, so no asker so far is
pub below_level : (g : Asking) (distance : ℕ) (level : List ℕ) (k : ℕ) (old new : Search) → 0 < distance → k < length level → IsNonDecreasing level → ((u : ℕ) → far old u ≡ distance → ⊥)
    → Takes g distance (asks_of g (take k level)) old new → IsBelow new distance (slice_index level k)
below_level g distance level k old new some lt rises fresh h u e = elim (zero_or (far old u)) [
  | inr pos ↦ absurd (fresh u (sym (h.kept u pos).0 ∙ e))
  | inl none ↦ elim (h.fresh u none) [
    | inl nil ↦ absurd (omega (arith, nil, e, some))
    | inr at ↦
        let asked = asked_by_level g (take k level) u (back new u) at.1 in
        let place = at_contained (take k level) (back new u) asked.0 in
        let before = taken_at level k place.0 (back new u) place.1 in
        omega (arith, before.1, rises place.0 k 0 (omega (arith, before.0)) lt)
  ]
]

pub level_moved : (g : Asking) (d : ℕ) (xs ys ds es bs cs : List ℕ) → ys ≡ xs → es ≡ ds → cs ≡ bs → IsLevel g xs d ds bs → IsLevel g ys d es cs
level_moved g d xs ys ds es bs cs e f h is =
    subst (λ level. IsLevel g level d es cs) (sym e) (subst (λ distances. IsLevel g xs d distances cs) (sym f) (subst (λ askers. IsLevel g xs d ds askers) (sym h) is))

pub read_index : (xs : List ℕ) (i x : ℕ) → i < length xs → x ≡ get_or xs i x → slice_index xs i ≡ x
read_index [] i x lt h = absurd (omega arith)
read_index (y ∷ xs) zero x lt h = sym h
read_index (y ∷ xs) (suc i) x lt h = read_index xs i x (omega arith) h

pub none_long : (xs : List ℕ) → length xs ≡ 0 → xs ≡ []
none_long [] h = refl
none_long (x ∷ xs) h = absurd (omega arith)

-- the number that is read at a place of what is found, in a level that begins before it
pub level_number : (start place : ℕ) (old more now : List ℕ) (x : ℕ) → start ≤ place → place < length old → now ≡ old ++ more → x ≡ get_or now place x
    → (slice_index (drop start old) (place - start) ≡ x) × (place - start < length (drop start old))
level_number start place old more now x le lt same read =
    let long : place < length now = omega (arith, lt, ap length same, length-append old more) in
    let first : slice_index now place ≡ slice_index old place = ap (λ xs. slice_index xs place) same ∙ get_or_append_left old more 0 place lt in
    let own : slice_index (drop start old) (place - start) ≡ slice_index old place = get_or-drop start old (place - start) 0 ∙ ap (slice_index old) (omega (arith, le)) in
    (own ∙ sym first ∙ read_index now place x long read, omega (arith, length-drop start old, le, lt))
