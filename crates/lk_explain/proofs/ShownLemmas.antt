-- The path that is shown: from a search that is at its end, and that there is no other.
use Rattle.std.proofs.Common.{◌≡◌, ◌⊎◌, ℕ, zero, suc, ◌+◌, ◌-◌, ◌<◌, ◌≤◌, List, [], ◌∷◌, ◌++◌, length, map, take, Option, Some, refl, sym, ap, ◌∙◌, subst, inl, inr, arith, length-set}
use Rattle.std.specs.List.{All, slice_get, slice_index, slice_set}
use Rattle.std.proofs.lemmas.List.{get_or-set_other, get_or-set_same, length-map, map_push, take_more}
use Rattle.std.proofs.lemmas.List.Elements.{All-from_get_or}
use Rattle.std.proofs.lemmas.Option.{get_or_from_slice_get, slice_get_within}
use Rattle.lk_link.proofs.Elements.{at_index, map_at, map_in}
use Rattle.lk_link.specs.declared.link.LinkInput.{LinkInput}
use Rattle.lk_link.specs.WellFormed.{IsWellFormed}
use Rattle.lk_reach.specs.declared.units.Unit.{Unit as LinkUnit}
use Rattle.lk_reach.specs.Marks.{Asking, IsUnit, all_units, asking, unit_at, unit_number}
use Rattle.lk_reach.specs.Reach.{IsPath, IsReached}
use Rattle.lk_reach.specs.Units.{AsksFor, IsRoot, follows, roots}
use Rattle.lk_reach.proofs.ReachLemmas.{reached_unit}
use Rattle.lk_reach.proofs.UnitLemmas.{asks_are_inside, number_of}
use Rattle.lk_explain.specs.declared.search.Search.{Search}
use Rattle.lk_explain.specs.Explaining.{IsShortest}
use Rattle.lk_explain.specs.KeepPath.{IsDistance, IsLeastAsker, IsPathTo, IsShown}
use Rattle.lk_explain.specs.Searching.{IsFor, IsLevel, IsOver, IsTrail, LeadsTo, back, far}
use Rattle.lk_explain.proofs.LevelLemmas.{all_found, least_back, no_nearer}
use Rattle.lk_explain.proofs.NumberLemmas.{asked_unit, asks_number, follower, led_to, path_last, path_leads, path_some, reached_by, same_at}
use Rattle.lk_explain.proofs.PathLemmas.{accepted_path, path_accepted}

-- ---- paths by places

chain_by_places : (link : LinkInput) (first : LinkUnit) (rest : List LinkUnit) (unit : LinkUnit) (n : ℕ) → length rest ≡ n
    → ((k : ℕ) (a b : LinkUnit) → slice_get (first ∷ rest) k ≡ Some a → slice_get (first ∷ rest) (suc k) ≡ Some b → AsksFor link a b)
    → slice_get (first ∷ rest) n ≡ Some unit → IsPath link first rest unit
chain_by_places link first [] unit zero e steps last = cc
chain_by_places link first [] unit (suc n) e steps last = absurd (omega (arith, e))
chain_by_places link first (next ∷ rest) unit zero e steps last = absurd (omega (arith, e))
chain_by_places link first (next ∷ rest) unit (suc n) e steps last =
    (steps 0 first next refl refl, chain_by_places link next rest unit n (omega (arith, e)) (λ k a b. steps (suc k) a b) last)

path_by_places : (link : LinkInput) (path : List LinkUnit) (unit : LinkUnit) (n : ℕ) → length path ≡ suc n → ((u : LinkUnit) → slice_get path 0 ≡ Some u → IsRoot link u)
    → ((k : ℕ) (a b : LinkUnit) → slice_get path k ≡ Some a → slice_get path (suc k) ≡ Some b → AsksFor link a b) → slice_get path n ≡ Some unit → IsPathTo link path unit
path_by_places link [] unit n e root steps last = absurd (omega (arith, e))
path_by_places link (first ∷ rest) unit n e root steps last = (root first refl, chain_by_places link first rest unit n (omega (arith, e)) steps last)

-- ---- distances

-- what a search knows of a unit that it found, by the unit
pub distance_of : (link : LinkInput) (level : List ℕ) (d : ℕ) (ds bs : List ℕ) (n k : ℕ) (u : LinkUnit) → IsWellFormed link → 0 < d → IsLevel (asking link) level d ds bs
    → unit_at link.groups n ≡ Some u → slice_index ds n ≡ suc k → IsDistance link u (suc k)
distance_of link level d ds bs n k u wf some is there at =
    let led = led_to link k n u wf (is.leads n k at) there in
    record {
      path = led.path;
      leads = led.leads;
      long = led.long;
      least = λ other path.
          let j = path_some link other u path in
          let leads : LeadsTo (asking link) j.0 n = subst (LeadsTo (asking link) j.0) (number_of link.groups n u there) (path_leads link other u j.0 wf path j.1) in
          omega (arith, j.1, no_nearer (asking link) level d ds bs n k j.0 some is at leads);
    }

-- a unit at a distance is led to by its number, and by no shorter chain
pub distance_leads : (link : LinkInput) (u : LinkUnit) (k : ℕ) → IsWellFormed link → IsDistance link u (suc k) → LeadsTo (asking link) k (unit_number link.groups u)
distance_leads link u k wf h = path_leads link h.path u k wf h.leads h.long

pub distance_unit : (link : LinkInput) (u : LinkUnit) (k : ℕ) → IsWellFormed link → IsDistance link u k → IsUnit link.groups u
distance_unit link u k wf h = reached_unit link u wf (reached_by link h.path u h.leads)

pub distance_least : (link : LinkInput) (u : LinkUnit) (k j : ℕ) → IsWellFormed link → IsDistance link u (suc k) → LeadsTo (asking link) j (unit_number link.groups u) → k ≤ j
distance_least link u k j wf h leads =
    let led = led_to link j (unit_number link.groups u) u wf leads (distance_unit link u (suc k) wf h) in
    omega (arith, h.least led.path led.leads, led.long)

-- ---- the trail

-- a unit of the path, with its number
record IsPlaced (link : LinkInput) (numbers : List ℕ) (k : ℕ) (u : LinkUnit) : Type 0 where
  within : k < length numbers
  there : unit_at link.groups (slice_index numbers k) ≡ Some u

placed : (link : LinkInput) (numbers : List ℕ) (units : List LinkUnit) (k : ℕ) (u : LinkUnit) → map Some units ≡ map (unit_at link.groups) numbers → slice_get units k ≡ Some u → IsPlaced link numbers k u
placed link numbers units k u same h =
    let some : LinkUnit → Option LinkUnit = Some in
    let at = map_at (unit_at link.groups) numbers k (Some u) (ap (λ xs. slice_get xs k) (sym same) ∙ map_in some units k u h) in
    record {
      within = slice_get_within numbers k at.0 at.1;
      there = ap (unit_at link.groups) (get_or_from_slice_get numbers k at.0 0 at.1) ∙ at.2;
    }

units_long : (link : LinkInput) (numbers : List ℕ) (units : List LinkUnit) → map Some units ≡ map (unit_at link.groups) numbers → length units ≡ length numbers
units_long link numbers units same =
    let some : LinkUnit → Option LinkUnit = Some in
    sym (length-map units some) ∙ ap length same ∙ length-map numbers (unit_at link.groups)

least_asker : (link : LinkInput) (s : Search) (unit : ℕ) (numbers : List ℕ) (k : ℕ) (a b : LinkUnit) → IsWellFormed link → IsOver (asking link) unit s → IsTrail s unit numbers 0
    → IsPlaced link numbers k a → IsPlaced link numbers (suc k) b → IsLeastAsker link b (suc k) a
least_asker link s unit numbers k a b wf over t pa pb =
    let g = asking link in
    let ds : List ℕ = s.distances.items in
    let bs : List ℕ = s.askers.items in
    let na : ℕ = slice_index numbers k in
    let nb : ℕ = slice_index numbers (suc k) in
    let at_b : far s nb ≡ suc (suc k) = t.far_off (suc k) (omega arith) pb.within in
    let step : na ≡ back s nb = t.steps k (omega arith) pb.within in
    let by = over.is.backs nb k at_b in
    let for : IsFor g (g.follows na) nb = subst (λ w. IsFor g (g.follows w) nb) (sym step) by.1 in
    let from = follower link na nb (unit_at link.groups na) refl for in
    let asks_by : AsksFor link from.unit b = asked_unit link (follows link from.unit) nb b (asks_are_inside.by_unit link from.unit wf) from.for pb.there in
    record {
      far = distance_of link over.level over.distance ds bs na k a wf over.some over.is pa.there (t.far_off k (omega arith) pa.within);
      asks = subst (λ u. AsksFor link u b) (same_at link na from.unit a from.there pa.there) asks_by;
      least = λ other far_other asks_other.
          let own : IsUnit link.groups other = distance_unit link other (suc k) wf far_other in
          let number_b : unit_number link.groups b ≡ nb = number_of link.groups nb b pb.there in
          let number_a : unit_number link.groups a ≡ na = number_of link.groups na a pa.there in
          let for_other : IsFor g (g.follows (unit_number link.groups other)) nb
          = subst (IsFor g (g.follows (unit_number link.groups other))) number_b (asks_number link other b own asks_other) in
          omega (
            arith,
            number_a,
            step,
            least_back g over.level over.distance ds bs nb (unit_number link.groups other) k over.some over.is at_b (distance_leads link other k wf far_other) (λ j. distance_least link other k j wf far_other) for_other,
          );
    }

pub shown_trail : (link : LinkInput) (s : Search) (n : ℕ) (numbers : List ℕ) (units : List LinkUnit) (unit : LinkUnit) → IsWellFormed link → IsOver (asking link) n s → IsTrail s n numbers 0
    → map Some units ≡ map (unit_at link.groups) numbers → unit_at link.groups n ≡ Some unit → IsShown link units unit
shown_trail link s n numbers units unit wf over t same there =
    let long : length units ≡ length numbers = units_long link numbers units same in
    let last : ℕ = length numbers - 1 in
    let count : length numbers ≡ suc last = omega (arith, t.within) in
    let before : (k : ℕ) (a b : LinkUnit) → slice_get units k ≡ Some a → slice_get units (suc k) ≡ Some b → IsLeastAsker link b (suc k) a
    = λ k a b at_a at_b. least_asker link s n numbers k a b wf over t (placed link numbers units k a same at_a) (placed link numbers units (suc k) b same at_b) in
    let end = at_index units last (omega (arith, long, count)) in
    let end_placed = placed link numbers units last end.0 same end.1 in
    let number : slice_index numbers last ≡ n = t.last last (sym count) in
    let is_unit : end.0 ≡ unit = same_at link n end.0 unit (subst (λ m. unit_at link.groups m ≡ Some end.0) number end_placed.there) there in
    let root : (u : LinkUnit) → slice_get units 0 ≡ Some u → IsRoot link u = λ u at.
    let p = placed link numbers units 0 u same at in
    asked_unit link (roots link) (slice_index numbers 0) u (asks_are_inside.by_roots link wf) (over.is.leads (slice_index numbers 0) 0 (t.far_off 0 (omega arith) p.within)) p.there in
    let distance : IsDistance link unit (suc last) = distance_of link over.level over.distance s.distances.items s.askers.items n last unit wf over.some over.is there (sym t.long ∙ count) in
    record {
      leads = path_by_places link units unit last (long ∙ count) root (λ k a b at_a at_b. (before k a b at_a at_b).asks) (end.1 ∙ ap Some is_unit);
      far = subst (IsDistance link unit) (sym (long ∙ count)) distance;
      before = before;
    }

-- the shown path is accepted, and none that is accepted and ends there is shorter
pub shown_shortest : (link : LinkInput) (path : List LinkUnit) (unit : LinkUnit) → IsWellFormed link → IsShown link path unit → IsShortest link path unit
shown_shortest link path unit wf h = record {
  shown = h;
  accepted = path_accepted link path unit wf h.leads;
  least = λ other k accepted long last.
      let keeps = accepted_path link other accepted in
      let end : Some keeps.0 ≡ Some unit = sym (path_last link other keeps.0 k keeps.1 long) ∙ last in
      let same : keeps.0 ≡ unit = cc in
      h.far.least other (subst (IsPathTo link other) same keeps.1);
}

-- what a search that is at its end didn't find isn't reached
pub unfound_unreached : (link : LinkInput) (s : Search) (u : LinkUnit) → IsWellFormed link → IsOver (asking link) (unit_number link.groups u) s → far s (unit_number link.groups u) ≡ 0 → IsReached link u → ⊥
unfound_unreached link s u wf over none r =
    let path : List LinkUnit = r.first ∷ r.rest in
    let leads = path_leads link path u (length r.rest) wf (r.root, r.path) refl in
    elim over.ends [
      | inr found ↦ omega (arith, none, found)
      | inl ends ↦ omega (arith, none, all_found (asking link) over.level over.distance s.distances.items s.askers.items (length r.rest) (unit_number link.groups u) ends over.is leads)
    ]

-- ---- steps of the trail

least_or : (a b : ℕ) → a ≤ b → (a ≡ b) ⊎ (a < b)
least_or zero zero h = inl refl
least_or zero (suc b) h = inr (omega arith)
least_or (suc a) zero h = absurd (omega arith)
least_or (suc a) (suc b) h = elim (least_or a b (omega arith)) [ inl e ↦ inl (ap suc e) | inr lt ↦ inr (omega arith) ]

pub far_within : (xs : List ℕ) (u : ℕ) → 0 < slice_index xs u → u < length xs
far_within [] u h = absurd (omega arith)
far_within (x ∷ xs) zero h = omega arith
far_within (x ∷ xs) (suc u) h = let lt = far_within xs u h in omega arith

pub trail_first : (s : Search) (unit place : ℕ) (old new : List ℕ) → length old ≡ far s unit → suc place ≡ length old → new ≡ slice_set old place unit → IsTrail s unit new place
trail_first s unit place old new long count e =
    let same : length new ≡ length old = ap length e ∙ length-set old place unit in
    let own : slice_index new place ≡ unit = ap (λ xs. slice_index xs place) e ∙ get_or-set_same old place unit 0 (omega (arith, count)) in
    record {
      long = same ∙ long;
      within = omega (arith, same, count);
      last = λ k last.
          let at : k ≡ place = omega (arith, last, same, count) in
          ap (slice_index new) at ∙ own;
      far_off = λ k ge lt.
          let at : k ≡ place = omega (arith, lt, ge, same, count) in
          ap (λ j. far s (slice_index new j)) at ∙ ap (far s) own ∙ omega (arith, long, count, at);
      steps = λ k ge lt. absurd (omega (arith, lt, ge, same, count));
    }

-- the number at a place of the trail is within the list of askers
pub trail_within : (g : Asking) (s : Search) (unit : ℕ) (numbers : List ℕ) (place : ℕ) → IsOver g unit s → IsTrail s unit numbers place → slice_index numbers place < length s.askers.items
trail_within g s unit numbers place over t =
    let at = t.far_off place (omega arith) t.within in
    omega (arith, far_within s.distances.items (slice_index numbers place) (omega (arith, at)), over.is.sizes.0, over.is.sizes.1)

pub trail_next : (g : Asking) (s : Search) (unit place before : ℕ) (old new : List ℕ) → IsOver g unit s → IsTrail s unit old place → place ≡ suc before
    → new ≡ slice_set old before (back s (slice_index old place)) → IsTrail s unit new before
trail_next g s unit place before old new over t e write =
    let same : length new ≡ length old = ap length write ∙ length-set old before (back s (slice_index old place)) in
    let own : slice_index new before ≡ back s (slice_index old place)
    = ap (λ xs. slice_index xs before) write ∙ get_or-set_same old before (back s (slice_index old place)) 0 (omega (arith, t.within, e)) in
    let others : (k : ℕ) → place ≤ k → slice_index new k ≡ slice_index old k
    = λ k ge. ap (λ xs. slice_index xs k) write ∙ get_or-set_other old before k (back s (slice_index old place)) 0 (λ is. omega (arith, is, ge, e)) in
    let at : far s (slice_index old place) ≡ suc (suc before) = t.far_off place (omega arith) t.within ∙ ap suc e in
    record {
      long = same ∙ t.long;
      within = omega (arith, same, t.within, e);
      last = λ k last. others k (omega (arith, last, same, t.within)) ∙ t.last k (last ∙ same);
      far_off = λ k ge lt. elim (least_or before k ge) [
        | inl is ↦ ap (λ j. far s (slice_index new j)) (sym is) ∙ ap (far s) own ∙ (over.is.backs (slice_index old place) before at).0 ∙ ap suc is
        | inr past ↦ ap (far s) (others k (omega (arith, past, e))) ∙ t.far_off k (omega (arith, past, e)) (omega (arith, lt, same))
      ];
      steps = λ k ge lt. elim (least_or before k ge) [
        | inl is ↦
            let next : suc k ≡ place = omega (arith, is, e) in
            ap (slice_index new) (sym is) ∙ own ∙ ap (λ j. back s (slice_index old j)) (sym next) ∙ ap (back s) (sym (others (suc k) (omega (arith, next))))
        | inr past ↦
            others k (omega (arith, past, e)) ∙ t.steps k (omega (arith, past, e)) (omega (arith, lt, same)) ∙ ap (back s) (sym (others (suc k) (omega (arith, past, e))))
      ];
    }

-- the numbers of the trail are numbers of units
pub trail_units : (link : LinkInput) (s : Search) (unit : ℕ) (numbers : List ℕ) → IsOver (asking link) unit s → IsTrail s unit numbers 0 → All (λ n. n < length (all_units link.groups)) numbers
trail_units link s unit numbers over t =
    All-from_get_or (λ n. n < length (all_units link.groups)) numbers 0
    (λ k lt.
    let at = t.far_off k (omega arith) lt in
    omega (arith, far_within s.distances.items (slice_index numbers k) (omega (arith, at)), over.is.sizes.0))

-- one more unit by its number
pub units_next : (link : LinkInput) (numbers : List ℕ) (i : ℕ) (units : List LinkUnit) (u : LinkUnit) → i < length numbers → map Some units ≡ map (unit_at link.groups) (take i numbers)
    → unit_at link.groups (slice_index numbers i) ≡ Some u → map Some (units ++ u ∷ []) ≡ map (unit_at link.groups) (take (i + 1) numbers)
units_next link numbers i units u lt h there =
    let some : LinkUnit → Option LinkUnit = Some in
    let at : ℕ → Option LinkUnit = unit_at link.groups in
    map_push some units u
    ∙ ap (λ xs. xs ++ Some u ∷ []) h
    ∙ ap (λ o. map at (take i numbers) ++ o ∷ []) (sym there)
    ∙ sym (map_push at (take i numbers) (slice_index numbers i))
    ∙ ap (map at) (sym (take_more numbers i 0 lt))
