-- Words of private contracts: a search by levels over units by their numbers, with the distance and the least asker of each.
use Rattle.std.specs.Prelude.{◌≡◌, ◌⊎◌, ℕ, zero, suc, ◌+◌, ◌<◌, ◌≤◌, ◌==◌, if◌then◌else◌, List, [], ◌∷◌, ◌++◌, Some, All, Contains, length, map, replicate, slice_index, slice_set}
use Rattle.std.specs.List.{flat_map}
use Rattle.std.specs.Option.{ForSome}
use Rattle.lk_reach.specs.declared.units.Ask.{Ask}
use Rattle.lk_reach.specs.Marks.{Asking}
use Rattle.lk_explain.specs.declared.search.Search.{Search}

-- ---- asks by numbers

-- one of these asks is for the unit
pub record IsFor (g : Asking) (asks : List Ask) (unit : ℕ) : Type 0 where
  pub ask : Ask
  pub among : Contains asks ask
  pub target : g.target ask ≡ Some unit

-- so many units behind one that a root asks for, each asks for the next, up to the unit
abbrev pub LeadsTo : Asking → ℕ → ℕ → Type 0
LeadsTo g zero unit = IsFor g g.roots unit
LeadsTo g (suc k) unit = (asker : ℕ) × LeadsTo g k asker × IsFor g (g.follows asker) unit

-- asks, each with the unit that makes it
abbrev pub with_asker : ℕ → List Ask → List (ℕ × Ask)
with_asker asker asks = map (λ a. (asker, a)) asks

abbrev pub asks_of : Asking → List ℕ → List (ℕ × Ask)
asks_of g units = flat_map (λ u. with_asker u (g.follows u)) units

-- one of such asks is for the unit, made by this asker
pub record IsAskedBy (g : Asking) (asks : List (ℕ × Ask)) (unit asker : ℕ) : Type 0 where
  pub ask : Ask
  pub among : Contains asks (asker, ask)
  pub target : g.target ask ≡ Some unit

-- ---- what is found

-- the distance of a unit, and 0 where it isn't found
abbrev pub far : Search → ℕ → ℕ
far s unit = slice_index s.distances.items unit

-- the unit by which it is found
abbrev pub back : Search → ℕ → ℕ
back s unit = slice_index s.askers.items unit

-- how many units aren't found
unfoldable pub unfound : List ℕ → ℕ
unfound [] = 0
unfound (zero ∷ distances) = suc (unfound distances)
unfound (suc d ∷ distances) = unfound distances

pub record IsSized (g : Asking) (s : Search) : Type 0 where
  pub distances : length s.distances.items ≡ g.count
  pub askers : length s.askers.items ≡ g.count

pub record IsFresh (g : Asking) (s : Search) : Type 0 where
  pub distances : s.distances.items ≡ replicate g.count 0
  pub askers : s.askers.items ≡ replicate g.count 0
  pub found : s.found.items ≡ []

-- no unit at this distance has a greater asker
abbrev pub IsBelow : Search → ℕ → ℕ → Type 0
IsBelow s distance asker = (u : ℕ) → far s u ≡ distance → back s u ≤ asker

-- ---- steps

-- what meeting a unit does: one that wasn't found is found
pub record Meets (unit asker distance : ℕ) (old new : Search) : Type 0 where
  pub distances : new.distances.items ≡ (if far old unit == 0 then slice_set old.distances.items unit distance else old.distances.items)
  pub askers : new.askers.items ≡ (if far old unit == 0 then slice_set old.askers.items unit asker else old.askers.items)
  pub found : new.found.items ≡ (if far old unit == 0 then old.found.items ++ unit ∷ [] else old.found.items)

-- what asks do at a distance: their targets are found, those that weren't found at this distance, with the least of their askers
pub record Takes (g : Asking) (distance : ℕ) (asks : List (ℕ × Ask)) (old new : Search) : Type 0 where
  pub distances : length new.distances.items ≡ length old.distances.items
  pub askers : length new.askers.items ≡ length old.askers.items
  pub kept : (u : ℕ) → 0 < far old u → (far new u ≡ far old u) × (back new u ≡ back old u)
  pub fresh : (u : ℕ) → far old u ≡ 0 → (far new u ≡ 0) ⊎ ((far new u ≡ distance) × IsAskedBy g asks u (back new u))
  pub settled : All (λ p. ForSome (g.target p.1) (λ u. (0 < far new u) × (far new u ≡ distance → back new u ≤ p.0))) asks
  pub more : List ℕ
  pub behind : new.found.items ≡ old.found.items ++ more
  pub found : (u : ℕ) → far old u ≡ 0 → far new u ≡ distance → Contains more u
  pub within : All (λ u. far new u ≡ distance) more
  pub measure : unfound new.distances.items + length more ≡ unfound old.distances.items

-- ---- levels

-- what a unit asks for is found, at most one further, and then by it or a lesser one
pub record IsDone (distances askers : List ℕ) (asker unit : ℕ) : Type 0 where
  pub found : 0 < slice_index distances unit
  pub near : slice_index distances unit ≤ slice_index distances asker + 1
  pub least : slice_index distances unit ≡ slice_index distances asker + 1 → slice_index askers unit ≤ asker

-- all units up to a distance are found, and those at the distance are a level whose asks are still to come
pub record IsLevel (g : Asking) (level : List ℕ) (distance : ℕ) (distances askers : List ℕ) : Type 0 where
  pub sizes : (length distances ≡ g.count) × (length askers ≡ g.count)
  pub near : (u : ℕ) → slice_index distances u ≤ distance
  pub leads : (u k : ℕ) → slice_index distances u ≡ suc k → LeadsTo g k u
  pub by_roots : (u : ℕ) → IsFor g g.roots u → slice_index distances u ≡ 1
  pub backs : (u k : ℕ) → slice_index distances u ≡ suc (suc k) → (slice_index distances (slice_index askers u) ≡ suc k) × IsFor g (g.follows (slice_index askers u)) u
  pub done : (w u : ℕ) → 0 < slice_index distances w → slice_index distances w < distance → IsFor g (g.follows w) u → IsDone distances askers w u
  pub front : (u : ℕ) → slice_index distances u ≡ distance → Contains level u
  pub within : All (λ u. slice_index distances u ≡ distance) level
  pub count : distance + (unfound distances + length level) ≤ g.count + 1

-- a search that is at its end for a unit: it was found, or nothing is left to find
pub record IsOver (g : Asking) (unit : ℕ) (s : Search) : Type 0 where
  pub level : List ℕ
  pub distance : ℕ
  pub some : 0 < distance
  pub is : IsLevel g level distance s.distances.items s.askers.items
  pub ends : (level ≡ []) ⊎ (0 < far s unit)

-- ---- the way back

-- from a place on, numbers are the units of a path by their distances, each found by the one before it, and the last is the unit
pub record IsTrail (s : Search) (unit : ℕ) (numbers : List ℕ) (place : ℕ) : Type 0 where
  pub long : length numbers ≡ far s unit
  pub within : place < length numbers
  pub last : (k : ℕ) → suc k ≡ length numbers → slice_index numbers k ≡ unit
  pub far_off : (k : ℕ) → place ≤ k → k < length numbers → far s (slice_index numbers k) ≡ suc k
  pub steps : (k : ℕ) → place ≤ k → suc k < length numbers → slice_index numbers k ≡ back s (slice_index numbers (suc k))
