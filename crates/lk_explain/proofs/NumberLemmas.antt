-- From units to their numbers and back: asks, chains of asks and paths.
use Rattle.std.proofs.Common.{◌≡◌, ℕ, zero, suc, ◌+◌, List, [], ◌∷◌, ◌++◌, length, Option, Some, None, refl, sym, ap, ◌∙◌, subst, arith, option_map}
use Rattle.std.specs.List.{All, slice_get}
use Rattle.std.specs.Option.{option_map_or}
use Rattle.std.proofs.lemmas.List.{length_push}
use Rattle.std.proofs.lemmas.List.Elements.{All-contains}
use Rattle.lk_link.specs.declared.link.LinkInput.{LinkInput}
use Rattle.lk_link.specs.WellFormed.{IsWellFormed}
use Rattle.lk_reach.specs.declared.units.Ask.{Ask}
use Rattle.lk_reach.specs.declared.units.Unit.{Unit as LinkUnit}
use Rattle.lk_reach.specs.Marks.{IsInside, IsUnit, asking, unit_at, unit_number}
use Rattle.lk_reach.specs.Reach.{IsPath, IsReached}
use Rattle.lk_reach.specs.Units.{AskFor, AsksFor, follows, roots, target_of}
use Rattle.lk_reach.proofs.ReachLemmas.{follows_at, target_unit}
use Rattle.lk_reach.proofs.UnitLemmas.{asks_are_inside}
use Rattle.lk_explain.specs.KeepPath.{IsPathTo}
use Rattle.lk_explain.specs.Searching.{IsFor, LeadsTo}

-- a unit at a number for which an ask is
pub record IsAskedAt (link : LinkInput) (asks : List Ask) (n : ℕ) : Type 0 where
  pub unit : LinkUnit
  pub there : unit_at link.groups n ≡ Some unit
  pub asked : AskFor asks unit

pub unit_asked : (link : LinkInput) (asks : List Ask) (n : ℕ) → All (IsInside link.groups) asks → IsFor (asking link) asks n → IsAskedAt link asks n
unit_asked link asks n inside h =
    let u = target_unit link.groups (target_of h.ask) n h.target in
    let own : IsInside link.groups h.ask = All-contains (IsInside link.groups) asks h.ask inside h.among in
    record {
      unit = u.0;
      there = subst (λ m. unit_at link.groups m ≡ Some u.0) u.2 (own.target u.0 u.1);
      asked = record { ask = h.ask; among = h.among; target = u.1 };
    }

pub same_at : (link : LinkInput) (n : ℕ) (u v : LinkUnit) → unit_at link.groups n ≡ Some u → unit_at link.groups n ≡ Some v → u ≡ v
same_at link n u v h k = let both : Some u ≡ Some v = sym h ∙ k in cc

-- an ask for the unit at a number
pub asked_unit : (link : LinkInput) (asks : List Ask) (n : ℕ) (u : LinkUnit) → All (IsInside link.groups) asks → IsFor (asking link) asks n → unit_at link.groups n ≡ Some u → AskFor asks u
asked_unit link asks n u inside h there =
    let at = unit_asked link asks n inside h in
    subst (AskFor asks) (same_at link n at.unit u at.there there) at.asked

-- an ask for a unit is for its number
pub asked_number : (link : LinkInput) (asks : List Ask) (u : LinkUnit) → AskFor asks u → IsFor (asking link) asks (unit_number link.groups u)
asked_number link asks u h = record { ask = h.ask; among = h.among; target = ap (option_map (unit_number link.groups)) h.target }

pub reached_by : (link : LinkInput) (path : List LinkUnit) (u : LinkUnit) → IsPathTo link path u → IsReached link u
reached_by link [] u h = absurd h
reached_by link (first ∷ rest) u h = record { first = first; rest = rest; root = h.0; path = h.1 }

-- ---- chains to paths

chain_push : (link : LinkInput) (first : LinkUnit) (rest : List LinkUnit) (last next : LinkUnit) → IsPath link first rest last → AsksFor link last next → IsPath link first (rest ++ next ∷ []) next
chain_push link first [] last next path asks = (subst (λ u. AsksFor link u next) (sym path) asks, refl)
chain_push link first (u ∷ rest) last next path asks = (path.0, chain_push link u rest last next path.1 asks)

pub path_push : (link : LinkInput) (path : List LinkUnit) (last next : LinkUnit) → IsPathTo link path last → AsksFor link last next → IsPathTo link (path ++ next ∷ []) next
path_push link [] last next h asks = absurd h
path_push link (first ∷ rest) last next h asks = (h.0, chain_push link first rest last next h.1 asks)

-- a path of so many units to the unit at a number
pub record IsLedTo (link : LinkInput) (k : ℕ) (u : LinkUnit) : Type 0 where
  pub path : List LinkUnit
  pub leads : IsPathTo link path u
  pub long : length path ≡ suc k

pub record HasFollower (link : LinkInput) (w n : ℕ) : Type 0 where
  pub unit : LinkUnit
  pub there : unit_at link.groups w ≡ Some unit
  pub for : IsFor (asking link) (follows link unit) n

-- what asks for another is a unit
pub follower : (link : LinkInput) (w n : ℕ) (o : Option LinkUnit) → unit_at link.groups w ≡ o → IsFor (asking link) (option_map_or (follows link) o []) n → HasFollower link w n
follower link w n None e h = absurd (omega (arith, h.among.1))
follower link w n (Some u) e h = record { unit = u; there = e; for = h }

pub led_to : (link : LinkInput) (k n : ℕ) (u : LinkUnit) → IsWellFormed link → LeadsTo (asking link) k n → unit_at link.groups n ≡ Some u → IsLedTo link k u
led_to link zero n u wf h there = record {
  path = u ∷ [];
  leads = (asked_unit link (roots link) n u (asks_are_inside.by_roots link wf) h there, refl);
  long = refl;
}
led_to link (suc k) n u wf h there =
    let w : ℕ = h.0 in
    let before = follower link w n (unit_at link.groups w) refl h.2 in
    let led = led_to link k w before.unit wf h.1 before.there in
    let asks : AsksFor link before.unit u = asked_unit link (follows link before.unit) n u (asks_are_inside.by_unit link before.unit wf) before.for there in
    record {
      path = led.path ++ u ∷ [];
      leads = path_push link led.path before.unit u led.leads asks;
      long = length_push led.path u ∙ omega (arith, led.long);
    }

-- ---- paths to chains

-- what asks for another by a unit's number
pub asks_number : (link : LinkInput) (w u : LinkUnit) → IsUnit link.groups w → AsksFor link w u → IsFor (asking link) ((asking link).follows (unit_number link.groups w)) (unit_number link.groups u)
asks_number link w u unit asks =
    subst (λ xs. IsFor (asking link) xs (unit_number link.groups u)) (sym (follows_at link (unit_number link.groups w) w unit)) (asked_number link (follows link w) u asks)

inside_unit : (link : LinkInput) (asks : List Ask) (u : LinkUnit) → All (IsInside link.groups) asks → AskFor asks u → IsUnit link.groups u
inside_unit link asks u h a =
    let own : IsInside link.groups a.ask = All-contains (IsInside link.groups) asks a.ask h a.among in
    own.target u a.target

chain_leads : (link : LinkInput) (first : LinkUnit) (rest : List LinkUnit) (last : LinkUnit) (k n : ℕ) → IsWellFormed link → IsUnit link.groups first → LeadsTo (asking link) k (unit_number link.groups first)
    → IsPath link first rest last → n ≡ k + length rest → LeadsTo (asking link) n (unit_number link.groups last)
chain_leads link first [] last k n wf unit leads path e =
    let same : k ≡ n = omega (arith, e) in
    subst (λ m. LeadsTo (asking link) m (unit_number link.groups last)) same (subst (λ u. LeadsTo (asking link) k (unit_number link.groups u)) path leads)
chain_leads link first (next ∷ rest) last k n wf unit leads path e =
    let more : LeadsTo (asking link) (suc k) (unit_number link.groups next) = (unit_number link.groups first, leads, asks_number link first next unit path.0) in
    chain_leads link next rest last (suc k) n wf (inside_unit link (follows link first) next (asks_are_inside.by_unit link first wf) path.0) more path.1 (omega (arith, e))

pub path_leads : (link : LinkInput) (path : List LinkUnit) (u : LinkUnit) (k : ℕ) → IsWellFormed link → IsPathTo link path u → length path ≡ suc k → LeadsTo (asking link) k (unit_number link.groups u)
path_leads link [] u k wf h e = absurd h
path_leads link (first ∷ rest) u k wf h e =
    chain_leads link first rest u zero k wf (inside_unit link (roots link) first (asks_are_inside.by_roots link wf) h.0) (asked_number link (roots link) first h.0) h.1 (omega (arith, e))

-- a path has a unit
pub path_some : (link : LinkInput) (path : List LinkUnit) (u : LinkUnit) → IsPathTo link path u → (k : ℕ) × (length path ≡ suc k)
path_some link [] u h = absurd h
path_some link (first ∷ rest) u h = (length rest, refl)

-- its last one is the unit
chain_last : (link : LinkInput) (first : LinkUnit) (rest : List LinkUnit) (last : LinkUnit) → IsPath link first rest last → slice_get (first ∷ rest) (length rest) ≡ Some last
chain_last link first [] last path = ap Some path
chain_last link first (next ∷ rest) last path = chain_last link next rest last path.1

pub path_last : (link : LinkInput) (path : List LinkUnit) (u : LinkUnit) (k : ℕ) → IsPathTo link path u → length path ≡ suc k → slice_get path k ≡ Some u
path_last link [] u k h e = absurd h
path_last link (first ∷ rest) u k h e =
    let same : length rest ≡ k = omega (arith, e) in
    subst (λ n. slice_get (first ∷ rest) n ≡ Some u) same (chain_last link first rest u h.1)
