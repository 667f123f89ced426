use Rattle.std.proofs.Common.{rules, ◌≡◌, ◌+◌, ◌-◌, ◌<◌, Some, None, ℕ, List, [], drop, take, get_or, length, sym, ap, ◌∙◌, subst, arith}
use Rattle.std.specs.List.{slice_index}
use Rattle.std.specs.Option.{option_map_or}
use Rattle.std.proofs.lemmas.List.{length-append, length-drop, take_all}
use Rattle.lk_reach.specs.declared.units.Ask.{Ask}
use Rattle.lk_reach.specs.Marks.{asking, unit_at}
use Rattle.lk_reach.specs.Units.{follows}
use Rattle.lk_reach.proofs.ReachLemmas.{follows_at}
use Rattle.lk_reach.proofs.UnitLemmas.{number_of}
use Rattle.lk_explain.specs.Searching.{IsBelow, Takes, asks_of, far, with_asker}
use Rattle.lk_explain.specs.Sharing.{AreShared}
use Rattle.lk_explain.proofs.LevelLemmas.{below_level, level_number}
use Rattle.lk_explain.proofs.TakeLemmas.{takes_none, takes_unit}
use Rattle.lk_explain.proofs.search.Search.take_level.Goals as goal
use Rattle.lk_explain.proofs.search.Search.take_level.Goals.{in-Some+in_ok-take_unit, in_default}

pub take_unit-requires-clause-number : goal.take_unit-requires-clause-number
take_unit-requires-clause-number c =
    sym (number_of c.args.level.link.now.groups c.index-number.result.now c.in-Some.unit (sym c.unit_at.ensures ∙ c.in-Some.is))

pub take_unit-requires-clause-found : goal.take_unit-requires-clause-found
take_unit-requires-clause-found c =
    let old = c.args.self.now in
    let now = c.loop-place.self in
    let x : ℕ = c.index-number.result.now in
    let takes = c.loop-place.invariant.0 in
    let lt : c.loop-place.place < length old.found.items = omega (arith, c.loop-place-test.true, c.len-end.ensures) in
    let long : c.loop-place.place < length now.found.items = omega (arith, lt, ap length takes.behind, length-append old.found.items takes.more) in
    let read : x ≡ get_or now.found.items c.loop-place.place x = search rules in
    let at = level_number c.args.level.start c.loop-place.place old.found.items takes.more now.found.items x c.loop-place.invariant.2 lt takes.behind read in
    let found : 0 < far old (slice_index (drop c.args.level.start old.found.items) (c.loop-place.place - c.args.level.start)) = c.requires.found (c.loop-place.place - c.args.level.start) 0 at.1 in
    let own : 0 < far old x = subst (λ n. 0 < far old n) at.0 found in
    omega (arith, own, (takes.kept x own).0)

pub take_unit-requires-clause-below : goal.take_unit-requires-clause-below
take_unit-requires-clause-below c =
    let old = c.args.self.now in
    let now = c.loop-place.self in
    let x : ℕ = c.index-number.result.now in
    let takes = c.loop-place.invariant.0 in
    let lt : c.loop-place.place < length old.found.items = omega (arith, c.loop-place-test.true, c.len-end.ensures) in
    let read : x ≡ get_or now.found.items c.loop-place.place x = search rules in
    let at = level_number c.args.level.start c.loop-place.place old.found.items takes.more now.found.items x c.loop-place.invariant.2 lt takes.behind read in
    subst (IsBelow now c.args.level.distance) at.0
    (below_level (asking c.args.level.link.now) c.args.level.distance (drop c.args.level.start old.found.items) (c.loop-place.place - c.args.level.start) old now c.requires.distance at.1 c.requires.rises c.requires.fresh takes)

pub loop-place-preserved : goal.loop-place-preserved
loop-place-preserved c =
    let link = c.args.level.link.now in
    let g = asking link in
    let first = c.args.self.now in
    let old = c.loop-place.self in
    let new = c.match-unit_at.self in
    let x : ℕ = c.index-number.result.now in
    let level : List ℕ = drop c.args.level.start first.found.items in
    let k : ℕ = c.loop-place.place - c.args.level.start in
    let takes = c.loop-place.invariant.0 in
    let lt : c.loop-place.place < length first.found.items = omega (arith, c.loop-place-test.true, c.len-end.ensures) in
    let read : x ≡ get_or old.found.items c.loop-place.place x = search rules in
    let at = level_number c.args.level.start c.loop-place.place first.found.items takes.more old.found.items x c.loop-place.invariant.2 lt takes.behind read in
    let T : List Ask → Type 0 = λ asks. Takes g c.args.level.distance (with_asker x asks) old new in
    let both : T (g.follows x) × AreShared link c.match-unit_at.shared new = elim c.match-unit_at.branch [
      | in-Some+in_ok-take_unit w ↦
          let there : unit_at link.groups x ≡ Some w.in-Some.unit = sym c.unit_at.ensures ∙ w.in-Some.is in
          let asks : follows link w.in-Some.unit ≡ g.follows x = sym (follows_at link x w.in-Some.unit there) in
          let took : T (follows link w.in-Some.unit) = subst (λ s. Takes g c.args.level.distance (with_asker x (follows link w.in-Some.unit)) old s) (sym w.self-is) w.in_ok-take_unit.ensures.0 in
          (subst T asks took, subst (λ h. AreShared link h new) (sym w.shared-is) (subst (AreShared link _) (sym w.self-is) w.in_ok-take_unit.ensures.1))
      | in_default w ↦
          let none : unit_at link.groups x ≡ None = sym c.unit_at.ensures ∙ w.in_default.is in
          let asks : [] ≡ g.follows x = sym (ap (λ o. option_map_or (follows link) o []) none) in
          let same : T [] = subst (λ s. Takes g c.args.level.distance [] old s) (sym w.self-is) (takes_none g c.args.level.distance old c.requires.distance) in
          (subst T asks same, subst (λ h. AreShared link h new) (sym w.shared-is) (subst (AreShared link _) (sym w.self-is) c.loop-place.invariant.1))
    ] in
    let own : Takes g c.args.level.distance (with_asker (slice_index level k) (g.follows (slice_index level k))) old new = subst (λ n. Takes g c.args.level.distance (with_asker n (g.follows n)) old new) (sym at.0) both.0 in
    let next : Takes g c.args.level.distance (asks_of g (take (k + 1) level)) first new = takes_unit g c.args.level.distance level k first old new c.requires.distance at.1 takes own in
    let step : k + 1 ≡ c.loop-place.place + 1 - c.args.level.start = omega (arith, c.loop-place.invariant.2) in (
      subst (λ n. Takes g c.args.level.distance (asks_of g (take n level)) first new) step next,
      both.1,
      omega (arith, c.loop-place.invariant.2),
    )

pub returns : goal.returns
returns c =
    let link = c.args.level.link.now in
    let g = asking link in
    let old = c.args.self.now in
    let new = c.loop-place.self in
    let level : List ℕ = drop c.args.level.start old.found.items in
    let whole : take (c.loop-place.place - c.args.level.start) level ≡ level = take_all (c.loop-place.place - c.args.level.start) level (omega (arith, length-drop c.args.level.start old.found.items, c.loop-place-test.false, c.len-end.ensures)) in
    (subst (λ xs. Takes g c.args.level.distance (asks_of g xs) old new) whole c.loop-place.invariant.0, c.loop-place.invariant.1)
