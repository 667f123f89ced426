use Rattle.std.proofs.Common.{rules, ◌≡◌, ℕ, ◌<◌, true, All, Some, length, map, get_or, sym, ap, ◌∙◌, subst, arith}
use Rattle.std.proofs.lemmas.Grind.{common_steps}
use Rattle.lk_reach.specs.Marks.{IsUnit, all_units, asking, unit_at, unit_number}
use Rattle.lk_reach.proofs.SymbolNumbers.{unit_within}
use Rattle.lk_explain.specs.Faults.{has_unit}
use Rattle.lk_explain.specs.Searching.{IsOver, far}
use Rattle.lk_explain.proofs.LevelLemmas.{read_index}
use Rattle.lk_explain.proofs.PathLemmas.{has_is_unit}
use Rattle.lk_explain.proofs.ShownLemmas.{shown_shortest, shown_trail, trail_units, unfound_unreached}
use Rattle.lk_explain.proofs.shown.shown_path.Goals as goal

pub over-requires-clause-there : goal.over-requires-clause-there
over-requires-clause-there c =
    let has : has_unit c.args.link.now c.args.unit.now ≡ true = cc in
    let unit : IsUnit c.args.link.now.groups c.args.unit.now = has_is_unit c.args.link.now c.args.unit.now has in
    omega (arith, unit_within c.args.link.now.groups c.args.unit.now unit, c.number_of-number.ensures)

pub index-requires : goal.index-requires
index-requires c =
    let has : has_unit c.args.link.now c.args.unit.now ≡ true = cc in
    let unit : IsUnit c.args.link.now.groups c.args.unit.now = has_is_unit c.args.link.now c.args.unit.now has in
    let sizes = c.in_ok-search.ensures.is.sizes in
    let lt : c.number_of-number.result < length c.in_ok-search.search.distances.items
    = omega (arith, unit_within c.args.link.now.groups c.args.unit.now unit, c.number_of-number.ensures, sizes.0) in
    first_of (omega (arith, lt), search rules, grind (arith, common_steps))

pub returns-then-index-eq0 : goal.returns-then-index-eq0
returns-then-index-eq0 c =
    let link = c.args.link.now in
    let s = c.in_ok-search.search in
    let number : ℕ = c.number_of-number.result in
    let x : ℕ = c.index.result.now in
    let has : has_unit link c.args.unit.now ≡ true = cc in
    let unit : IsUnit link.groups c.args.unit.now = has_is_unit link c.args.unit.now has in
    let lt : number < length s.distances.items = omega (arith, unit_within link.groups c.args.unit.now unit, c.number_of-number.ensures, c.in_ok-search.ensures.is.sizes.0) in
    let read : x ≡ get_or s.distances.items number x = search rules in
    let zero : x ≡ 0 = c.if-index-eq0.true in
    let none : far s number ≡ 0 = read_index s.distances.items number x lt read ∙ zero in
    let own : number ≡ unit_number link.groups c.args.unit.now = c.number_of-number.ensures in
    (has, unfound_unreached link s c.args.unit.now c.requires (subst (λ n. IsOver (asking link) n s) own c.in_ok-search.ensures) (subst (λ n. far s n ≡ 0) own none))

pub trail-requires-clause-found : goal.trail-requires-clause-found
trail-requires-clause-found c =
    let link = c.args.link.now in
    let s = c.in_ok-search.search in
    let number : ℕ = c.number_of-number.result in
    let x : ℕ = c.index.result.now in
    let has : has_unit link c.args.unit.now ≡ true = cc in
    let unit : IsUnit link.groups c.args.unit.now = has_is_unit link c.args.unit.now has in
    let lt : number < length s.distances.items = omega (arith, unit_within link.groups c.args.unit.now unit, c.number_of-number.ensures, c.in_ok-search.ensures.is.sizes.0) in
    let read : x ≡ get_or s.distances.items number x = search rules in
    omega (arith, read_index s.distances.items number x lt read, c.if-index-eq0.false)

pub units_of-requires-clause-there : goal.units_of-requires-clause-there
units_of-requires-clause-there c =
    let link = c.args.link.now in
    subst (All (λ n. n < length (all_units link.groups))) (sym c.as_slice-3.ensures.value)
    (trail_units link c.in_ok-search.search c.number_of-number.result c.in_ok-numbers.numbers.items c.in_ok-search.ensures c.in_ok-numbers.ensures)

pub returns : goal.returns
returns c =
    let link = c.args.link.now in
    let s = c.in_ok-search.search in
    let number : ℕ = c.number_of-number.result in
    let has : has_unit link c.args.unit.now ≡ true = cc in
    let unit : IsUnit link.groups c.args.unit.now = has_is_unit link c.args.unit.now has in
    let there : unit_at link.groups number ≡ Some c.args.unit.now = ap (unit_at link.groups) c.number_of-number.ensures ∙ unit in
    let units : map Some c.in_ok-path.path.items ≡ map (unit_at link.groups) c.in_ok-numbers.numbers.items
    = c.in_ok-path.ensures ∙ ap (map (unit_at link.groups)) c.as_slice-3.ensures.value in
    let shown = shown_trail link s number c.in_ok-numbers.numbers.items c.in_ok-path.path.items c.args.unit.now c.requires c.in_ok-search.ensures c.in_ok-numbers.ensures units there in
    (has, shown_shortest link c.in_ok-path.path.items c.args.unit.now c.requires shown)
