use Rattle.std.proofs.Common.{rules, ◌≡◌, ℕ, ◌-◌, ◌<◌, List, length, get_or, refl, sym, ap, ◌∙◌, arith}
use Rattle.std.specs.List.{slice_index, slice_set}
use Rattle.std.proofs.lemmas.Grind.{common_steps}
use Rattle.std.proofs.lemmas.List.{length-replicate}
use Rattle.lk_reach.specs.Marks.{asking}
use Rattle.lk_reach.proofs.SymbolNumbers.{units_few}
use Rattle.lk_explain.specs.Searching.{back, far}
use Rattle.lk_explain.proofs.LevelLemmas.{read_index}
use Rattle.lk_explain.proofs.ShownLemmas.{far_within, trail_first, trail_next, trail_within}
use Rattle.lk_explain.proofs.shown.trail.Goals as goal

pub overflow_cast-number : goal.overflow_cast-number
overflow_cast-number c =
    omega (arith, far_within c.args.search.now.distances.items c.args.number c.requires.found, c.requires.over.is.sizes.0, units_few c.args.link.now c.requires.well_formed)

pub loop-place-init : goal.loop-place-init
loop-place-init c =
    let s = c.args.search.now in
    let n : ℕ = c.index.result.now in
    let old : List ℕ = c.in_ok-numbers.numbers.items in
    let lt : c.args.number < length s.distances.items = far_within s.distances.items c.args.number c.requires.found in
    let read : n ≡ get_or s.distances.items c.args.number n = search rules in
    let at : far s c.args.number ≡ n = read_index s.distances.items c.args.number n lt read in
    let long : length old ≡ n = ap length c.in_ok-numbers.ensures ∙ length-replicate n 0 in
    trail_first s c.args.number (n - 1) old (slice_set old (n - 1) c.args.number) (long ∙ sym at) (omega (arith, long, at, c.requires.found)) refl

pub index-requires-in-loop-place-2 : goal.index-requires-in-loop-place-2
index-requires-in-loop-place-2 c =
    let s = c.args.search.now in
    let x : ℕ = c.index-in-loop-place.result.now in
    let numbers : List ℕ = c.loop-place.numbers.items in
    let read : x ≡ get_or numbers c.loop-place.place x = search rules in
    let at : slice_index numbers c.loop-place.place ≡ x = read_index numbers c.loop-place.place x c.loop-place.invariant.within read in
    let within = trail_within (asking c.args.link.now) s c.args.number numbers c.loop-place.place c.requires.over c.loop-place.invariant in
    let lt : x < length s.askers.items = omega (arith, within, at) in
    first_of (omega (arith, lt), search rules, grind (arith, common_steps))

pub loop-place-preserved : goal.loop-place-preserved
loop-place-preserved c =
    let s = c.args.search.now in
    let place : ℕ = c.loop-place.place in
    let old : List ℕ = c.loop-place.numbers.items in
    let x : ℕ = c.index-in-loop-place.result.now in
    let y : ℕ = c.index-in-loop-place-2.result.now in
    let read : x ≡ get_or old c.loop-place.place x = search rules in
    let at : slice_index old place ≡ x = read_index old place x c.loop-place.invariant.within read in
    let within = trail_within (asking c.args.link.now) s c.args.number old place c.requires.over c.loop-place.invariant in
    let lt : x < length s.askers.items = omega (arith, within, at) in
    let read_back : y ≡ get_or s.askers.items x y = search rules in
    let by : y ≡ back s (slice_index old place) = sym (read_index s.askers.items x y lt read_back) ∙ ap (back s) (sym at) in
    trail_next (asking c.args.link.now) s c.args.number place (place - 1) old (slice_set old (place - 1) y) c.requires.over c.loop-place.invariant (omega (arith, c.loop-place-test.true))
    (ap (λ v. slice_set old (place - 1) v) by)
