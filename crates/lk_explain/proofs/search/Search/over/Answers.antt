use Rattle.std.proofs.Common.{rules, ◌≡◌, ◌+◌, ◌<◌, ◌≤◌, ◌++◌, List, ℕ, drop, length, get_or, inl, inr, sym, ap, ◌∙◌, subst, arith}
use Rattle.std.specs.List.{slice_index}
use Rattle.std.proofs.lemmas.Grind.{common_steps}
use Rattle.std.proofs.lemmas.List.{length-append, length-drop}
use Rattle.std.proofs.Math.Seq.{drop-append_seam}
use Rattle.lk_reach.specs.Marks.{asking}
use Rattle.lk_reach.proofs.SymbolNumbers.{units_few}
use Rattle.lk_explain.specs.Searching.{IsLevel}
use Rattle.lk_explain.proofs.LevelLemmas.{first_level, level_sorted, next_level, none_long, read_index, unfound_some, zero_at}
use Rattle.lk_explain.proofs.SharedLemmas.{shared_new, shared_same}
use Rattle.lk_explain.proofs.search.Search.over.Goals as goal
use Rattle.lk_explain.proofs.search.Search.over.Goals.{then-loop-start-test+else-index-eq0, else-loop-start-test}

pub take_roots-requires-clause-below : goal.take_roots-requires-clause-below
take_roots-requires-clause-below c u e =
    let fresh = c.in_ok-search.ensures in
    let none = ap (λ xs. slice_index xs u) fresh.distances ∙ zero_at (asking c.args.link.now).count u in
    absurd (omega (arith, e, none))

pub loop-start-init : goal.loop-start-init
loop-start-init c =
    let link = c.args.link.now in
    let g = asking link in
    let old = c.in_ok-search.search in
    let new = c.take_roots.new.self in
    let takes = c.in_ok-take_roots.ensures in
    let level = first_level g old new c.in_ok-search.ensures takes in
    let all : new.found.items ≡ takes.more = takes.behind ∙ ap (λ (xs : List ℕ). xs ++ takes.more) c.in_ok-search.ensures.found in (
      subst (λ xs. IsLevel g xs 1 new.distances.items new.askers.items) (sym all) level,
      omega arith,
      omega arith,
      shared_new link c.in_ok-shared.shared new c.in_ok-shared.ensures,
    )

pub overflow_add-distance : goal.overflow_add-distance
overflow_add-distance c =
    let is = c.loop-start.invariant.0 in
    let found : List ℕ = c.loop-start.search.found.items in
    let lt : c.args.number < length c.loop-start.search.distances.items = omega (arith, is.sizes.0, c.requires.there) in
    let read : c.index.result.now ≡ get_or c.loop-start.search.distances.items c.args.number c.index.result.now = search rules in
    let zero : c.index.result.now ≡ 0 = c.if-index-eq0.true in
    let none = read_index c.loop-start.search.distances.items c.args.number c.index.result.now lt read ∙ zero in
    let start : c.loop-start.start < length found = first_of (search rules, grind (arith, common_steps)) in
    let some : 0 < length (drop c.loop-start.start found) = omega (arith, start, length-drop c.loop-start.start found) in
    omega (arith, is.count, units_few c.args.link.now c.requires.well_formed, unfound_some c.loop-start.search.distances.items c.args.number lt none, some)

pub take_level-requires-clause-found : goal.take_level-requires-clause-found
take_level-requires-clause-found c k d lt =
    let sorted = c.sort_from.new.self in
    let old = c.loop-start.search in
    let is = c.loop-start.invariant.0 in
    let now = level_sorted (asking c.args.link.now) (drop c.loop-start.start old.found.items) (drop c.loop-start.start sorted.found.items) c.loop-start.distance old.distances.items old.askers.items
    c.sort_from.ensures.same is in
    let at = now.within k d lt in
    omega (arith, at, c.loop-start.invariant.1, ap (λ xs. slice_index xs (get_or (drop c.loop-start.start sorted.found.items) k d)) c.sort_from.ensures.distances)

pub take_level-requires-clause-fresh : goal.take_level-requires-clause-fresh
take_level-requires-clause-fresh c u e =
    let is = c.loop-start.invariant.0 in
    omega (arith, e, is.near u, ap (λ xs. slice_index xs u) c.sort_from.ensures.distances)

pub take_level-requires-clause-shared : goal.take_level-requires-clause-shared
take_level-requires-clause-shared c =
    shared_same c.args.link.now c.loop-start.shared c.loop-start.search c.sort_from.new.self c.sort_from.ensures.distances c.loop-start.invariant.3

pub loop-start-preserved : goal.loop-start-preserved
loop-start-preserved c =
    let link = c.args.link.now in
    let g = asking link in
    let was = c.loop-start.search in
    let old = c.sort_from.new.self in
    let new = c.take_level.new.self in
    let start : ℕ = c.loop-start.start in
    let distance : ℕ = c.loop-start.distance in
    let level : List ℕ = drop start old.found.items in
    let before : start < length was.found.items = first_of (search rules, grind (arith, common_steps)) in
    let some : 0 < length level = omega (arith, before, c.sort_from.ensures.length, length-drop start old.found.items) in
    let sorted : IsLevel g level distance was.distances.items was.askers.items = level_sorted g (drop start was.found.items) level distance was.distances.items was.askers.items c.sort_from.ensures.same c.loop-start.invariant.0 in
    let is : IsLevel g level distance old.distances.items old.askers.items
    = subst (λ ds. IsLevel g level distance ds old.askers.items) (sym c.sort_from.ensures.distances) (subst (λ bs. IsLevel g level distance was.distances.items bs) (sym c.sort_from.ensures.askers) sorted) in
    let took = c.in_ok-take_level.ensures.0 in
    let next = next_level g level distance old new c.loop-start.invariant.1 some is took in
    let end : ℕ = c.len-end.result in
    let long : length old.found.items ≡ end = omega (arith, c.sort_from.ensures.length, c.len-end.ensures) in
    let behind : drop end new.found.items ≡ took.more = ap (drop end) took.behind ∙ ap (λ n. drop n (old.found.items ++ took.more)) (sym long) ∙ drop-append_seam old.found.items took.more in
    let within : end ≤ length new.found.items = omega (arith, ap length took.behind, long, length-append old.found.items took.more) in (
      subst (λ xs. IsLevel g xs (distance + 1) new.distances.items new.askers.items) (sym behind) next,
      omega arith,
      within,
      c.in_ok-take_level.ensures.1,
    )

pub returns : goal.returns
returns c =
    let is = c.loop-start.invariant.0 in
    let lt : c.args.number < length c.loop-start.search.distances.items = omega (arith, is.sizes.0, c.requires.there) in
    record {
      level = drop c.loop-start.start c.loop-start.search.found.items;
      distance = c.loop-start.distance;
      some = c.loop-start.invariant.1;
      is = is;
      ends = elim c.loop-start-test.branch [
        | then-loop-start-test+else-index-eq0 w ↦
            let read : w.index.result.now ≡ get_or c.loop-start.search.distances.items c.args.number w.index.result.now = search rules in
            let at = read_index c.loop-start.search.distances.items c.args.number w.index.result.now lt read in
            inr (omega (arith, at, w.if-index-eq0.false))
        | else-loop-start-test w ↦
            let past : length c.loop-start.search.found.items ≤ c.loop-start.start = first_of (search rules, grind (arith, common_steps)) in
            inl (none_long (drop c.loop-start.start c.loop-start.search.found.items) (omega (arith, past, length-drop c.loop-start.start c.loop-start.search.found.items)))
      ];
    }
