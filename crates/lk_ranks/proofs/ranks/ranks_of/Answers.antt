use Rattle.std.proofs.Common.{◌≡◌, ℕ, ◌<◌, List, [], Some, Bor, get_or, length, sym, ◌∙◌, subst, arith}
use Rattle.std.specs.List.{slice_get}
use Rattle.std.proofs.lemmas.List.{length-set}
use Rattle.std.proofs.lemmas.Option.{slice_get-get_or, slice_get_within}
use Rattle.lk_ranks.specs.Ranks.{IsByBytes}
use Rattle.lk_ranks.proofs.NameOrder.{are_ranks, one_told}
use Rattle.lk_ranks.proofs.ranks.ranks_of.Goals as goal

-- the name that comes next has the number of one of the names
next_number : (names : List (Bor (List ℕ))) (order items : List (Bor (List ℕ) × ℕ)) (q : ℕ) (d : Bor (List ℕ) × ℕ) → IsByBytes names order → items ≡ order → q < length items
    → IsByBytes names items × (slice_get items q ≡ Some (get_or items q d)) × ((get_or items q d).1 < length names)
next_number names order items q d h is below =
    let all : IsByBytes names items = subst (IsByBytes names) (sym is) h in
    let there : slice_get items q ≡ Some (get_or items q d) = slice_get-get_or items q d below in
    (all, there, slice_get_within names (get_or items q d).1 (get_or items q d).0 (all.named q (get_or items q d) there))

pub overflow_cast-rank : goal.overflow_cast-rank
overflow_cast-rank c =
    let next = next_number c.args.names.now c.in_ok-order.order.items c.deref-name-items.result.now c.loop-rank.rank (record { ref_ptr = (0, 0); now = [] }, 0) c.in_ok-order.ensures c.deref-name-items.ensures.value c.loop-rank-test.true in
    omega (arith, next.0.count, c.requires.few, c.loop-rank-test.true)

pub index_mut-requires : goal.index_mut-requires
index_mut-requires c =
    let next = next_number c.args.names.now c.in_ok-order.order.items c.deref-name-items.result.now c.loop-rank.rank (record { ref_ptr = (0, 0); now = [] }, 0) c.in_ok-order.ensures c.deref-name-items.ensures.value c.loop-rank-test.true in
    omega (arith, next.2, c.loop-rank.invariant.count)

pub loop-rank-preserved : goal.loop-rank-preserved
loop-rank-preserved c =
    let names : List (Bor (List ℕ)) = c.args.names.now in
    let items : List (Bor (List ℕ) × ℕ) = c.deref-name-items.result.now in
    let q : ℕ = c.loop-rank.rank in
    let e : Bor (List ℕ) × ℕ = get_or items q (record { ref_ptr = (0, 0); now = [] }, 0) in
    let ranks : List ℕ = c.loop-rank.ranks.items in
    let next = next_number names c.in_ok-order.order.items items q (record { ref_ptr = (0, 0); now = [] }, 0) c.in_ok-order.ensures c.deref-name-items.ensures.value c.loop-rank-test.true in
    let inside : e.1 < length ranks = omega (arith, next.2, c.loop-rank.invariant.count) in
    record {
      count = length-set ranks e.1 q ∙ c.loop-rank.invariant.count;
      told = one_told names items ranks q e next.0 next.1 inside c.loop-rank.invariant.told;
    }

pub returns-clause-ranks : goal.returns-clause-ranks
returns-clause-ranks c =
    let names : List (Bor (List ℕ)) = c.args.names.now in
    let items : List (Bor (List ℕ) × ℕ) = c.deref-name-items.result.now in
    let all : IsByBytes names items = subst (IsByBytes names) (sym c.deref-name-items.ensures.value) c.in_ok-order.ensures in
    are_ranks names items c.loop-rank.ranks.items all (λ q e below at. c.loop-rank.invariant.told q e (omega (arith, below, c.loop-rank-test.false, c.loop-rank.auto.rank-end)) at)
