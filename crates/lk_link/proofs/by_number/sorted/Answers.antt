use Rattle.std.proofs.Common.{rules}
use Rattle.std.proofs.lemmas.List.Sorted.{IsNonDecreasingBy-from_sort_by_key, answers_always, length_permutation}
use Rattle.lk_link.proofs.NumberedLemmas.{items_stay}
use Rattle.lk_link.proofs.by_number.sorted.Goals as goal

pub returns-clause-rising : goal.returns-clause-rising
returns-clause-rising g c = IsNonDecreasingBy-from_sort_by_key (λ p. p.0) _ c.in_ok-sort_by_key.ensures.sorted (λ a r q k. search rules)

pub returns-clause-kept : goal.returns-clause-kept
returns-clause-kept g c = λ n.
    items_stay c.args.pairs.items c.sort_by_key.new.self.items n
    (length_permutation c.args.pairs.items c.sort_by_key.new.self.items c.in_ok-sort_by_key.ensures.permutation)
    (c.in_ok-sort_by_key.ensures.stable (λ p. p.0) (answers_always _ _ _ (λ f a r k h. search rules)))
