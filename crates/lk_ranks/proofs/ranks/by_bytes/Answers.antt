use Rattle.std.proofs.Common.{ℕ, List, Bor, IsPermutation, subst}
use Rattle.lk_ranks.proofs.NameOrder.{by_bytes}
use Rattle.lk_ranks.proofs.ranks.by_bytes.Goals as goal

pub returns : goal.returns
returns c =
    let order : List (Bor (List ℕ) × ℕ) = c.sort_unstable.new.self.items in
    by_bytes c.args.names.now order c.requires.distinct
    (subst (λ (all : List (Bor (List ℕ) × ℕ)). IsPermutation all order) c.in_ok-order.ensures c.sort_unstable.ensures.permutation)
    c.sort_unstable.ensures.sorted
