use Rattle.std.proofs.Common.{ℕ, Bool, IsPermutation, rules, subst}
use Rattle.std.specs.Cmp.Lexicographic.{slice_cmp}
use Rattle.std.specs.Ordering.{is_lt, nat_cmp}
use Rattle.std.proofs.lemmas.Cmp.{nat_list_cmp_total}
use Rattle.std.proofs.lemmas.Fn.{always_returns_same}
use Rattle.std.proofs.lemmas.List.Sorted.{ranks_by}
use Rattle.lk_link.specs.Names.{name_at}
use Rattle.lk_link.proofs.NameLemmas.{order_from}
use Rattle.lk_link.proofs.names.order_of.Goals as goal

pub returns : goal.returns
returns c =
    let lt : ℕ → ℕ → Bool = λ a b. is_lt (slice_cmp nat_cmp (name_at c.args.names.now a) (name_at c.args.names.now b)) in
    let rising = c.sort_unstable_by.ensures.sorted lt (ranks_by nat_list_cmp_total (name_at c.args.names.now)) (always_returns_same _ _ _ (λ a r q k. search rules)) in
    order_from c.args.names.now c.sort_unstable_by.new.self.items rising (subst (λ all. IsPermutation all c.sort_unstable_by.new.self.items) c.in_ok-order.ensures c.sort_unstable_by.ensures.permutation)
