use Rattle.std.proofs.Common.{sym, ap, ◌∙◌}
use Rattle.lk_tables.specs.SingletonCounts.{singleton_count}
use Rattle.lk_tables.proofs.GroupLemmas.{sizes_count}
use Rattle.lk_tables.proofs.partial_link.PartialLinkSingletons.of.Goals as goal

pub invariant_of-result : goal.invariant_of-result
invariant_of-result c = (
  c.singleton_sizes-count.ensures.count ∙ sym (ap singleton_count c.in_ok-groups.ensures ∙ sizes_count c.args.link.now c.args.live.now),
  c.singleton_sizes-count.ensures.few,
)
