use Rattle.std.proofs.Common.{List, sym, subst}
use Rattle.lk_merge.specs.Buckets.{Bucket}
use Rattle.lk_merge.specs.MergedTables.{IsMerged}
use Rattle.lk_merge.specs.Pieces.{MergeInput}
use Rattle.lk_merge.proofs.MergedLemmas.{no_merged}
use Rattle.lk_merge.proofs.section.MergedStringsSection.new.Goals as goal

pub invariant_of-result : goal.invariant_of-result
invariant_of-result c =
    subst (λ (xs : List MergeInput). IsMerged xs c.new-2.result.items c.new-3.result) (sym c.new.ensures)
    (subst (λ (ks : List Bucket). IsMerged _ ks c.new-3.result) (sym c.new-2.ensures.items) (no_merged c.new-3.result c.new-3.ensures))
