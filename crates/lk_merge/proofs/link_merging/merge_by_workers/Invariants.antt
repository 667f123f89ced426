use Rattle.std.proofs.Common.{◌≡◌, drop, take}
use Rattle.lk_merge.specs.Hash.{fnv64}
use Rattle.lk_merge.specs.LinkInputs.{first_refusal}
use Rattle.lk_merge.proofs.link_merging.merge_by_workers.Given as goal

-- those so far are merged, and the first refusal is the first one from here on
abbrev pub invariant-loop-number : goal.invariant-loop-number
invariant-loop-number g l = (l.merged.items ≡ take l.number l.outputs)
    × (first_refusal fnv64 l.limit l.number (drop l.number l.outputs) ≡ first_refusal fnv64 l.limit 0 l.outputs)
