use Rattle.std.proofs.Common.{◌≡◌, take}
use Rattle.lk_tables.specs.ShareSteps.{sum_of}
use Rattle.lk_tables.proofs.shares.sum_shares.Given as goal

-- those so far
abbrev pub invariant-loop-share : goal.invariant-loop-share
invariant-loop-share l = l.sum ≡ sum_of (take l.share-index l.shares)
