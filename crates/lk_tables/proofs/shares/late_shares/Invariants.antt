use Rattle.std.proofs.Common.{◌≡◌, map}
use Rattle.lk_link.specs.Walks.{file_of}
use Rattle.lk_tables.specs.ShareSteps.{brought_late, sum_of}
use Rattle.lk_tables.proofs.shares.late_shares.Given as goal

-- what the files so far bring behind
abbrev pub invariant-loop-file : goal.invariant-loop-file
invariant-loop-file g l = l.sum ≡ sum_of (map (brought_late (g.P.Platform.table_sizes l.platform) l.given.link.now l.given.live.now l.given.told.now) (map file_of l.yielded))
