use Rattle.std.proofs.Common.{◌≡◌, true, map}
use Rattle.std.specs.List.{list_all}
use Rattle.lk_link.specs.Walks.{file_of}
use Rattle.lk_workers.specs.Shares.{is_passed}
use Rattle.lk_workers.proofs.closed.Closed.is_share_closed.Given as goal

-- the worker passes the files so far
abbrev pub invariant-loop-file : goal.invariant-loop-file
invariant-loop-file g l = list_all (is_passed l.self l.link l.workers l.worker) (map file_of l.yielded) ≡ true
