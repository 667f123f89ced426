use Rattle.std.proofs.Common.{◌≡◌, true, length, take}
use Rattle.std.specs.List.{list_all, range_with_len}
use Rattle.lk_workers.specs.Closings.{is_group_closed}
use Rattle.lk_workers.proofs.closed.Closed.is_whole.Given as goal

-- the groups so far are closed
abbrev pub invariant-loop-group : goal.invariant-loop-group
invariant-loop-group g l = list_all (is_group_closed l.self l.link) (take l.group (range_with_len 0 (length l.link.groups))) ≡ true
