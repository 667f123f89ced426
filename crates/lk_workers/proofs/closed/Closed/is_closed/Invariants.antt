use Rattle.std.proofs.Common.{◌≡◌, true, take}
use Rattle.std.specs.List.{list_all}
use Rattle.lk_slot_link.specs.LinkGraphs.{files_of_group}
use Rattle.lk_workers.specs.Closings.{is_file_closed}
use Rattle.lk_workers.proofs.closed.Closed.is_closed.Given as goal

-- the files so far are closed
abbrev pub invariant-loop-index : goal.invariant-loop-index
invariant-loop-index g l = list_all (is_file_closed l.self l.link) (take l.index (files_of_group l.link.groups l.group)) ≡ true
