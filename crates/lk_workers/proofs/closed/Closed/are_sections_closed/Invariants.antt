use Rattle.std.proofs.Common.{◌≡◌, true, take}
use Rattle.std.specs.List.{list_all}
use Rattle.lk_link.specs.Walks.{file_of}
use Rattle.lk_workers.specs.Closings.{is_unit_closed, section_units}
use Rattle.lk_workers.proofs.closed.Closed.are_sections_closed.Given as goal

-- the sections so far are closed
abbrev pub invariant-loop-index : goal.invariant-loop-index
invariant-loop-index g l = list_all (is_unit_closed l.self l.link) (take l.index (section_units (file_of l.file))) ≡ true
