use Rattle.std.proofs.Common.{◌≡◌, true, take}
use Rattle.std.specs.List.{list_all}
use Rattle.lk_link.specs.Walks.{file_of}
use Rattle.lk_workers.specs.Closings.{is_unit_closed, symbol_units}
use Rattle.lk_workers.proofs.closed.Closed.are_symbols_closed.Given as goal

-- the symbols so far are closed
abbrev pub invariant-loop-place : goal.invariant-loop-place
invariant-loop-place g l = list_all (is_unit_closed l.self l.link) (take l.place (symbol_units l.link.groups (file_of l.file))) ≡ true
