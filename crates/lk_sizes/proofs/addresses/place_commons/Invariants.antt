use Rattle.std.proofs.Common.{map, take}
use Rattle.lk_sizes.specs.Owners.{common_taker}
use Rattle.lk_sizes.specs.Tables.{ArePassed}
use Rattle.lk_sizes.proofs.Placed.{AreTold}
use Rattle.lk_sizes.proofs.addresses.place_commons.Given as goal

-- the commons so far have their addresses, and the next ones are behind them
abbrev pub invariant-loop-common : goal.invariant-loop-common
invariant-loop-common l = record {
  passed : ArePassed l.link l.initial.next (map common_taker (take l.common-index l.commons)) l.next;
  told : AreTold l.link l.initial.next l.commons (take l.common-index l.commons) l.initial.addresses.items l.addresses.items;
}
