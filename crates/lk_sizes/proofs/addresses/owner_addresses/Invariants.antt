use Rattle.std.proofs.Common.{◌≡◌, ◌++◌, length, map}
use Rattle.std.specs.List.{flat_map, range_with_len}
use Rattle.lk_link.specs.TableSizes.{TableSizes}
use Rattle.lk_link.specs.Walks.{file_of}
use Rattle.lk_sizes.specs.Owners.{all_commons, commons_of}
use Rattle.lk_sizes.specs.Tables.{behind_leading, blocks_of}
use Rattle.lk_sizes.proofs.FilledOwners.{filled}
use Rattle.lk_sizes.proofs.Placed.{AreDone}
use Rattle.lk_sizes.proofs.addresses.owner_addresses.Given as goal

-- the files so far have their addresses, the next ones are behind them, and the commons and blocks of the other files are left
abbrev pub invariant-loop-file : goal.invariant-loop-file
invariant-loop-file l = record {
  done : (tables : TableSizes) → AreDone (filled l.link l.live l.owners tables) l.starts (map (behind_leading l.link l.owners.lens l.starts) (range_with_len 0 (length l.starts))) (map file_of l.yielded) l.next.items l.sections.items l.commons.items l.owned.items;
  commons : flat_map (commons_of l.link l.live) (map file_of l.yielded) ++ l.left ≡ all_commons l.link l.live;
  owned : flat_map (blocks_of l.owners.thunks) (map file_of l.yielded) ++ l.waiting ≡ l.owners.thunks;
}
