use Rattle.std.proofs.Common.{◌≡◌, ◌≤◌, length, map, take}
use Rattle.std.specs.List.{flat_map}
use Rattle.lk_link.specs.Inputs.{group_files}
use Rattle.lk_tables.specs.Commons.{commons_of}
use Rattle.lk_tables.specs.ShareWords.{first_share}
use Rattle.lk_tables.proofs.by_groups.shares_of_group.Given as goal

-- what the files so far bring
abbrev pub invariant-loop-index : goal.invariant-loop-index
invariant-loop-index g l = record {
  files : l.shares.items ≡ map (first_share (g.P.Platform.table_sizes l.platform) l.link l.live) (group_files l.group 0 (take l.index l.files));
  commons : l.commons.items ≡ flat_map (commons_of l.link l.live) (group_files l.group 0 (take l.index l.files));
  within : l.index ≤ length l.files;
}
