use Rattle.std.proofs.Common.{◌≡◌, ◌≤◌, length, take}
use Rattle.std.specs.List.{flat_map}
use Rattle.lk_link.specs.Inputs.{group_files}
use Rattle.lk_resolutions.specs.AtHand.{places_at_hand, setting_at_hand}
use Rattle.lk_resolutions.specs.Resolutions.{file_resolutions}
use Rattle.lk_resolutions.proofs.by_groups.resolve_group.Given as goal

-- the resolutions of the files so far
abbrev pub invariant-loop-index : goal.invariant-loop-index
invariant-loop-index g l = record {
  made : l.list ≡ flat_map (file_resolutions (places_at_hand l.tables) (setting_at_hand (g.P.Platform.table_sizes l.platform) l.tables)) (group_files l.group 0 (take l.index l.files));
  within : l.index ≤ length l.files;
}
