-- What the symbols of a group bring. Contracts of private functions speak of it.
use Rattle.std.specs.Prelude.{ℕ, map}
use Rattle.std.specs.List.{flat_map}
use Rattle.lk_link.specs.declared.link.LinkInput.{LinkInput}
use Rattle.lk_link.specs.TableSizes.{TableSizes}
use Rattle.lk_live.specs.declared.live.Live.{Live}
use Rattle.lk_live.specs.ByGroups.{files_in}
use Rattle.lk_tables.specs.declared.by_groups.GroupShares.{GroupShares}
use Rattle.lk_tables.specs.Commons.{commons_of}
use Rattle.lk_tables.specs.ShareWords.{first_share}

-- what the files of the group with this number take first in tables, and their commons that take bytes
abbrev pub group_shares : TableSizes → LinkInput → Live → ℕ → GroupShares
group_shares sizes link live g = record {
  files = map (first_share sizes link live) (files_in link.groups g);
  commons = flat_map (commons_of link live) (files_in link.groups g);
}
