-- Where what the files of a group bring stands in a part, sorted sections apart: the groups' ranges follow each other.
use Rattle.std.specs.Prelude.{◌≡◌, ℕ, ◌+◌, ◌<◌, List, [], ◌++◌, length, take}
use Rattle.std.specs.List.{flat_map, slice_index_or}
use Rattle.lk_link.specs.Inputs.{NumberedFile, group_files, numbered_files}
use Rattle.lk_sizes.specs.Owners.{Filling, Owner, file_takers, leading_of, owners_in}
use Rattle.lk_sizes.specs.PartOwners.{address_of_owner, owners_of}

-- what some files bring to a part, sorted sections apart
abbrev pub unsorted_owners : Filling → ℕ → List NumberedFile → List Owner
unsorted_owners filling p files = owners_in p (flat_map (file_takers filling) files)

-- what the files of a group bring there
abbrev pub group_owners : Filling → ℕ → ℕ → List Owner
group_owners filling p g = unsorted_owners filling p (group_files g 0 (slice_index_or filling.content.link.groups g []))

-- what leads there, and what the files of the groups before it bring
abbrev pub owners_before_group : Filling → ℕ → ℕ → List Owner
owners_before_group filling p g =
    let link = filling.content.link in
    leading_of link filling.content.merged_lens p ++ unsorted_owners filling p (numbered_files (take g link.groups))

-- where the range of a group begins in a part, and where it ends
abbrev pub range_start : Filling → List ℕ → ℕ → ℕ → ℕ
range_start filling starts p g = address_of_owner filling starts p (length (owners_before_group filling p g))

abbrev pub range_end : Filling → List ℕ → ℕ → ℕ → ℕ
range_end filling starts p g = address_of_owner filling starts p (length (owners_before_group filling p g) + length (group_owners filling p g))

-- in each part what a group's files bring stands behind what leads and the groups before it, and its range ends where the next group's begins
pub record GroupFollows (filling : Filling) (starts : List ℕ) (p g : ℕ) : Type 0 where
  pub behind : List Owner
  pub stands : owners_of filling p ≡ owners_before_group filling p g ++ group_owners filling p g ++ behind
  pub ends : range_end filling starts p g ≡ range_start filling starts p (g + 1)

abbrev pub GroupsFollow : Type 0
GroupsFollow = (filling : Filling) (starts : List ℕ) (p g : ℕ) → g < length filling.content.link.groups → GroupFollows filling starts p g
