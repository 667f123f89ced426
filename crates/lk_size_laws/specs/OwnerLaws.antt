-- Laws on the owners of parts: what they are, that each stands once, and who stands in parts of tables.
use Rattle.std.specs.Prelude.{◌≡◌, ℕ, ◌+◌, Contains, Some, length, map, slice_index, true}
use Rattle.std.specs.List.{slice_get}
use Rattle.lk_link.specs.PartRules.{is_table_part}
use Rattle.lk_link.specs.Parts.{part_sections}
use Rattle.lk_link.specs.WellFormed.{IsWellFormed}
use Rattle.lk_live.specs.Reach.{AreLive, live_inputs}
use Rattle.lk_tables.specs.SymbolTable.{TableEntry}
use Rattle.lk_tables.specs.TableLists.{table_of}
use Rattle.lk_sizes.specs.Owners.{CommonOwner, EntryOwner, Filling, IdentityOwner, ImageOwner, IsCommonIn, Owner, SectionOwner, ThunkOwner, content_owners, has_image, identity_size, images_of, size_of, thunk_bytes}
use Rattle.lk_sizes.specs.PartOwners.{common_number, owner_number, owners_of, tables_of, thunk_number}

-- what an owner of a part is: the image there of the part's output section; the identity, if it stands there; a live section that goes to
-- it, with its size; one of its commons; the block of thunks that a file owns, in the primary part; or an entry of a table there
abbrev pub IsOwnerOf : Filling → ℕ → Owner → Type 0
IsOwnerOf filling p (ImageOwner section len) =
    (has_image filling.content.link p ≡ true) × (section ≡ slice_index (part_sections filling.content.link.plan.sections) p)
    × (len ≡ slice_index filling.content.merged_lens section)
IsOwnerOf filling p (IdentityOwner size) = identity_size filling.content.link p ≡ Some size
IsOwnerOf filling p (SectionOwner x size) =
    Contains (live_inputs filling.content.link filling.content.live) x × (x.section.part ≡ p) × (size ≡ size_of filling x)
IsOwnerOf filling p (CommonOwner s size) = IsCommonIn filling.content.link filling.content.live p s size
IsOwnerOf filling p (ThunkOwner id size) =
    (filling.content.link.plan.named.primary ≡ Some p) × (thunk_bytes filling id ≡ Some size)
IsOwnerOf filling p (EntryOwner e) = Contains (table_of filling.content.link.plan.named (tables_of filling.content) p) e

-- each owner of a part is one of these
abbrev pub OwnersAreLive : Type 0
OwnersAreLive = (filling : Filling) (p k : ℕ) (o : Owner) → slice_get (owners_of filling p) k ≡ Some o
    → IsOwnerOf filling p o

-- a part that the plan names for a table has the entries of its table, and no other owner
abbrev pub TablePartsHaveEntriesAlone : Type 0
TablePartsHaveEntriesAlone = (filling : Filling) (p : ℕ) → IsWellFormed filling.content.link
    → AreLive filling.content.link filling.content.live → is_table_part filling.content.link.plan.named p ≡ true
    → owners_of filling p ≡ map EntryOwner (table_of filling.content.link.plan.named (tables_of filling.content) p)

-- the number that an owner has in its part: the image is the first; the identity stands behind the image, if there is one; a live section,
-- a common and a block of thunks have theirs; and an entry stands behind all that is none, where it stands in the table
abbrev pub HasItsNumber : Filling → ℕ → ℕ → Owner → Type 0
HasItsNumber filling p k (ImageOwner section len) = k ≡ 0
HasItsNumber filling p k (IdentityOwner size) = k ≡ length (images_of filling.content.link filling.content.merged_lens p)
HasItsNumber filling p k (SectionOwner x size) = k ≡ owner_number filling x
HasItsNumber filling p k (CommonOwner s size) = k ≡ common_number filling p s
HasItsNumber filling p k (ThunkOwner id size) = k ≡ thunk_number filling p id
HasItsNumber filling p k (EntryOwner e) = (j : ℕ) × (k ≡ length (content_owners filling p) + j)
    × (slice_get (table_of filling.content.link.plan.named (tables_of filling.content) p) j ≡ Some e)

-- each owner of a part stands there under its number, so once
abbrev pub OwnersStandOnce : Type 0
OwnersStandOnce = (filling : Filling) (p k : ℕ) (o : Owner) → slice_get (owners_of filling p) k ≡ Some o
    → HasItsNumber filling p k o

-- the identity stands among the owners of the part for comments under that number, if there is such a part
abbrev pub IdentityIsOwner : Type 0
IdentityIsOwner = (filling : Filling) (p size : ℕ) → identity_size filling.content.link p ≡ Some size
    → slice_get (owners_of filling p) (length (images_of filling.content.link filling.content.merged_lens p))
    ≡ Some (IdentityOwner size)

-- so does each entry of the tables for which the plan names a part
abbrev pub EntriesAreOwners : Type 0
EntriesAreOwners = (filling : Filling) (p j : ℕ) (e : TableEntry)
    → slice_get (table_of filling.content.link.plan.named (tables_of filling.content) p) j ≡ Some e
    → slice_get (owners_of filling p) (length (content_owners filling p) + j) ≡ Some (EntryOwner e)
