-- Who takes the bytes of a part, and where each stands.
use Rattle.std.specs.Prelude.{◌≡◌, ℕ, zero, suc, ◌+◌, ◌-◌, ◌^◌, ◌<◌, ◌==◌, Bool, if◌then◌else◌, List, length, take, map}
use Rattle.std.specs.Prelude.{◌++◌, false, sum, slice_index, Option, Some, None, nat_lt, Contains}
use Rattle.std.specs.List.{position_or_len, slice_get}
use Rattle.std.specs.Option.{option_map_or}
use Rattle.lk_link.specs.declared.link.LinkInput.{LinkInput}
use Rattle.lk_link.specs.declared.file.InputFile.{InputFile}
use Rattle.lk_link.specs.declared.ids.FileId.{FileId}
use Rattle.lk_link.specs.Files.{file_in, first_some}
use Rattle.lk_link.specs.Inputs.{Input, input_number}
use Rattle.lk_link.specs.Parts.{part_at}
use Rattle.lk_link.specs.Symbols.{file_number}
use Rattle.lk_live.specs.Reach.{live_inputs}
use Rattle.lk_tables.specs.TableLists.{TableLists, table_of, whole_tables}
use Rattle.lk_sizes.specs.Emitted.{active_segments, emitted_marks, told_marks}
use Rattle.lk_sizes.specs.Owners.{CommonOwner, Content, EntryOwner, Filling, IsCommonIn, Owner, SectionOwner, ThunkOwner, by_part, bytes_of, content_owners, owner_address, size_of, thunk_bytes}

-- the tables of the output, by the sections whose edges are told, those that are emitted and the active segments
abbrev pub tables_of : Content → TableLists
tables_of content =
    whole_tables content.sizes content.link content.live (told_marks content) (emitted_marks content) (active_segments content)

-- the owners of a part, in order: those of its content, then the entries of tables there
abbrev pub owners_of : Filling → ℕ → List Owner
owners_of filling p =
    content_owners filling p ++ map EntryOwner (table_of filling.content.link.plan.named (tables_of filling.content) p)

-- ---- keys

-- whether an owner has this key
abbrev pub has_key : (Owner → Option ℕ) → ℕ → Owner → Bool
has_key key n o = option_map_or (λ m. m == n) (key o) false

-- the key of a section: its number over all files
abbrev pub section_key : LinkInput → Owner → Option ℕ
section_key link (SectionOwner x size) = Some (input_number link.groups x.file x.index)
section_key link _ = None

-- that of a common: its symbol
abbrev pub common_key : Owner → Option ℕ
common_key (CommonOwner s size) = Some s
common_key _ = None

-- that of a block of thunks: the number of its file over all groups
abbrev pub thunk_key : LinkInput → Owner → Option ℕ
thunk_key link (ThunkOwner id size) = Some (file_number link.groups id)
thunk_key link _ = None

-- ---- addresses

-- the address of the owner that stands in a part under this number, by the starts of all parts in memory; behind the last one, where the part ends
abbrev pub address_of_owner : Filling → List ℕ → ℕ → ℕ → ℕ
address_of_owner filling starts p k =
    owner_address (slice_index starts p) (part_at filling.content.link.plan.sections p) (owners_of filling p) k

-- ---- addresses of live sections

-- how many owners of its part stand before a live section
abbrev pub owner_number : Filling → Input → ℕ
owner_number filling x =
    let link = filling.content.link in
    position_or_len (has_key (section_key link) (input_number link.groups x.file x.index)) (owners_of filling x.section.part)

-- a live section's address, by the starts of all parts in memory
abbrev pub live_address : Filling → List ℕ → Input → ℕ
live_address filling starts x = address_of_owner filling starts x.section.part (owner_number filling x)

-- ---- addresses of commons

-- how many owners of its part stand before the common with this symbol
abbrev pub common_number : Filling → ℕ → ℕ → ℕ
common_number filling p s = position_or_len (has_key common_key s) (owners_of filling p)

-- the address of the common of a part with this symbol, by the starts of all parts in memory
abbrev pub common_address : Filling → List ℕ → ℕ → ℕ → ℕ
common_address filling starts p s = address_of_owner filling starts p (common_number filling p s)

-- ---- blocks of thunks

-- how many owners of its part stand before the block that a file owns
abbrev pub thunk_number : Filling → ℕ → FileId → ℕ
thunk_number filling p id =
    let link = filling.content.link in
    position_or_len (has_key (thunk_key link) (file_number link.groups id)) (owners_of filling p)

-- the address of the block that a file owns in a part, by the starts of all parts in memory
abbrev pub block_address : Filling → List ℕ → ℕ → FileId → ℕ
block_address filling starts p id = address_of_owner filling starts p (thunk_number filling p id)

-- ---- ends

-- each part ends below 2^64
abbrev pub EndsFit : Filling → List ℕ → Type 0
EndsFit filling starts = (p : ℕ) → p < length starts
    → slice_index starts p + bytes_of (part_at filling.content.link.plan.sections p) (owners_of filling p) < 2 ^ 64

-- ---- sizes

-- a part's size is the sum of its owners' bytes
abbrev pub part_size : Filling → ℕ → ℕ
part_size filling p = bytes_of (part_at filling.content.link.plan.sections p) (owners_of filling p)

-- the sizes of all parts (libwild: `compute_total_section_part_sizes`)
abbrev pub part_sizes : Filling → List ℕ
part_sizes filling = by_part (part_size filling) filling.content.link

-- the least number below n that passes
abbrev pub least_below : (ℕ → Bool) → ℕ → Option ℕ
least_below p zero = None
least_below p (suc n) = first_some (least_below p n) (if p n then Some n else None)

-- the first part at which the sizes so far pass 2^64 - 1 together
abbrev pub overflowing_part : List ℕ → Option ℕ
overflowing_part sizes = least_below (λ p. nat_lt (2 ^ 64 - 1) (sum (take (p + 1) sizes))) (length sizes)

-- ---- laws

-- each live section stands among the owners of its part under its number there
abbrev pub LiveSectionsAreOwners : Type 0
LiveSectionsAreOwners = (filling : Filling) (x : Input) → Contains (live_inputs filling.content.link filling.content.live) x
    → slice_get (owners_of filling x.section.part) (owner_number filling x) ≡ Some (SectionOwner x (size_of filling x))

-- each common that takes bytes stands among the owners of its part under its number there
abbrev pub CommonsAreOwners : Type 0
CommonsAreOwners = (filling : Filling) (p s size : ℕ) → IsCommonIn filling.content.link filling.content.live p s size
    → slice_get (owners_of filling p) (common_number filling p s) ≡ Some (CommonOwner s size)

-- the block of thunks that a file owns stands among the owners of the primary part under its number there
abbrev pub ThunksAreOwners : Type 0
ThunksAreOwners = (filling : Filling) (id : FileId) (file : InputFile) (p size : ℕ)
    → file_in filling.content.link.groups id ≡ Some file → filling.content.link.plan.named.primary ≡ Some p → thunk_bytes filling id ≡ Some size
    → slice_get (owners_of filling p) (thunk_number filling p id) ≡ Some (ThunkOwner id size)
