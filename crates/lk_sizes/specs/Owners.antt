-- What goes into the output, and who takes the bytes of a part, but for entries of tables that wait for the emitted sections.
use Rattle.std.specs.Prelude.{◌≡◌, ℕ, ◌+◌, ◌<◌, ◌==◌, ◌&&◌, Bool, if◌then◌else◌, List, length, take, map, filter}
use Rattle.std.specs.Prelude.{[], ◌∷◌, ◌++◌, true, not, sum_by, slice_index, Option, Some, None, IsSome, find, nat_lt, option_and_then, option_map}
use Rattle.std.specs.List.{enumerate_from, flat_map, list_any, slice_get}
use Rattle.std.specs.Option.{option_to_list}
use Rattle.lk_link.specs.declared.ids.FileId.{FileId}
use Rattle.lk_link.specs.declared.link.LinkInput.{LinkInput}
use Rattle.lk_link.specs.declared.plan.PlanPart.{PlanPart}
use Rattle.lk_link.specs.declared.symbol.InputSymbol.{InputSymbol}
use Rattle.lk_link.specs.declared.symbol.SymbolPlacement.TheVariants as at
use Rattle.lk_link.specs.Files.{file_in}
use Rattle.lk_link.specs.InputSlots.{is_merge}
use Rattle.lk_link.specs.Inputs.{Input, NumberedFile, all_inputs, input_number, inputs_from, numbered_files}
use Rattle.lk_link.specs.Marks.{is_marked}
use Rattle.lk_link.specs.PartRules.{is_part}
use Rattle.lk_link.specs.Parts.{all_parts, part_at, part_sections}
use Rattle.lk_link.specs.Sizes.{capacity}
use Rattle.lk_link.specs.Symbols.{file_number, first_symbol}
use Rattle.lk_link.specs.TableSizes.{TableSizes}
use Rattle.lk_live.specs.declared.live.Live.{Live}
use Rattle.lk_live.specs.Reach.{live_inputs}
use Rattle.lk_tables.specs.declared.commons.Common.{Common}
pub use Rattle.lk_tables.specs.Commons.{all_commons, common_at, common_of, commons_of}
use Rattle.lk_tables.specs.Copied.{is_wanted}
use Rattle.lk_tables.specs.Late.{flags_at}
use Rattle.lk_tables.specs.SymbolTable.{TableEntry}
use Rattle.lk_tables.specs.TableLists.{first_tables, table_of}
use Rattle.lk_sizes.specs.Sorted.{sorted_inputs}

-- what goes into the output of a link: what tables take on a machine, the live sections, and the merged images of output
-- sections, by their lengths
pub record Content : Type 0 where
  pub link : LinkInput
  pub sizes : TableSizes
  pub live : Live
  pub merged_lens : List ℕ

-- that of this link, these sizes, live sections and lengths
abbrev pub content_of : LinkInput → TableSizes → Live → List ℕ → Content
content_of link sizes live merged_lens = record { link = link; sizes = sizes; live = live; merged_lens = merged_lens }

-- what fills the parts: what goes into the output, the bytes of the block of thunks that each of some files owns, in the order
-- of files, and the size of each input section, by its number over all files
pub record Filling : Type 0 where
  pub content : Content
  pub thunks : List (FileId × ℕ)
  pub sizes : List ℕ

-- the sizes that the input sections of a link have in its description
unfoldable pub own_sizes : LinkInput → List ℕ
own_sizes link = map (λ x. x.section.size) (all_inputs link.groups)

-- without thunks, with these sizes
abbrev pub sized_filling : Content → List ℕ → Filling
sized_filling content sizes = record { content = content; thunks = []; sizes = sizes }

-- and with those of the description
abbrev pub plain_filling : Content → Filling
plain_filling content = sized_filling content (own_sizes content.link)

-- one without its thunks
abbrev pub without_thunks : Filling → Filling
without_thunks filling = record filling { thunks = [] }

-- and with these
abbrev pub with_thunks : Filling → List (FileId × ℕ) → Filling
with_thunks filling thunks = record filling { thunks = thunks }

-- the same for this link
abbrev pub in_link : LinkInput → Filling → Filling
in_link link filling = record filling { content = record filling.content { link = link } }

-- and for what is live of it
abbrev pub in_output : LinkInput → Live → Filling → Filling
in_output link live filling = record filling { content = record filling.content { link = link; live = live } }

-- those of some input sections that go to a part
abbrev pub into : ℕ → List Input → List Input
into p inputs = filter (λ x. x.section.part == p) inputs

-- the live sections that go to a part, by file and index
abbrev pub live_into : LinkInput → Live → ℕ → List Input
live_into link live p = into p (live_inputs link live)

-- these are the bytes of blocks of thunks: each of a file of the link that owns it, in the order of files
pub record AreThunkOwners (link : LinkInput) (thunks : List (FileId × ℕ)) : Type 0 where
  pub there : (k : ℕ) (q : FileId × ℕ) → slice_get thunks k ≡ Some q → IsSome (file_in link.groups q.0)
  pub rising : (j k : ℕ) (q r : FileId × ℕ) → j < k → slice_get thunks j ≡ Some q → slice_get thunks k ≡ Some r
      → file_number link.groups q.0 < file_number link.groups r.0

-- ---- images

-- whether an input section is merged
abbrev pub is_merged : Input → Bool
is_merged x = is_merge x.section.slot

-- whether sections that are merged go to a part, so that the image of its output section stands there
abbrev pub has_image : LinkInput → ℕ → Bool
has_image link p = list_any is_merged (into p (all_inputs link.groups))

-- ---- owners

-- one that takes bytes of a part: the merged image of an output section, so many bytes long; the linker's identity, so many bytes long; a
-- live section, with its size; a common, by its symbol, with its size; the block of thunks that a file owns,
-- so many bytes long; or an entry of a table (libwild adds up sizes file by file)
pub data Owner : Type 0 where
  ImageOwner : ℕ → ℕ → Owner
  IdentityOwner : ℕ → Owner
  SectionOwner : Input → ℕ → Owner
  CommonOwner : ℕ → ℕ → Owner
  ThunkOwner : FileId → ℕ → Owner
  EntryOwner : TableEntry → Owner

-- the bytes that it takes in a part: an entry its own, any other its size with the padding behind it
abbrev pub owner_bytes : PlanPart → Owner → ℕ
owner_bytes part (ImageOwner section len) = capacity part len
owner_bytes part (IdentityOwner size) = capacity part size
owner_bytes part (SectionOwner x size) = capacity part size
owner_bytes part (CommonOwner s size) = capacity part size
owner_bytes part (ThunkOwner id size) = capacity part size
owner_bytes part (EntryOwner e) = e.bytes

-- the image of a part's output section, by the lengths of all images, if it stands there
abbrev pub images_of : LinkInput → List ℕ → ℕ → List Owner
images_of link merged_lens p =
    let section = slice_index (part_sections link.plan.sections) p in
    if has_image link p then ImageOwner section (slice_index merged_lens section) ∷ [] else []

-- the bytes of the linker's identity, if it stands in a part: eight in front of its text, and a zero byte behind
abbrev pub identity_size : LinkInput → ℕ → Option ℕ
identity_size link p =
    if is_part p link.plan.named.comment then option_map (λ text. length text + 9) link.options.identity else None

-- the identity, if it stands there
abbrev pub identity_of : LinkInput → ℕ → List Owner
identity_of link p = option_to_list (option_map IdentityOwner (identity_size link p))

-- what stands in front of a part: the image, then the identity
abbrev pub leading_of : LinkInput → List ℕ → ℕ → List Owner
leading_of link merged_lens p = images_of link merged_lens p ++ identity_of link p

-- ---- what files bring, and sorted sections

-- one that takes bytes behind what leads in a part
pub record Taker : Type 0 where
  pub part : ℕ
  pub owner : Owner

-- the size of an input section, by those of all
abbrev pub size_in : LinkInput → List ℕ → Input → ℕ
size_in link sizes x = slice_index sizes (input_number link.groups x.file x.index)

-- that in a filling
abbrev pub size_of : Filling → Input → ℕ
size_of filling x = size_in filling.content.link filling.sizes x

-- a section with its size, in the part that it goes to
abbrev pub section_taker : Filling → Input → Taker
section_taker filling x = record { part = x.section.part; owner = SectionOwner x (size_of filling x) }

-- whether an input section stands with its file: it is live, and isn't sorted
abbrev pub stands_in_file : LinkInput → Live → Input → Bool
stands_in_file link live x = is_marked live.marks (input_number link.groups x.file x.index) && not x.section.sorted

-- those sections of a file, by index
abbrev pub live_of : LinkInput → Live → NumberedFile → List Input
live_of link live f = filter (stands_in_file link live) (inputs_from f.id 0 f.file.sections)

-- a common with its size, in its part
abbrev pub common_taker : Common → Taker
common_taker c = record { part = c.part; owner = CommonOwner c.symbol c.size }

-- the bytes of the block of thunks that a file owns among some, if it owns one
abbrev pub bytes_owned : List (FileId × ℕ) → FileId → Option ℕ
bytes_owned thunks id = option_map (λ q. q.1) (find (λ q. q.0.group == id.group && q.0.file == id.file) thunks)

-- that in a filling
abbrev pub thunk_bytes : Filling → FileId → Option ℕ
thunk_bytes filling id = bytes_owned filling.thunks id

-- the block of a file in a part, so many bytes long
abbrev pub thunk_taker : FileId → ℕ → ℕ → Taker
thunk_taker id p size = record { part = p; owner = ThunkOwner id size }

-- the block that a file owns, in the plan's primary part
abbrev pub thunk_takers : Filling → NumberedFile → List Taker
thunk_takers filling f =
    let primary = filling.content.link.plan.named.primary in
    option_to_list (option_and_then (λ p. option_map (thunk_taker f.id p) (thunk_bytes filling f.id)) primary)

-- what takes bytes for a file: its live sections that aren't sorted, then its commons, then the block of thunks that it owns
abbrev pub file_takers : Filling → NumberedFile → List Taker
file_takers filling f =
    map (section_taker filling) (live_of filling.content.link filling.content.live f)
    ++ (map common_taker (commons_of filling.content.link filling.content.live f) ++ thunk_takers filling f)

-- file by file
abbrev pub all_file_takers : Filling → List Taker
all_file_takers filling = flat_map (file_takers filling) (numbered_files filling.content.link.groups)

-- the live sorted sections, in the order of their names
abbrev pub sorted_takers : Filling → List Taker
sorted_takers filling = map (section_taker filling) (sorted_inputs filling.content.link filling.content.live)

-- all that takes bytes behind what leads: what files bring, and the sorted sections behind that
abbrev pub takers : Filling → List Taker
takers filling = all_file_takers filling ++ sorted_takers filling

-- those that take bytes of this part
abbrev pub owners_in : ℕ → List Taker → List Owner
owners_in p ts = map (λ t. t.owner) (filter (λ t. t.part == p) ts)

-- the owners of a part that are no entries of tables, in order: what leads, what files bring, then the sorted sections
abbrev pub content_owners : Filling → ℕ → List Owner
content_owners filling p = leading_of filling.content.link filling.content.merged_lens p ++ owners_in p (takers filling)

-- the bytes of some owners of a part
abbrev pub bytes_of : PlanPart → List Owner → ℕ
bytes_of part owners = sum_by (owner_bytes part) owners

-- those of a part's owners that are no entries of tables
abbrev pub content_size : Filling → ℕ → ℕ
content_size filling p = bytes_of (part_at filling.content.link.plan.sections p) (content_owners filling p)

-- an owner's address: its part's start, and the bytes of the owners before it (libwild: `finalise_layout`)
abbrev pub owner_address : ℕ → PlanPart → List Owner → ℕ → ℕ
owner_address start part owners k = start + bytes_of part (take k owners)

-- what is made for each part by its number
abbrev pub by_part : {X : Type 0} → (ℕ → X) → LinkInput → List X
by_part f link = map (λ q. f q.0) (enumerate_from 0 (all_parts link.plan.sections))

-- ---- first sizes

-- the owners that tell whether a part keeps its section: with the sizes that input sections have in the description, and the entries that
-- are known before it is known which sections are emitted
abbrev pub first_owners : Content → ℕ → List Owner
first_owners content p =
    content_owners (plain_filling content) p
    ++ map EntryOwner (table_of content.link.plan.named (first_tables content.sizes content.link content.live) p)

-- what they take
abbrev pub first_size : Content → ℕ → ℕ
first_size content p = bytes_of (part_at content.link.plan.sections p) (first_owners content p)

-- these tell what the first sizes tell: for each part, whether it has bytes
pub record AreFirstSizes (content : Content) (sizes : List ℕ) : Type 0 where
  pub count : length sizes ≡ length (all_parts content.link.plan.sections)
  pub each : (p : ℕ) → p < length sizes → nat_lt 0 (slice_index sizes p) ≡ nat_lt 0 (first_size content p)

-- ---- commons

-- a symbol with its number is a common of a part, so many bytes large: it is placed so, and gets a resolution
pub record IsCommonIn (link : LinkInput) (live : Live) (p s size : ℕ) : Type 0 where
  pub file : NumberedFile
  pub there : file_in link.groups file.id ≡ Some file.file
  pub index : ℕ
  pub symbol : InputSymbol
  pub stands : slice_get file.file.symbols index ≡ Some symbol
  pub number : s ≡ first_symbol link.groups file.id + index
  pub placed : symbol.at ≡ at.Common p size
  pub wanted : is_wanted file.file.kind s symbol (flags_at live.flags s) ≡ true
