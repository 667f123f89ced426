-- What the code goes by: lists by part, and marks of sections. Contracts of private functions speak of these.
use Rattle.std.specs.Prelude.{◌≡◌, ℕ, ◌+◌, ◌-◌, ◌^◌, ◌<◌, ◌==◌, ◌&&◌, ◌||◌, not, Bool, if◌then◌else◌, List, ◌∷◌, ◌++◌, Option, Some, IsSome, option_and_then, option_map, filter, length, map, min, nat_le, position, slice_get, slice_index, slice_range, sum_by, take, unwrap_or}
use Rattle.std.specs.List.{enumerate_from, flat_map, list_any, slice_index_or}
use Rattle.std.specs.Option.{option_map_or, option_to_list}
use Rattle.lk_link.specs.declared.ids.FileId.{FileId}
use Rattle.lk_link.specs.declared.link.LinkInput.{LinkInput}
use Rattle.lk_link.specs.declared.plan.NamedParts.{NamedParts}
use Rattle.lk_link.specs.declared.plan.OrderEvent.{OrderEvent}
use Rattle.lk_link.specs.declared.plan.PlanSection.{PlanSection}
use Rattle.lk_link.specs.Files.{file_in}
use Rattle.lk_link.specs.Inputs.{Input, NumberedFile, all_inputs, input_number, inputs_from, numbered_files}
use Rattle.lk_link.specs.Inside.{placed_section}
use Rattle.lk_link.specs.Marks.{is_marked}
use Rattle.lk_link.specs.OutputKinds.{is_partial}
use Rattle.lk_link.specs.Parts.{all_parts, first_part, part_at}
use Rattle.lk_live.specs.declared.live.Live.{Live}
use Rattle.lk_live.specs.Reach.{live_inputs}
use Rattle.lk_tables.specs.HeaderParts.{told_sum}
use Rattle.lk_tables.specs.TableLists.{TableLists, table_bytes}
use Rattle.lk_sizes.specs.declared.addresses.CommonAddress.{CommonAddress}
use Rattle.lk_tables.specs.declared.commons.Common.{Common}
use Rattle.lk_sizes.specs.declared.owners.PartTotal.{PartTotal}
use Rattle.lk_sizes.specs.Emitted.{has_content, is_told}
use Rattle.lk_sizes.specs.declared.sorted.InputSortedSection.{InputSortedSection}
use Rattle.lk_sizes.specs.Owners.{SectionOwner, Taker, bytes_of, bytes_owned, common_taker, commons_of, leading_of, live_of, owners_in, stands_in_file, thunk_taker}

-- of what is listed by part, that of a section's parts
abbrev pub in_section : {X : Type 0} → List PlanSection → ℕ → List X → List X
in_section sections s xs = slice_range xs (first_part sections s) (first_part sections (s + 1))

-- whether symbols at the edges of a section are told, by marks of emitted ones
abbrev pub edges_by : LinkInput → List Bool → ℕ → Bool
edges_by link emitted s = is_marked emitted s && (not (is_partial link.options.output) || has_content link.plan s)

-- how many emitted sections an event places, by marks of these
abbrev pub placed_count : List Bool → OrderEvent → ℕ
placed_count emitted e = option_map_or (λ s. if is_marked emitted s then 1 else 0) (placed_section e) 0

-- it is one of the link's input sections
abbrev pub IsInput : LinkInput → Input → Type 0
IsInput link x = slice_get (all_inputs link.groups) (input_number link.groups x.file x.index) ≡ Some x

-- the bytes that some takers bring to a part
abbrev pub bytes_in : LinkInput → ℕ → List Taker → ℕ
bytes_in link p ts = bytes_of (part_at link.plan.sections p) (owners_in p ts)

-- a section with its size, in the part that it goes to
abbrev pub taker_by : (Input → ℕ) → Input → Taker
taker_by size x = record { part = x.section.part; owner = SectionOwner x (size x) }

-- what takes bytes for a file where sections have such sizes, and it owns no block of thunks
abbrev pub file_takers_by : (Input → ℕ) → LinkInput → Live → NumberedFile → List Taker
file_takers_by size link live f = map (taker_by size) (live_of link live f) ++ map common_taker (commons_of link live f)

-- the bytes that live sections of these sizes bring to a part
abbrev pub live_size : (Input → ℕ) → LinkInput → Live → ℕ → ℕ
live_size size link live p = bytes_in link p (map (taker_by size) (live_inputs link live))

-- the bytes that commons bring to a part
abbrev pub commons_size : LinkInput → ℕ → List Common → ℕ
commons_size link p cs = bytes_in link p (map common_taker cs)

-- each part's total gains what these commons bring to it; sums are told apart below 2^64
pub record AreAdded (link : LinkInput) (cs : List Common) (old new : List PartTotal) : Type 0 where
  pub count : length new ≡ length old
  pub bytes : (p : ℕ) (d : PartTotal) → p < length old
      → min (slice_index_or new p d).bytes (2 ^ 64) ≡ min ((slice_index_or old p d).bytes + commons_size link p cs) (2 ^ 64)
  pub image : (p : ℕ) (d : PartTotal) → p < length old → (slice_index_or new p d).has_image ≡ (slice_index_or old p d).has_image
  pub attrs : (p : ℕ) (d : PartTotal) → p < length old → (slice_index_or new p d).attrs ≡ (slice_index_or old p d).attrs

-- ---- entries

-- a total with so many bytes of entries
abbrev pub with_entries : PartTotal → ℕ → PartTotal
with_entries t more = record { bytes = min (t.bytes + more) (2 ^ 128 - 1); has_image = t.has_image; attrs = t.attrs }

-- that of the part with this number, with the entries there of these tables
abbrev pub with_table : NamedParts → TableLists → ℕ × PartTotal → PartTotal
with_table named lists q = with_entries q.1 (told_sum (table_bytes named lists q.0))

-- those of all parts
abbrev pub with_tables : NamedParts → TableLists → List PartTotal → List PartTotal
with_tables named lists totals = map (with_table named lists) (enumerate_from 0 totals)

-- ---- addresses

-- the next address of a part behind some takers, by a table of the next ones before them
abbrev pub next_behind : LinkInput → List ℕ → List Taker → ℕ → ℕ
next_behind link next ts p = slice_index next p + bytes_in link p ts

-- those takers fit below 2^64 in each part
abbrev pub HaveSpace : LinkInput → List ℕ → List Taker → Type 0
HaveSpace link next ts = (p : ℕ) → p < length next → next_behind link next ts p < 2 ^ 64

-- the next addresses have moved on behind them
pub record ArePassed (link : LinkInput) (old : List ℕ) (ts : List Taker) (new : List ℕ) : Type 0 where
  pub count : length new ≡ length old
  pub moved : (p : ℕ) → p < length old → slice_index new p ≡ next_behind link old ts p

-- those of the first sections of a file that are live and aren't sorted
abbrev pub live_below : LinkInput → Live → NumberedFile → ℕ → List Input
live_below link live f k = filter (stands_in_file link live) (take k (inputs_from f.id 0 f.file.sections))

-- the next address for each section of a file that is live and isn't sorted; 0 for others
abbrev pub section_place : (Input → ℕ) → LinkInput → Live → List ℕ → NumberedFile → ℕ × Input → ℕ
section_place size link live next f q =
    if stands_in_file link live q.1
    then next_behind link next (map (taker_by size) (live_below link live f q.0)) q.1.section.part
    else 0

abbrev pub section_places : (Input → ℕ) → LinkInput → Live → List ℕ → NumberedFile → List ℕ
section_places size link live next f = map (section_place size link live next f) (enumerate_from 0 (inputs_from f.id 0 f.file.sections))

-- the number of a sorted section over all files
abbrev pub sorted_number : LinkInput → InputSortedSection → ℕ
sorted_number link s = input_number link.groups s.file_id s.section_index

-- the bytes that some of them take in a part
abbrev pub sorted_bytes : ℕ → List InputSortedSection → ℕ
sorted_bytes p ss = sum_by (λ s. s.size) (filter (λ s. s.part_id == p) ss)

-- each is one of the link's sections, and goes to one of so many parts
pub record IsSortedThere (link : LinkInput) (parts : ℕ) (s : InputSortedSection) : Type 0 where
  pub file : IsSome (file_in link.groups s.file_id)
  pub number : sorted_number link s < length (all_inputs link.groups)
  pub part : s.part_id < parts

abbrev pub AreSortedThere : LinkInput → ℕ → List InputSortedSection → Type 0
AreSortedThere link parts ss = (k : ℕ) (s : InputSortedSection) → slice_get ss k ≡ Some s → IsSortedThere link parts s

-- there is space for them in each part
abbrev pub HaveSortedSpace : List ℕ → List InputSortedSection → Type 0
HaveSortedSpace next ss = (p : ℕ) → p < length next → slice_index next p + sorted_bytes p ss < 2 ^ 64

-- each gets the next address of its part, and that is what a table has for it
abbrev pub AreTheirs : LinkInput → (ℕ → ℕ) → List ℕ → List InputSortedSection → Type 0
AreTheirs link table next ss = (k : ℕ) (s : InputSortedSection) → slice_get ss k ≡ Some s
    → table (sorted_number link s) ≡ slice_index next s.part_id + sorted_bytes s.part_id (take k ss)

-- what that table has for them was written into another, and nothing else
pub record AreWritten (link : LinkInput) (table : ℕ → ℕ) (ss : List InputSortedSection) (old new : List ℕ) : Type 0 where
  pub count : length new ≡ length old
  pub each : (n : ℕ) → n < length old
      → slice_index new n ≡ (if list_any (λ s. sorted_number link s == n) ss then table n else slice_index old n)

-- the next addresses are behind these sorted sections
pub record AreBehind (old : List ℕ) (ss : List InputSortedSection) (new : List ℕ) : Type 0 where
  pub count : length new ≡ length old
  pub moved : (p : ℕ) → p < length old → slice_index new p ≡ slice_index old p + sorted_bytes p ss

-- the next address for each of these commons
abbrev pub common_place : LinkInput → List ℕ → List Common → ℕ × Common → CommonAddress
common_place link next cs q = record { symbol = q.1.symbol; address = next_behind link next (map common_taker (take q.0 cs)) q.1.part }

abbrev pub common_places : LinkInput → List ℕ → List Common → List CommonAddress
common_places link next cs = map (common_place link next cs) (enumerate_from 0 cs)

-- the place of the first of some commons whose symbol has this number or a greater one; where none has, their length
abbrev pub reach_from : ℕ → List Common → ℕ
reach_from end cs = unwrap_or (position (λ (c : Common). nat_le end c.symbol) cs) (length cs)

-- each of these goes to a part
abbrev pub CommonsGo : LinkInput → List Common → Type 0
CommonsGo link cs = (k : ℕ) (c : Common) → slice_get cs k ≡ Some c → c.part < length (all_parts link.plan.sections)

-- those of a file, and of the files behind it
pub record AreLeft (link : LinkInput) (live : Live) (f : NumberedFile) (left : List Common) : Type 0 where
  pub done : List NumberedFile
  pub rest : List NumberedFile
  pub files : numbered_files link.groups ≡ done ++ f ∷ rest
  pub commons : left ≡ commons_of link live f ++ flat_map (commons_of link live) rest

-- ---- blocks of thunks

-- a file's own block, so many bytes long, if it owns one
abbrev pub own_block : FileId → Option ℕ → List (FileId × ℕ)
own_block id size = option_to_list (option_map (λ n. (id, n)) size)

-- the one that a file owns among some
abbrev pub blocks_of : List (FileId × ℕ) → NumberedFile → List (FileId × ℕ)
blocks_of thunks f = own_block f.id (bytes_owned thunks f.id)

-- those of a file, and of the files behind it
pub record AreBlocksLeft (link : LinkInput) (thunks : List (FileId × ℕ)) (f : NumberedFile) (left : List (FileId × ℕ)) : Type 0 where
  pub done : List NumberedFile
  pub rest : List NumberedFile
  pub files : numbered_files link.groups ≡ done ++ f ∷ rest
  pub blocks : left ≡ blocks_of thunks f ++ flat_map (blocks_of thunks) rest

-- what a file's block takes, in the plan's primary part
abbrev pub block_takers : LinkInput → FileId → Option ℕ → List Taker
block_takers link id size = option_to_list (option_and_then (λ p. option_map (thunk_taker id p) size) link.plan.named.primary)

-- the next address for it; 0 where the plan names no primary part
abbrev pub block_places : LinkInput → List ℕ → Option ℕ → List ℕ
block_places link next size = option_to_list (option_map (λ n. option_map_or (slice_index next) link.plan.named.primary 0) size)

-- ---- what leads

-- where what leads in a part ends, the image and the identity; where nothing does, the part starts there
abbrev pub behind_leading : LinkInput → List ℕ → List ℕ → ℕ → ℕ
behind_leading link merged_lens starts p = slice_index starts p + bytes_of (part_at link.plan.sections p) (leading_of link merged_lens p)

-- whether a segment is active, by marks of emitted sections
abbrev pub active_by : LinkInput → List Bool → ℕ → Bool
active_by link emitted i = is_told link (is_marked emitted) i
