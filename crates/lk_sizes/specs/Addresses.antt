-- The live sections, commons and blocks of thunks with their addresses.
use Rattle.std.specs.Prelude.{◌≡◌, ℕ, ◌<◌, Bool, if◌then◌else◌, List, Some, map, slice_get, slice_index}
use Rattle.lk_live.specs.declared.live.Live.{Live}
use Rattle.std.specs.List.{enumerate_from}
use Rattle.std.specs.Option.{option_map_or}
use Rattle.lk_link.specs.declared.ids.FileId.{FileId}
use Rattle.lk_link.specs.declared.link.LinkInput.{LinkInput}
use Rattle.lk_link.specs.Inputs.{Input, all_inputs}
use Rattle.lk_link.specs.Marks.{is_marked}
use Rattle.lk_live.specs.Reach.{live_inputs, marked}
use Rattle.lk_sizes.specs.declared.addresses.CommonAddress.{CommonAddress}
use Rattle.lk_sizes.specs.declared.addresses.LiveSection.{LiveSection}
use Rattle.lk_tables.specs.declared.commons.Common.{Common}
use Rattle.lk_sizes.specs.Owners.{Filling, all_commons, own_sizes, size_of}
use Rattle.lk_sizes.specs.PartOwners.{block_address, common_address, live_address}

-- a live section, with the address that it has among the owners of its part, by the starts of all parts in memory
abbrev pub live_section : Filling → List ℕ → Input → LiveSection
live_section filling starts x = record {
  file = x.file;
  index = x.index;
  address = live_address filling starts x;
  size = size_of filling x;
}

-- all live sections, by file and index
abbrev pub live_sections : Filling → List ℕ → List LiveSection
live_sections filling starts = map (live_section filling starts) (live_inputs filling.content.link filling.content.live)

-- ---- by number

-- the address of an input section with its number over all files; 0 where it isn't live
abbrev pub section_address : Filling → List ℕ → ℕ × Input → ℕ
section_address filling starts q = if is_marked filling.content.live.marks q.0 then live_address filling starts q.1 else 0

-- that of each input section, by number
abbrev pub section_addresses : Filling → List ℕ → List ℕ
section_addresses filling starts =
    map (section_address filling starts) (enumerate_from 0 (all_inputs filling.content.link.groups))

-- an input section with its number, told with the address that a table has there
abbrev pub told_section : List ℕ → ℕ × Input → LiveSection
told_section addresses q = record { file = q.1.file; index = q.1.index; address = slice_index addresses q.0; size = q.1.section.size }

-- the input sections that have a mark, told by a table of addresses
abbrev pub told_sections : LinkInput → List Bool → List ℕ → List LiveSection
told_sections link marks addresses = map (told_section addresses) (marked marks (enumerate_from 0 (all_inputs link.groups)))

-- told by that table, the live sections have their addresses, where each has the size of the description
abbrev pub TableTellsLiveSections : Type 0
TableTellsLiveSections = (filling : Filling) (starts : List ℕ) → filling.sizes ≡ own_sizes filling.content.link
    → told_sections filling.content.link filling.content.live.marks (section_addresses filling starts) ≡ live_sections filling starts

-- ---- commons

-- a common, told with its address
abbrev pub told_common : Filling → List ℕ → Common → CommonAddress
told_common filling starts c = record { symbol = c.symbol; address = common_address filling starts c.part c.symbol }

-- all commons that take bytes, by file and index
abbrev pub common_addresses : Filling → List ℕ → List CommonAddress
common_addresses filling starts = map (told_common filling starts) (all_commons filling.content.link filling.content.live)

-- they stand in the order of their symbols, each once
abbrev pub CommonsRise : Type 0
CommonsRise = (link : LinkInput) (live : Live) (j k : ℕ) (c d : Common) → j < k → slice_get (all_commons link live) j ≡ Some c
    → slice_get (all_commons link live) k ≡ Some d → c.symbol < d.symbol

-- ---- blocks of thunks

-- the address of the block that a file owns, in the plan's primary part; 0 where the plan names none
abbrev pub primary_address : Filling → List ℕ → FileId → ℕ
primary_address filling starts id = option_map_or (λ p. block_address filling starts p id) filling.content.link.plan.named.primary 0

-- those of all blocks, in the order of their files
abbrev pub block_addresses : Filling → List ℕ → List ℕ
block_addresses filling starts = map (λ q. primary_address filling starts q.0) filling.thunks
