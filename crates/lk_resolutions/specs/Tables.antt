-- What the code goes by: places by marks and tables, and the room behind them. Contracts of private functions speak of this.
use Rattle.std.specs.Prelude.{◌≡◌, ℕ, ◌+◌, ◌<◌, ◌≤◌, ◌^◌, Bool, true, if◌then◌else◌, List, All, AllPairs, Option, Some, None, ◌==◌, find, option_map, slice_get}
use Rattle.std.specs.List.{slice_index_or}
use Rattle.std.specs.Option.{option_map_or}
use Rattle.lk_sizes.specs.declared.addresses.CommonAddress.{CommonAddress}
use Rattle.lk_link.specs.declared.file.InputFile.{InputFile}
use Rattle.lk_link.specs.declared.ids.FileId.{FileId}
use Rattle.lk_link.specs.declared.section.InputSection.{InputSection}
use Rattle.lk_link.specs.declared.symbol.SymbolPlacement.{SymbolPlacement}
use Rattle.lk_link.specs.declared.symbol.SymbolPlacement.TheVariants as at
use Rattle.lk_link.specs.Files.{file_in}
use Rattle.lk_link.specs.Inputs.{all_inputs, input_number}
use Rattle.lk_link.specs.Marks.{is_marked}
use Rattle.lk_link.specs.declared.link.LinkInput.{LinkInput}
use Rattle.lk_link.specs.WellFormed.{IsWellFormed}
use Rattle.lk_merge.specs.Addresses.{AreStartsOf}
use Rattle.lk_merge.specs.LinkInputs.{link_inputs}
use Rattle.lk_merge.specs.Pieces.{MergeInput}
use Rattle.lk_deltas.specs.LinkDeletions.{Deletions, output_offset}

-- ---- places in input sections

-- the address at an offset of an input section, by what is deleted, marks and a table of the sections' addresses
abbrev pub place_in : List (List InputFile) → Deletions → List Bool → List ℕ → ℕ → ℕ → Option ℕ
place_in groups deletions marks addresses k offset =
    if is_marked marks k
    then option_map (λ x. slice_index_or addresses k 0 + output_offset groups deletions x.file x.index offset) (slice_get (all_inputs groups) k)
    else None

-- an offset of a section of a file lies in the section, and what is left of that ends below 2^64
pub record IsInside (groups : List (List InputFile)) (deletions : Deletions) (addresses : List ℕ) (id : FileId) (i offset : ℕ) : Type 0 where
  pub section : InputSection
  pub there : slice_get (all_inputs groups) (input_number groups id i) ≡ Some (record { file = id; index = i; section = section })
  pub inside : offset ≤ section.size
  pub room : slice_index_or addresses (input_number groups id i) 0 + output_offset groups deletions id i section.size < 2 ^ 64

-- so it is with a place in a marked section
abbrev pub StandsInside : List (List InputFile) → Deletions → List Bool → List ℕ → FileId → SymbolPlacement → Type 0
StandsInside groups deletions marks addresses id (at.Section i offset) = is_marked marks (input_number groups id i) ≡ true
    → IsInside groups deletions addresses id i offset
StandsInside groups deletions marks addresses id _ = Unit {0}

-- and with the place of each symbol
abbrev pub AllStandInside : List (List InputFile) → Deletions → List Bool → List ℕ → Type 0
AllStandInside groups deletions marks addresses = (id : FileId) (file : InputFile) → file_in groups id ≡ Some file
    → All (λ x. StandsInside groups deletions marks addresses id x.at) file.symbols

-- ---- merged sections and commons

-- the merged sections of a well-formed link, with addresses of their buckets
pub record AreMergedOf (link : LinkInput) (merged : List (List MergeInput)) (addresses : List ℕ) : Type 0 where
  pub good : IsWellFormed link
  pub sections : merged ≡ (link_inputs link).outputs
  pub starts : AreStartsOf merged addresses

-- the address that a table has for the common with this symbol; 0 where it has none
abbrev pub common_in : List CommonAddress → ℕ → ℕ
common_in commons s = option_map_or (λ c. c.address) (find (λ c. c.symbol == s) commons) 0

-- the commons of a table stand in the order of their symbols
abbrev pub AreRising : List CommonAddress → Type 0
AreRising commons = AllPairs (λ c d. c.symbol < d.symbol) commons
