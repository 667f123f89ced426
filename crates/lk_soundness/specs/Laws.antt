-- Laws: a defined layout is sound, and what symbols stand for is live.
use Rattle.std.specs.Prelude.{◌≡◌, ℕ, ◌+◌, true, false, [], Some, Ok, slice_get}
use Rattle.lk_link.specs.declared.file.InputFile.{InputFile}
use Rattle.lk_link.specs.declared.ids.FileId.{FileId}
use Rattle.lk_link.specs.declared.link.LinkInput.{LinkInput}
use Rattle.lk_link.specs.declared.section.InputSection.{InputSection}
use Rattle.lk_link.specs.declared.symbol.InputSymbol.{InputSymbol}
use Rattle.lk_link.specs.FileKinds.{is_object}
use Rattle.lk_link.specs.Files.{file_in}
use Rattle.lk_link.specs.Inputs.{input_number}
use Rattle.lk_link.specs.InputSlots.{is_merge}
use Rattle.lk_link.specs.Marks.{is_marked}
use Rattle.lk_link.specs.SymbolPlacements.{section_of}
use Rattle.lk_link.specs.Symbols.{first_symbol}
use Rattle.lk_link.specs.WellFormed.{IsWellFormed}
use Rattle.lk_live.specs.declared.live.Live.{Live}
use Rattle.lk_live.specs.Faults.{reference_faults}
use Rattle.lk_live.specs.Reach.{AreLive}
use Rattle.lk_place_laws.specs.Plans.{IsUnmoved}
use Rattle.lk_place_laws.specs.MemoryRanges.{MemoryIsDisjoint}
use Rattle.lk_relax.specs.Stages.{Stage}
use Rattle.lk_tables.specs.SymbolEntries.{is_resolved}
use Rattle.lk_layout.specs.LayoutRecord.{LayoutRecord}
use Rattle.lk_layout.specs.Defined.{IsDefined}
use Rattle.lk_layout.specs.Machines.{IsLawfulMachine, Machine}
use Rattle.lk_layout.specs.Made.{made_of}
use Rattle.lk_soundness.specs.Sound.{IsApartInMemory, IsSound}

-- a defined layout is sound
abbrev pub DefinedLayoutsAreSound : Type 0
DefinedLayoutsAreSound = (machine : Machine) (link : LinkInput) (layout : LayoutRecord)
    → IsLawfulMachine machine → IsDefined machine link (Ok layout)
    → (live : Live) × (stage : Stage) × IsSound (made_of machine link live stage) layout

-- under a plan in which nothing moves, the memory of a defined layout is disjoint, also if the plan isn't plain
abbrev pub LaidOutMemoryIsDisjoint : Type 0
LaidOutMemoryIsDisjoint = (machine : Machine) (link : LinkInput) (layout : LayoutRecord) → IsUnmoved link.plan link.options.output
    → IsLawfulMachine machine → IsDefined machine link (Ok layout) → MemoryIsDisjoint link.plan layout.section_part_layouts

-- and so is all of it: its live sections are, and the owners of its parts, nor does an image share an address with a live section, or with another
-- image
abbrev pub LaidOutSectionsAreApart : Type 0
LaidOutSectionsAreApart = (machine : Machine) (link : LinkInput) (layout : LayoutRecord) → IsUnmoved link.plan link.options.output
    → IsLawfulMachine machine → IsDefined machine link (Ok layout)
    → (live : Live) × (stage : Stage) × (let made = made_of machine link live stage in IsSound made layout × IsApartInMemory made layout)

-- a symbol of an object has a resolution, and stands for a place in the section with this index
pub record IsResolvedIn (link : LinkInput) (live : Live) (id : FileId) (file : InputFile) (i : ℕ) : Type 0 where
  pub index : ℕ
  pub symbol : InputSymbol
  pub object : is_object file.kind ≡ true
  pub there : slice_get file.symbols index ≡ Some symbol
  pub at : section_of symbol.at ≡ Some i
  pub resolved : is_resolved live file.kind (first_symbol link.groups id + index, symbol) ≡ true

-- that section is live, unless its data is merged
abbrev pub SymbolsStandInLiveSections : LinkInput → Live → Type 0
SymbolsStandInLiveSections link live = (id : FileId) (file : InputFile) (i : ℕ) (section : InputSection)
    → file_in link.groups id ≡ Some file → IsResolvedIn link live id file i → slice_get file.sections i ≡ Some section
    → is_merge section.slot ≡ false → is_marked live.marks (input_number link.groups id i) ≡ true

-- where references are met, a symbol that has a resolution stands in a live section
abbrev pub ResolvedSectionsAreLive : Type 0
ResolvedSectionsAreLive = (link : LinkInput) (live : Live) → IsWellFormed link → AreLive link live → reference_faults link ≡ []
    → SymbolsStandInLiveSections link live
