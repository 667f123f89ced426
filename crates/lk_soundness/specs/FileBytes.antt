-- What stands in the file: each byte that a part takes there is one owner's.
use Rattle.std.specs.Prelude.{◌≡◌, ◌≢◌, ℕ, ◌+◌, ◌-◌, ◌<◌, ◌≤◌, true, false, Ok, Some, slice_get}
use Rattle.lk_link.specs.declared.link.LinkInput.{LinkInput}
use Rattle.lk_link.specs.declared.plan.Plan.{Plan}
use Rattle.lk_link.specs.Inputs.{Input}
use Rattle.lk_link.specs.Parts.{part_at}
use Rattle.lk_link.specs.PlanSections.{is_file_backed}
use Rattle.lk_expressions.specs.Records.{Record, file_end, record_at}
use Rattle.lk_live.specs.declared.live.Live.{Live}
use Rattle.lk_place.specs.Ranges.{HasPart, IsInFile}
use Rattle.lk_relax.specs.Stages.{Stage}
use Rattle.lk_sizes.specs.declared.addresses.LiveSection.{LiveSection}
use Rattle.lk_sizes.specs.Owners.{Owner, bytes_of, owner_address, owner_bytes}
use Rattle.lk_sizes.specs.PartOwners.{owner_number, owners_of}
use Rattle.lk_size_laws.specs.Tiles.{HasByte}
use Rattle.lk_layout.specs.Defined.{IsDefined}
use Rattle.lk_layout.specs.LayoutRecord.{LayoutRecord}
use Rattle.lk_layout.specs.Machines.{IsLawfulMachine, Machine}
use Rattle.lk_layout.specs.Made.{Made, made_filling, made_of}
use Rattle.lk_soundness.specs.Sound.{IsSound, IsTold, part_record}

-- part p is one of a section whose bytes stand in the file
pub record IsFileBacked (plan : Plan) (p : ℕ) : Type 0 where
  pub section : ℕ
  pub part : HasPart plan section p
  pub backed : is_file_backed plan section ≡ true

-- where the byte at an address of a part stands in the file: as far behind the part's start as in memory
abbrev pub file_place : Record → ℕ → ℕ
file_place part address = part.file_offset + (address - part.mem_offset)

-- this offset of the file holds a byte of owner k of part p
pub record HasFileByte (made : Made) (layout : LayoutRecord) (p k offset : ℕ) : Type 0 where
  pub in_file : IsFileBacked made.link.plan p
  pub address : ℕ
  pub byte : HasByte (part_record layout p).mem_offset (part_at made.link.plan.sections p) (owners_of (made_filling made) p) k address
  pub place : offset ≡ file_place (part_record layout p) address

-- no byte of the file has two owners, of any kind: live sections, images, commons, entries of tables, thunks, the linker's identity
abbrev pub OwnersShareNoFileByte : Made → LayoutRecord → Type 0
OwnersShareNoFileByte made layout = (p q j k offset : ℕ) → HasFileByte made layout p j offset → HasFileByte made layout q k offset
    → (p ≡ q) × (j ≡ k)

-- a part whose section's bytes stand in the file takes the bytes of its owners there, and any other none
pub record TakesItsOwners (made : Made) (layout : LayoutRecord) (s p : ℕ) : Type 0 where
  pub backed : is_file_backed made.link.plan s ≡ true → (part_record layout p).file_size ≡ bytes_of (part_at made.link.plan.sections p) (owners_of (made_filling made) p)
  pub not_backed : is_file_backed made.link.plan s ≡ false → (part_record layout p).file_size ≡ 0

abbrev pub PartsTakeTheirOwners : Made → LayoutRecord → Type 0
PartsTakeTheirOwners made layout = (s p : ℕ) → HasPart made.link.plan s p → TakesItsOwners made layout s p

-- each byte of it there has an owner
abbrev pub FileBytesHaveOwners : Made → LayoutRecord → Type 0
FileBytesHaveOwners made layout = (p offset : ℕ) → IsFileBacked made.link.plan p → IsInFile offset (part_record layout p)
    → (k : ℕ) × HasFileByte made layout p k offset

-- an owner with this address and so many bytes doesn't stand before its part in memory, and lies in the file range of its output section
pub record StandsInside (part section : Record) (address bytes : ℕ) : Type 0 where
  pub behind : part.mem_offset ≤ address
  pub from : section.file_offset ≤ file_place part address
  pub ends : file_place part address + bytes ≤ file_end section

-- so does each
abbrev pub OwnersStandInTheirSections : Made → LayoutRecord → Type 0
OwnersStandInTheirSections made layout = (p k : ℕ) (o : Owner) → slice_get (owners_of (made_filling made) p) k ≡ Some o
    → (backed : IsFileBacked made.link.plan p)
    → StandsInside (part_record layout p) (record_at layout.section_layouts backed.section)
    (owner_address (part_record layout p).mem_offset (part_at made.link.plan.sections p) (owners_of (made_filling made) p) k)
    (owner_bytes (part_at made.link.plan.sections p) o)

-- ---- live sections

-- this offset lies in the bytes of the file that belong to a live section
pub record IsInFileOf (layout : LayoutRecord) (x : Input) (l : LiveSection) (offset : ℕ) : Type 0 where
  pub begins : file_place (part_record layout x.section.part) l.address ≤ offset
  pub ends : offset < file_place (part_record layout x.section.part) l.address + l.size

-- they are those of the section as an owner of its part
abbrev pub LiveSectionsOwnTheirFileBytes : Made → LayoutRecord → Type 0
LiveSectionsOwnTheirFileBytes made layout = (a offset : ℕ) (x : Input) (l : LiveSection) → IsTold made layout a x l
    → IsFileBacked made.link.plan x.section.part → IsInFileOf layout x l offset
    → HasFileByte made layout x.section.part (owner_number (made_filling made) x) offset

-- so no byte of the file has two
abbrev pub LiveSectionsShareNoFileByte : Made → LayoutRecord → Type 0
LiveSectionsShareNoFileByte made layout = (a b offset : ℕ) (x y : Input) (l m : LiveSection) → a ≢ b
    → IsTold made layout a x l → IsTold made layout b y m
    → IsFileBacked made.link.plan x.section.part → IsFileBacked made.link.plan y.section.part
    → IsInFileOf layout x l offset → IsInFileOf layout y m offset → ⊥

-- ---- the law

-- what holds of the file of a layout, under every plan
pub record IsSoundInFile (made : Made) (layout : LayoutRecord) : Type 0 where
  pub taken : PartsTakeTheirOwners made layout
  pub have : FileBytesHaveOwners made layout
  pub owners : OwnersShareNoFileByte made layout
  pub inside : OwnersStandInTheirSections made layout
  pub owned : LiveSectionsOwnTheirFileBytes made layout
  pub apart : LiveSectionsShareNoFileByte made layout

-- the file of a defined layout is sound, under every plan
abbrev pub LaidOutFileHasOneOwner : Type 0
LaidOutFileHasOneOwner = (machine : Machine) (link : LinkInput) (layout : LayoutRecord)
    → IsLawfulMachine machine → IsDefined machine link (Ok layout)
    → (live : Live) × (stage : Stage) × (let made = made_of machine link live stage in IsSound made layout × IsSoundInFile made layout)
