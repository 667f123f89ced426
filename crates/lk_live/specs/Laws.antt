-- Laws on what is live.
use Rattle.std.specs.Prelude.{◌≡◌, ◌⊎◌, ℕ, true, false, Some, slice_get}
use Rattle.lk_link.specs.declared.file.InputFile.{InputFile}
use Rattle.lk_link.specs.declared.link.LinkInput.{LinkInput}
use Rattle.lk_link.specs.FileKinds.{is_object}
use Rattle.lk_link.specs.Files.{file_in}
use Rattle.lk_link.specs.Inputs.{Input, all_inputs}
use Rattle.lk_link.specs.InputSlots.{can_be_kept}
use Rattle.lk_link.specs.WellFormed.{IsWellFormed}
use Rattle.lk_live.specs.declared.live.Live.{Live}
use Rattle.lk_reach.specs.declared.units.Unit.{Unit as LinkUnit}
use Rattle.lk_live.specs.Reach.{AreLive, IsLive}
use Rattle.lk_reach.specs.Reach.{IsReached}
use Rattle.lk_reach.specs.Units.{AsksFor, IsRoot, comes_along, is_root, unit_of}

-- every well-formed link has its live sections
abbrev pub LiveExists : Type 0
LiveExists = (link : LinkInput) → IsWellFormed link → (live : Live) × AreLive link live

-- what is live of a link is one
abbrev pub LiveIsOne : Type 0
LiveIsOne = (link : LinkInput) (a b : Live) → AreLive link a → AreLive link b → a ≡ b

-- a section of an object that its file asks for is live: one that is kept in any case, and without collection any that can be
abbrev pub RootsAreLive : Type 0
RootsAreLive = (link : LinkInput) (k : ℕ) (x : Input) (file : InputFile) → slice_get (all_inputs link.groups) k ≡ Some x
    → file_in link.groups x.file ≡ Some file → is_object file.kind ≡ true
    → is_root link.options.gc x.section.slot ≡ true → IsLive link x

-- without collection each section of an object that can be kept is live
abbrev pub AllIsLive : Type 0
AllIsLive = (link : LinkInput) (k : ℕ) (x : Input) (file : InputFile) → slice_get (all_inputs link.groups) k ≡ Some x
    → file_in link.groups x.file ≡ Some file → is_object file.kind ≡ true
    → link.options.gc ≡ false → can_be_kept x.section.slot ≡ true → IsLive link x

-- a section group stays together: with a member that is live, each other one that comes along is
abbrev pub GroupsStayTogether : Type 0
GroupsStayTogether = (link : LinkInput) (j k : ℕ) (x y : Input) (group : ℕ) → slice_get (all_inputs link.groups) j ≡ Some x
    → slice_get (all_inputs link.groups) k ≡ Some y → y.file ≡ x.file
    → x.section.group ≡ Some group → y.section.group ≡ Some group → comes_along y.section.slot ≡ true → IsLive link x → IsLive link y

-- a root asks for a unit, or a unit that is reached does
abbrev pub IsAskedFor : LinkInput → LinkUnit → Type 0
IsAskedFor link unit = IsRoot link unit ⊎ ((u : LinkUnit) × IsReached link u × AsksFor link u unit)

-- a section that is asked for, by a root or by a unit that is reached, and that can be kept, is live
abbrev pub AskedForIsLive : Type 0
AskedForIsLive = (link : LinkInput) (x : Input) → IsAskedFor link (unit_of x) → can_be_kept x.section.slot ≡ true → IsLive link x

-- what is live was asked for
abbrev pub LiveWasAskedFor : Type 0
LiveWasAskedFor = (link : LinkInput) (x : Input) → IsLive link x → IsAskedFor link (unit_of x)
