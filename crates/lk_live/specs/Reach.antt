-- What is live.
use Rattle.std.specs.Prelude.{◌≡◌, ◌≢◌, ◌↔◌, ◌⊎◌, ℕ, ◌+◌, ◌<◌, ◌==◌, ◌&&◌, not, Bool, true, false, if◌then◌else◌, List, [], ◌∷◌, Option, Some, None, Result, Ok, Err, length, slice_get}
use Rattle.std.specs.Int.{bit_at}
use Rattle.std.specs.List.{slice_index_or}
use Rattle.lk_link.specs.declared.flags.ValueFlags.{ValueFlags}
use Rattle.lk_link.specs.declared.file.InputFile.{InputFile}
use Rattle.lk_link.specs.declared.ids.FileId.{FileId}
use Rattle.lk_link.specs.declared.link.LinkInput.{LinkInput}
use Rattle.lk_link.specs.declared.symbol.InputSymbol.{InputSymbol}
use Rattle.lk_link.specs.declared.symbol.SymbolLoc.TheVariants as loc
use Rattle.lk_link.specs.declared.symbol.SymbolPlacement.{SymbolPlacement}
use Rattle.lk_link.specs.declared.symbol.SymbolPlacement.TheVariants as at
use Rattle.lk_link.specs.FileKinds.{is_script}
use Rattle.lk_link.specs.Files.{file_in}
use Rattle.lk_link.specs.Inputs.{Input, all_inputs}
use Rattle.lk_link.specs.InputSlots.{can_be_kept, is_debug}
use Rattle.lk_link.specs.PartRules.{is_part_of}
use Rattle.lk_link.specs.Symbols.{all_symbols, first_symbol}
use Rattle.lk_live.specs.declared.error.GcError.{GcError}
use Rattle.lk_live.specs.declared.error.GcError.TheVariants.{NoMemory, References}
use Rattle.lk_live.specs.declared.live.Live.{Live}
use Rattle.lk_reach.specs.declared.units.Unit.TheVariants.{Sym}
use Rattle.lk_live.specs.Faults.{reference_faults}
use Rattle.lk_reach.specs.Reach.{HasFlag, IsReached}
use Rattle.lk_reach.specs.Units.{unit_of}

-- ---- live

-- an input section is live where it is reached and its slot lets it be kept
pub record IsLive (link : LinkInput) (x : Input) : Type 0 where
  pub reached : IsReached link (unit_of x)
  pub slot : can_be_kept x.section.slot ≡ true

-- whether an input section without bytes, that isn't debug data, goes to an output section
abbrev pub keeps_output : LinkInput → ℕ → Input → Bool
keeps_output link o x = x.section.size == 0 && not (is_debug x.section.slot) && is_part_of link.plan.sections o x.section.part

-- such a section that is live keeps the output section
pub record IsKeptBySection (link : LinkInput) (o : ℕ) : Type 0 where
  pub input : Input
  pub number : ℕ
  pub there : slice_get (all_inputs link.groups) number ≡ Some input
  pub live : IsLive link input
  pub keeps : keeps_output link o input ≡ true

-- the output section at whose start or end the location counter of a redirect stands
abbrev pub redirect_output : SymbolPlacement → Option ℕ
redirect_output (at.Redirect e (loc.SectionStart o) provide) = Some o
redirect_output (at.Redirect e (loc.SectionEnd o) provide) = Some o
redirect_output _ = None

-- such a redirect of a script that is reached keeps the output section
pub record IsKeptByRedirect (link : LinkInput) (o : ℕ) : Type 0 where
  pub id : FileId
  pub file : InputFile
  pub there : file_in link.groups id ≡ Some file
  pub script : is_script file.kind ≡ true
  pub index : ℕ
  pub symbol : InputSymbol
  pub at_index : slice_get file.symbols index ≡ Some symbol
  pub redirect : redirect_output symbol.at ≡ Some o
  pub reached : IsReached link (Sym (first_symbol link.groups id + index))

-- what keeps an output section, whatever goes there
abbrev pub IsKept : LinkInput → ℕ → Type 0
IsKept link o = IsKeptBySection link o ⊎ IsKeptByRedirect link o

-- there is a mark for each input section, set exactly where the section is live; for each symbol its flags; and for each
-- output section a mark, set exactly where a live section without bytes or a redirect keeps it
pub record AreLive (link : LinkInput) (live : Live) : Type 0 where
  pub count : length live.marks ≡ length (all_inputs link.groups)
  pub marks : (k : ℕ) (x : Input) → slice_get (all_inputs link.groups) k ≡ Some x
      → slice_index_or live.marks k false ≡ true ↔ IsLive link x
  pub symbols : length live.flags ≡ length (all_symbols link.groups)
  pub flags : (s : ℕ) (f : ValueFlags) → slice_get live.flags s ≡ Some f → (i : ℕ) → (bit_at f.0 i ≡ 1) ↔ HasFlag link s i
  pub sections : length live.kept ≡ length link.plan.sections
  pub kept : (o : ℕ) → o < length link.plan.sections → slice_index_or live.kept o false ≡ true ↔ IsKept link o

-- those of a list that have a mark, in order
abbrev pub marked : {X : Type 0} → List Bool → List X → List X
marked [] xs = []
marked (m ∷ marks) [] = []
marked (m ∷ marks) (x ∷ xs) = if m then x ∷ marked marks xs else marked marks xs

-- the live input sections, by file and index
abbrev pub live_inputs : LinkInput → Live → List Input
live_inputs link live = marked live.marks (all_inputs link.groups)

-- what the traversal answers: what is live, where no reference is at fault; else all that are; nothing is said for want of memory
abbrev pub GivesLive : LinkInput → Result Live GcError → Type 0
GivesLive link (Ok live) = AreLive link live × (reference_faults link ≡ [])
GivesLive link (Err (References faults)) = (faults ≡ reference_faults link) × (faults ≢ [])
GivesLive link (Err NoMemory) = Unit {0}
