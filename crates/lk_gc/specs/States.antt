-- Which state a file has in the traversal.
use Rattle.std.specs.Prelude.{◌≡◌, ℕ, Some, slice_get}
use Rattle.lk_link.specs.declared.file.FileKind.TheVariants as kind
use Rattle.lk_link.specs.declared.file.InputFile.{InputFile}
use Rattle.lk_link.specs.declared.ids.FileId.{FileId}
use Rattle.lk_link.specs.declared.ids.SymbolIdRange.{SymbolIdRange}
use Rattle.lk_link.specs.declared.link.LinkInput.{LinkInput}
use Rattle.lk_link.specs.Files.{file_in}
use Rattle.lk_link.specs.Symbols.{AreSymbolsOf}
use Rattle.lk_gc.specs.declared.states.FileLayoutState.{FileLayoutState}
use Rattle.lk_gc.specs.declared.states.GroupState.{GroupState}
use Rattle.lk_gc.specs.declared.states.FileLayoutState.TheVariants as state

-- a state is that of a file with this number, whose symbols have these numbers; no file is the epilogue
abbrev pub IsStateBy : InputFile → FileId → SymbolIdRange → FileLayoutState → Type 0
IsStateBy f id range (state.Prelude s) = (f.kind ≡ kind.Prelude) × (s.file_id ≡ id) × (s.symbol_id_range ≡ range)
IsStateBy f id range (state.Object s) = (f.kind ≡ kind.Object) × (s.file_id ≡ id) × (s.symbol_id_range ≡ range) × (s.name.now ≡ f.name)
IsStateBy f id range (state.Dynamic s) = (f.kind ≡ kind.Dynamic) × (s.file_id ≡ id) × (s.symbol_id_range ≡ range) × (s.name.now ≡ f.name)
IsStateBy f id range (state.SyntheticSymbols s) = (f.kind ≡ kind.SyntheticSymbols) × (s.file_id ≡ id) × (s.symbol_id_range ≡ range)
IsStateBy f id range (state.Epilogue s) = ⊥
IsStateBy f id range (state.LinkerScript s) = (f.kind ≡ kind.LinkerScript) × (s.file_id ≡ id) × (s.symbol_id_range ≡ range) × (s.name.now ≡ f.name)
IsStateBy f id range state.NotLoaded = f.kind ≡ kind.NotLoaded

-- a state is that of the file of a link with this number (libwild: `FileLayoutState`)
pub record IsStateOf (link : LinkInput) (id : FileId) (s : FileLayoutState) : Type 0 where
  pub file : InputFile
  pub there : file_in link.groups id ≡ Some file
  pub range : SymbolIdRange
  pub symbols : AreSymbolsOf link.groups id range
  pub state : IsStateBy file id range s

-- a state is that of the group of a link with this number: it has its files
pub record IsGroupStateOf (link : LinkInput) (g : ℕ) (s : GroupState) : Type 0 where
  pub files : slice_get link.groups g ≡ Some s.files.now
  pub group : s.group ≡ g
