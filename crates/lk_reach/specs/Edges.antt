-- Words of private contracts: symbols at the starts and ends of output sections, which ask for candidates.
use Rattle.std.specs.Prelude.{◌≡◌, ℕ, ◌==◌, ◌&&◌, not, Bool, if◌then◌else◌, Option, Some, None, length, option_map}
use Rattle.lk_link.specs.declared.file.InputFile.{InputFile}
use Rattle.lk_link.specs.declared.ids.FileId.{FileId}
use Rattle.lk_link.specs.declared.link.LinkInput.{LinkInput}
use Rattle.lk_link.specs.declared.symbol.SymbolPlacement.{SymbolPlacement}
use Rattle.lk_link.specs.FileKinds.{is_synthetic}
use Rattle.lk_link.specs.Files.{file_in}
use Rattle.lk_reach.specs.declared.edges.EdgeAt.{EdgeAt}
use Rattle.lk_reach.specs.declared.units.Unit.TheVariants.{Sym}
use Rattle.lk_link.specs.SymbolPlacements.{edge_of}
use Rattle.lk_reach.specs.Units.{candidate_asks, follows}

-- a symbol asks for the candidates of an output section, of its file
pub record IsEdgeAt (link : LinkInput) (s : ℕ) (e : EdgeAt) : Type 0 where
  pub file : InputFile
  pub there : file_in link.groups e.file ≡ Some file
  pub asks : follows link (Sym s) ≡ candidate_asks file.candidates e.output

-- the place of a placement in a file, if the file is synthetic and the placement at the start or end of an output section
abbrev pub edge_in : FileId → InputFile → SymbolPlacement → Option EdgeAt
edge_in id f p = if is_synthetic f.kind then option_map (λ o. record { file = id; output = o }) (edge_of p) else None

-- whether a file is synthetic and has candidates
abbrev pub offers_candidates : InputFile → Bool
offers_candidates f = is_synthetic f.kind && not (length f.candidates == 0)
