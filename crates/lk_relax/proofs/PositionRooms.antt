-- Symbols of a file stand where there is room.
use Rattle.std.proofs.Common.{◌≡◌, ℕ, All, List, Option, Some, sym, subst, get_or}
use Rattle.std.specs.Prelude.{slice_get}
use Rattle.std.proofs.lemmas.Option.{slice_get-get_or}
use Rattle.lk_link.specs.declared.file.InputFile.{InputFile}
use Rattle.lk_link.specs.declared.ids.FileId.{FileId}
use Rattle.lk_link.specs.declared.link.LinkInput.{LinkInput}
use Rattle.lk_link.specs.declared.symbol.InputSymbol.{InputSymbol}
use Rattle.lk_link.specs.declared.symbol.SymbolPlacement.{SymbolPlacement}
use Rattle.lk_link.specs.declared.symbol.SymbolPlacement.TheVariants as at
use Rattle.lk_link.specs.Files.{file_in}
use Rattle.lk_link.specs.Inputs.{first_input}
use Rattle.lk_link.specs.SymbolRules.{IsPlacementThere}
use Rattle.lk_link.specs.Symbols.{file_number}
use Rattle.lk_link.specs.WellFormed.{IsWellFormed}
use Rattle.lk_link.proofs.GoodSymbols.{symbol_of}
use Rattle.lk_deltas.specs.LinkDeletions.{Deletions}
use Rattle.lk_relax.specs.PositionWords.{HasRoom, HaveRoom}

has_room : (link : LinkInput) (deletions : Deletions) (sections : List (Option (ℕ × ℕ))) (id : FileId) (file : InputFile) (p : SymbolPlacement) → HaveRoom link.groups deletions sections → file_in link.groups id ≡ Some file
    → IsPlacementThere link.plan file.sections p → HasRoom (slice_get deletions (file_number link.groups id)) sections (first_input link.groups id) p
has_room link deletions sections id file (at.Section i offset) room there h = λ p is.
    let r = room id file i h.0 p there h.1 is in
    (h.0.size, h.2 r.0, r.1)
has_room link deletions sections id file (at.Common p n) room there h = tt
has_room link deletions sections id file (at.Absolute n) room there h = tt
has_room link deletions sections id file at.Undef room there h = tt
has_room link deletions sections id file at.Dynamic room there h = tt
has_room link deletions sections id file at.Undefined room there h = tt
has_room link deletions sections id file at.ForceUndefined room there h = tt
has_room link deletions sections id file (at.SectionStart s) room there h = tt
has_room link deletions sections id file (at.SectionEnd s) room there h = tt
has_room link deletions sections id file (at.SectionGroupEnd s) room there h = tt
has_room link deletions sections id file at.TlsEnd room there h = tt
has_room link deletions sections id file at.LoadBaseAddress room there h = tt
has_room link deletions sections id file (at.Redirect e l provide) room there h = tt

-- all symbols of a file do, by what is read of it
pub all_have : (link : LinkInput) (deletions : Deletions) (sections : List (Option (ℕ × ℕ))) (id : FileId) (file : InputFile) (entries : Option (List (ℕ × List (ℕ × ℕ)))) (first : ℕ) (symbols : List InputSymbol)
    → IsWellFormed link → file_in link.groups id ≡ Some file → HaveRoom link.groups deletions sections → entries ≡ slice_get deletions (file_number link.groups id) → first ≡ first_input link.groups id → symbols ≡ file.symbols
    → All (λ (x : InputSymbol). HasRoom entries sections first x.at) symbols
all_have link deletions sections id file entries first symbols good there room is_entries is_first is_symbols =
    let Have : Option (List (ℕ × List (ℕ × ℕ))) → ℕ → List InputSymbol → Type 0 = λ es n xs. All (λ (x : InputSymbol). HasRoom es sections n x.at) xs in
    let own : Have (slice_get deletions (file_number link.groups id)) (first_input link.groups id) file.symbols = λ k d lt.
    let x : InputSymbol = get_or file.symbols k d in
    has_room link deletions sections id file x.at room there (symbol_of link id k file x good there (slice_get-get_or file.symbols k d lt)).there in
    subst (λ es. Have es first symbols) (sym is_entries)
    (subst (λ n. Have (slice_get deletions (file_number link.groups id)) n symbols) (sym is_first)
    (subst (λ xs. Have (slice_get deletions (file_number link.groups id)) (first_input link.groups id) xs) (sym is_symbols) own))
