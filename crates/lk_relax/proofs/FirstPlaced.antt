-- A link of which nothing is deleted is placed by the positions that expressions ask for.
use Rattle.std.proofs.Common.{◌≡◌, ◌+◌, ℕ, true, false, List, [], Option, Result, refl, sym, ap, subst, ◌∙◌}
use Rattle.std.specs.Prelude.{if◌then◌else◌, option_map}
use Rattle.lk_link.specs.declared.file.InputFile.{InputFile}
use Rattle.lk_link.specs.declared.ids.FileId.{FileId}
use Rattle.lk_link.specs.declared.link.LinkInput.{LinkInput}
use Rattle.lk_link.specs.declared.symbol.InputSymbol.{InputSymbol}
use Rattle.lk_link.specs.declared.symbol.SymbolPlacement.{SymbolPlacement}
use Rattle.lk_link.specs.declared.symbol.SymbolPlacement.TheVariants as at
use Rattle.lk_link.specs.Inputs.{numbered_files}
use Rattle.lk_expressions.specs.declared.positions.SymbolPosition.{SymbolPosition}
use Rattle.lk_expressions.specs.Named.{names_no_symbol}
use Rattle.lk_place.specs.declared.error.PlaceError.{PlaceError}
use Rattle.lk_place.specs.declared.walk.Placed.{Placed}
use Rattle.lk_place.specs.Answers.{GivesPlaced}
use Rattle.lk_place.specs.PositionLaws.{AnswersGoWithoutPositions}
use Rattle.lk_place.specs.Setting.{setting_of}
use Rattle.lk_sizes.specs.Owners.{Filling, own_sizes}
use Rattle.lk_sizes.specs.PartOwners.{part_sizes}
use Rattle.lk_sizes.proofs.Lists.{flat_alike, map_alike}
use Rattle.lk_deltas.specs.LinkDeletions.{Deletions, output_offset}
use Rattle.lk_relax.specs.Positions.{file_positions, position_in, section_positions, symbol_position, symbol_positions}
use Rattle.lk_relax.specs.PositionWords.{asked_positions}
use Rattle.lk_relax.specs.RelaxedLaws.{nothing_deleted}
use Rattle.lk_relax.specs.Stages.{Relaxing, filling_after, link_of, setting_after}
use Rattle.lk_relax.proofs.Emptied.{empty_deletions_leave_all, nothing_deleted_leaves_all}

-- by deletions that move offsets alike, symbols stand alike
module _ (groups : List (List InputFile)) (ds es : Deletions) (positions : List (Option (ℕ × ℕ))) (alike : (id : FileId) (index offset : ℕ) → output_offset groups ds id index offset ≡ output_offset groups es id index offset) where
  one_alike : (id : FileId) (x : SymbolPlacement) → symbol_position groups ds positions id x ≡ symbol_position groups es positions id x
  one_alike id (at.Section i offset) =
      ap (λ (n : ℕ). option_map (λ (p : ℕ × ℕ). record { part = p.0; offset = p.1 + n }) (position_in groups positions id i)) (alike id i offset)
  one_alike id x = refl

  all_alike : symbol_positions groups ds positions ≡ symbol_positions groups es positions
  all_alike =
      flat_alike (file_positions groups ds positions) (file_positions groups es positions) (numbered_files groups) (λ i f there.
      map_alike (λ (x : InputSymbol). symbol_position groups ds positions f.id x.at) (λ (x : InputSymbol). symbol_position groups es positions f.id x.at) f.file.symbols (λ k x there. one_alike f.id x.at))

pub first_given : AnswersGoWithoutPositions → (by : Relaxing) (sizes : List ℕ) (positions : List (Option SymbolPosition)) (answer : Result Placed PlaceError) → by.filling.sizes ≡ own_sizes (link_of by)
    → sizes ≡ part_sizes by.filling → positions ≡ asked_positions by.filling → GivesPlaced (setting_of (link_of by) by.target sizes by.headers positions) answer
    → GivesPlaced (setting_after by (nothing_deleted (link_of by))) answer
first_given without by sizes positions answer own sized asked given =
    let link : LinkInput = link_of by in
    let nothing : Deletions = nothing_deleted link in
    let placed : List ℕ → List (Option SymbolPosition) → Type 0 = λ ns ps. GivesPlaced (setting_of link by.target ns by.headers ps) answer in
    let all : Deletions → Filling → List (Option SymbolPosition) = λ ds f. symbol_positions link.groups ds (section_positions f) in
    let read : placed (part_sizes by.filling) (asked_positions by.filling)
    = subst (λ (ps : List (Option SymbolPosition)). placed (part_sizes by.filling) ps) asked (subst (λ (ns : List ℕ). placed ns positions) sized given) in
    let by_all : placed (part_sizes by.filling) (all [] by.filling)
    = elim (names_no_symbol link.plan) as (λ b. names_no_symbol link.plan ≡ b → placed (part_sizes by.filling) (if b then [] else all [] by.filling) → placed (part_sizes by.filling) (all [] by.filling)) [
      | true ↦ λ none h. without (setting_of link by.target (part_sizes by.filling) by.headers []) (all [] by.filling) answer none h
      | false ↦ λ some h. h
    ] refl read in
    let still : (id : FileId) (index offset : ℕ) → output_offset link.groups [] id index offset ≡ output_offset link.groups nothing id index offset
    = λ id index offset. (empty_deletions_leave_all link [] (λ i n. refl)).offsets id index offset ∙ sym ((nothing_deleted_leaves_all link).offsets id index offset) in
    let same : by.filling ≡ filling_after by nothing = ap (λ (ns : List ℕ). record by.filling { sizes = ns }) (own ∙ sym (nothing_deleted_leaves_all link).sizes) in
    subst (λ (f : Filling). placed (part_sizes f) (all nothing f)) same
    (subst (λ (ps : List (Option SymbolPosition)). placed (part_sizes by.filling) ps) (all_alike link.groups [] nothing (section_positions by.filling) still) by_all)
