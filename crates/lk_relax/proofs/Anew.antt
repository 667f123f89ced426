-- All parts are placed anew.
use Rattle.std.proofs.Common.{◌≡◌, ℕ, List, Option, Result, Ok, Err, ap, ◌∙◌}
use Rattle.std.specs.Result.{IsErrAnd}
use Rattle.lk_expressions.specs.declared.positions.SymbolPosition.{SymbolPosition}
use Rattle.lk_place.specs.declared.error.PlaceError.{PlaceError}
use Rattle.lk_place.specs.declared.error.PlaceError.TheVariants.{AddressOverflow, BaseTooLow, Expression, LocationBackwards, NoMemory, OutsideRegion, RegionDuplicate, RegionOverflow, RegionUnknown, SectionOutsideSegments}
use Rattle.lk_place.specs.Answers.{GivesPlaced}
use Rattle.lk_place.specs.Setting.{setting_of}
use Rattle.lk_sizes.specs.PartOwners.{part_sizes}
use Rattle.lk_relax.specs.declared.passes.Passed.{Passed}
use Rattle.lk_relax.specs.declared.relaxation.LinkPositions.{LinkPositions}
use Rattle.lk_deltas.specs.LinkDeletions.{Deletions}
use Rattle.lk_relax.specs.Positions.{section_positions, symbol_positions}
use Rattle.lk_relax.specs.RelaxationWords.{GivesAnew, GivesPlaces}
use Rattle.lk_relax.specs.Stages.{Relaxing, filling_after, link_of, setting_after}

-- what is handed on is what is placed then
pub setting_is : (by : Relaxing) (deltas : Deletions) (seen sizes : List ℕ) (positions : List (Option SymbolPosition)) (sections : List (Option (ℕ × ℕ))) → seen ≡ sizes → sizes ≡ part_sizes (filling_after by deltas)
    → sections ≡ section_positions (filling_after by deltas) → positions ≡ symbol_positions (link_of by).groups deltas sections
    → setting_of (link_of by) by.target seen by.headers positions ≡ setting_after by deltas
setting_is by deltas seen sizes positions sections same sized stand are =
    ap (λ (ns : List ℕ). setting_of (link_of by) by.target ns by.headers positions) (same ∙ sized)
    ∙ ap (setting_of (link_of by) by.target (part_sizes (filling_after by deltas)) by.headers) (are ∙ ap (symbol_positions (link_of by).groups deltas) stand)

pub refused_places : (by : Relaxing) (deletions : Deletions) (e : PlaceError) → GivesPlaced (setting_after by deletions) (Err e) → GivesPlaces by deletions (Err e)
refused_places by deletions NoMemory h = tt
refused_places by deletions (AddressOverflow place) h = h
refused_places by deletions (RegionDuplicate region) h = h
refused_places by deletions (Expression place cause) h = h
refused_places by deletions (RegionUnknown s) h = h
refused_places by deletions (RegionOverflow region by_bytes) h = h
refused_places by deletions (OutsideRegion event address) h = h
refused_places by deletions (LocationBackwards from to) h = h
refused_places by deletions (BaseTooLow base headers) h = h
refused_places by deletions (SectionOutsideSegments s) h = h

-- the exit of a `?`
pub places_exit : (by : Relaxing) (deletions : Deletions) (P : PlaceError → Type 0) (answer : Result LinkPositions PlaceError) → IsErrAnd answer P → ((e : PlaceError) → P e → GivesPlaces by deletions (Err e)) → GivesPlaces by deletions answer
places_exit by deletions P (Ok places) h f = absurd h
places_exit by deletions P (Err e) h f = f e h

-- all are placed anew where that is refused
pub refused_anew : (by : Relaxing) (passed : Passed) (e : PlaceError) → GivesPlaces by passed.deltas.items (Err e) → GivesAnew by passed (Err e)
refused_anew by passed NoMemory h = tt
refused_anew by passed (AddressOverflow place) h = h
refused_anew by passed (RegionDuplicate region) h = h
refused_anew by passed (Expression place cause) h = h
refused_anew by passed (RegionUnknown s) h = h
refused_anew by passed (RegionOverflow region by_bytes) h = h
refused_anew by passed (OutsideRegion event address) h = h
refused_anew by passed (LocationBackwards from to) h = h
refused_anew by passed (BaseTooLow base headers) h = h
refused_anew by passed (SectionOutsideSegments s) h = h
