-- Laws: where no expression of a walk names a symbol, a placement doesn't go by where symbols stand.
use Rattle.std.specs.Prelude.{◌≡◌, true, List, Option, Result}
use Rattle.lk_expressions.specs.declared.positions.SymbolPosition.{SymbolPosition}
use Rattle.lk_expressions.specs.Named.{names_no_symbol}
use Rattle.lk_expressions.specs.Records.{Record}
use Rattle.lk_place.specs.declared.cursors.Cursors.{Cursors}
use Rattle.lk_place.specs.declared.error.PlaceError.{PlaceError}
use Rattle.lk_place.specs.declared.walk.Placed.{Placed}
use Rattle.lk_place.specs.Answers.{GivesPlaced}
use Rattle.lk_place.specs.Placement.{IsPlaced, placement_refusal}
use Rattle.lk_place.specs.Setting.{Setting}

-- the same setting, in which symbols stand elsewhere
abbrev pub with_positions : Setting → List (Option SymbolPosition) → Setting
with_positions setting positions = record setting { positions = positions }

-- where neither the base nor an event or a load address names a symbol, a placement is one wherever symbols stand, and is refused alike
abbrev pub PlacementsGoWithoutPositions : Type 0
PlacementsGoWithoutPositions = (setting : Setting) (positions : List (Option SymbolPosition)) (states : List Cursors) (records : List Record)
    → names_no_symbol setting.plan ≡ true → IsPlaced setting states records → IsPlaced (with_positions setting positions) states records
    × (placement_refusal (with_positions setting positions) states records ≡ placement_refusal setting states records)

-- and what is answered by some places of symbols is what is answered by any
abbrev pub AnswersGoWithoutPositions : Type 0
AnswersGoWithoutPositions = (setting : Setting) (positions : List (Option SymbolPosition)) (answer : Result Placed PlaceError)
    → names_no_symbol setting.plan ≡ true → GivesPlaced setting answer → GivesPlaced (with_positions setting positions) answer
