-- What a placement answers.
use Rattle.std.specs.Prelude.{◌≡◌, ℕ, List, Some, None, Result, Ok, Err}
use Rattle.lk_place.specs.declared.cursors.Cursors.{Cursors}
use Rattle.lk_place.specs.declared.error.PlaceError.{PlaceError}
use Rattle.lk_place.specs.declared.error.PlaceError.TheVariants.{AddressOverflow, BaseTooLow, Expression, LocationBackwards, OutsideRegion}
use Rattle.lk_place.specs.declared.error.PlaceError.TheVariants.{NoMemory, RegionDuplicate, RegionOverflow, RegionUnknown, SectionOutsideSegments}
use Rattle.lk_place.specs.declared.walk.Placed.{Placed}
use Rattle.lk_place.specs.Counters.{counters_of}
use Rattle.lk_place.specs.Placement.{IsPlaced, placement_refusal}
use Rattle.lk_expressions.specs.Records.{Record}
use Rattle.lk_place.specs.Segments.{section_records}
use Rattle.lk_place.specs.Setting.{Setting}
use Rattle.lk_place.specs.Start.{base_value}

-- the records and the counters are those of the placement, in which nothing is refused
pub record ArePlaced (setting : Setting) (placed : Placed) : Type 0 where
  pub states : List Cursors
  pub is : IsPlaced setting states placed.parts
  pub unrefused : placement_refusal setting states placed.parts ≡ None
  pub sections : placed.sections ≡ section_records setting.plan.sections placed.parts
  pub base : ℕ
  pub based : base_value setting ≡ Ok base
  pub counters : placed.counters ≡ counters_of setting.plan states base

-- this is the first refusal of the placement
pub record IsRefused (setting : Setting) (e : PlaceError) : Type 0 where
  pub states : List Cursors
  pub records : List Record
  pub is : IsPlaced setting states records
  pub refused : placement_refusal setting states records ≡ Some e

-- the placement, or its first refusal, or want of memory
abbrev pub GivesPlaced : Setting → Result Placed PlaceError → Type 0
GivesPlaced setting (Ok placed) = ArePlaced setting placed
GivesPlaced setting (Err NoMemory) = Unit {0}
GivesPlaced setting (Err (AddressOverflow place)) = IsRefused setting (AddressOverflow place)
GivesPlaced setting (Err (RegionDuplicate region)) = IsRefused setting (RegionDuplicate region)
GivesPlaced setting (Err (Expression place cause)) = IsRefused setting (Expression place cause)
GivesPlaced setting (Err (RegionUnknown s)) = IsRefused setting (RegionUnknown s)
GivesPlaced setting (Err (RegionOverflow region by)) = IsRefused setting (RegionOverflow region by)
GivesPlaced setting (Err (OutsideRegion event address)) = IsRefused setting (OutsideRegion event address)
GivesPlaced setting (Err (LocationBackwards from to)) = IsRefused setting (LocationBackwards from to)
GivesPlaced setting (Err (BaseTooLow base headers)) = IsRefused setting (BaseTooLow base headers)
GivesPlaced setting (Err (SectionOutsideSegments s)) = IsRefused setting (SectionOutsideSegments s)
