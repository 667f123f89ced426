-- What a layout answers for the errors of its steps.
use Rattle.lk_thunk_plan.specs.declared.check.BranchPlace.{BranchPlace}
use Rattle.lk_live.specs.declared.error.GcError.{GcError}
use Rattle.lk_live.specs.declared.error.GcError.TheVariants as gc
use Rattle.lk_link.specs.declared.fault.LinkFault.{LinkFault}
use Rattle.lk_link.specs.declared.fault.LinkFault.TheVariants as fault
use Rattle.lk_merge.specs.declared.error.MergeError.{MergeError}
use Rattle.lk_merge.specs.declared.error.MergeError.TheVariants as merge
use Rattle.lk_place.specs.declared.error.PlaceError.{PlaceError}
use Rattle.lk_place.specs.declared.error.PlaceError.TheVariants as place
use Rattle.lk_relax.specs.declared.sites.RelaxedPlace.{RelaxedPlace}
use Rattle.lk_sizes.specs.declared.error.SizeError.{SizeError}
use Rattle.lk_sizes.specs.declared.error.SizeError.TheVariants as size
use Rattle.lk_layout.specs.declared.error.LayoutError.{LayoutError}
use Rattle.lk_layout.specs.declared.error.LayoutError.TheVariants.{NoMemory, TooMany, BadLink, References}
use Rattle.lk_layout.specs.declared.error.LayoutError.TheVariants.{MergeNotTerminated, MergeOffset, MergeTooLarge, OutOfReach}
use Rattle.lk_layout.specs.declared.error.ReachKind.TheVariants.{Branch, Relaxed}
use Rattle.lk_layout.specs.declared.error.LayoutError.TheVariants.{AddressOverflow, BaseTooLow, Expression, LocationBackwards, OutsideRegion}
use Rattle.lk_layout.specs.declared.error.LayoutError.TheVariants.{RegionDuplicate, RegionOverflow, RegionUnknown, SectionOutsideSegments}
use Rattle.lk_resolutions.specs.declared.outside.MergeOffsetPlace.{MergeOffsetPlace}

-- for a fault of the link
abbrev pub fault_error : LinkFault → LayoutError
fault_error (fault.TooMany what count limit) = TooMany what count limit
fault_error (fault.BadLink rule place) = BadLink rule place

-- for what merging refuses
abbrev pub merge_error : MergeError → LayoutError
merge_error (merge.NotTerminated section input) = MergeNotTerminated section input
merge_error (merge.TooLarge section bucket offset len) = MergeTooLarge section bucket offset len
merge_error merge.NoMemory = NoMemory

-- for an offset outside the data of a merged section
abbrev pub offset_error : MergeOffsetPlace → LayoutError
offset_error place = MergeOffset place

-- for a branch that reaches neither its target nor a thunk
abbrev pub branch_error : BranchPlace → LayoutError
branch_error place = OutOfReach Branch place.file place.section place.relocation

-- for a deleted candidate that is too far from its symbol
abbrev pub site_error : RelaxedPlace → LayoutError
site_error place = OutOfReach Relaxed place.file place.section place.candidate

-- for what the traversal refuses
abbrev pub gc_error : GcError → LayoutError
gc_error (gc.References faults) = References faults
gc_error gc.NoMemory = NoMemory

-- for sizes past 64 bits
abbrev pub size_error : SizeError → LayoutError
size_error (size.AddressOverflow place) = AddressOverflow place
size_error size.NoMemory = NoMemory

-- for what can't be placed
abbrev pub place_error : PlaceError → LayoutError
place_error (place.AddressOverflow at) = AddressOverflow at
place_error (place.RegionDuplicate region) = RegionDuplicate region
place_error (place.Expression at cause) = Expression at cause
place_error (place.RegionUnknown section) = RegionUnknown section
place_error (place.RegionOverflow region by) = RegionOverflow region by
place_error (place.OutsideRegion event address) = OutsideRegion event address
place_error (place.LocationBackwards from to) = LocationBackwards from to
place_error (place.BaseTooLow base headers) = BaseTooLow base headers
place_error (place.SectionOutsideSegments section) = SectionOutsideSegments section
place_error place.NoMemory = NoMemory
