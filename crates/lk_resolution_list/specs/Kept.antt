-- How what symbols stand for is kept: words of private contracts and of an invariant.
use Rattle.std.specs.Prelude.{◌≡◌, ℕ, ◌+◌, ◌-◌, ◌<◌, ◌==◌, if◌then◌else◌, List, Option, Some, None, length, nat_lt, option_map, slice_get}
use Rattle.lk_link.specs.declared.resolution.Resolution.{Resolution}
use Rattle.lk_resolution_list.specs.declared.kept.Kept.{Kept}
use Rattle.lk_resolution_list.specs.declared.kept.TheConstants.{KEPT_WHOLE, NO_RESOLUTION}
use Rattle.lk_resolution_list.specs.Stores.{valued}

-- a number as it is kept: one more, and 0 for none, if that is below what may stand in place of it
abbrev pub short_index : Option ℕ → Option ℕ
short_index None = Some 0
short_index (Some n) = if nat_lt (n + 1) KEPT_WHOLE then Some (n + 1) else None

-- the number that is kept so
abbrev pub told_index : ℕ → Option ℕ
told_index n = if n == 0 then None else Some (n - 1)

-- a resolution without entries, by what is kept of it
abbrev pub told_short : Kept → Resolution
told_short kept = record { raw_value = kept.raw_value; flags = record { 0 = kept.flags_or_place }; dynamic = told_index kept.dynamic; got = None; plt = None }

-- what a symbol stands for, by what is kept of it, beside the resolutions that are kept whole: of these all but the value
abbrev pub told_of : List Resolution → Kept → Option Resolution
told_of wholes kept =
    if kept.dynamic == NO_RESOLUTION then None
    else if kept.dynamic == KEPT_WHOLE then option_map (valued kept.raw_value) (slice_get wholes kept.flags_or_place)
    else Some (told_short kept)

-- what is kept whole has its place among those
abbrev pub IsWithin : List Resolution → Kept → Type 0
IsWithin wholes kept = kept.dynamic ≡ KEPT_WHOLE → kept.flags_or_place < length wholes

-- a resolution is kept in short, and told so beside any others
pub record IsShort (kept : Kept) (resolution : Resolution) : Type 0 where
  pub index : kept.dynamic < KEPT_WHOLE
  pub told : told_short kept ≡ resolution

-- what was kept tells the same, when more is kept whole
pub record TellsSame (old new : List Resolution) (kept : Kept) : Type 0 where
  pub within : IsWithin new kept
  pub told : told_of new kept ≡ told_of old kept

abbrev pub StaysTold : List Resolution → List Resolution → Type 0
StaysTold old new = (kept : Kept) → IsWithin old kept → TellsSame old new kept
