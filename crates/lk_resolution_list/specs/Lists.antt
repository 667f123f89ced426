-- What symbols stand for, by number.
use Rattle.std.specs.Prelude.{ℕ, List, Option, None}
use Rattle.std.specs.List.{slice_index_or}
use Rattle.lk_link.specs.declared.resolution.Resolution.{Resolution}

-- the resolution of a symbol, by its number, if it has one
abbrev pub resolution_at : List (Option Resolution) → ℕ → Option Resolution
resolution_at resolutions s = slice_index_or resolutions s None
