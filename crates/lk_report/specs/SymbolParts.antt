-- Words of private contracts: the lines of symbols in parts that follow each other.
use Rattle.std.specs.Prelude.{◌≡◌, ℕ, ◌*◌, ◌/◌, ◌+◌, ◌<◌, nat_lt, min, if◌then◌else◌, List, ◌++◌, Option, Result, IfOk, drop, slice_index_or, string_bytes, length, String}
use Rattle.lk_link.specs.declared.resolution.Resolution.{Resolution}
use Rattle.std.specs.declared.alloc.AllocError.{AllocError}
use Rattle.std.specs.declared.alloc.Global.{Global}
use Rattle.lk_report.specs.Report.{each, symbol_text}

-- the lines of the symbols from a number on
abbrev pub lines_from : List (Option Resolution) → ℕ → List ℕ
lines_from resolutions s = each symbol_text s (drop s resolutions)

-- where a part begins, if so many items are cut into so many parts; behind the last one all items end
abbrev pub part_start : ℕ → ℕ → ℕ → ℕ
part_start count parts part = if nat_lt part parts then min (part * (count / parts)) count else count

-- a text is the lines of a part of the symbols: those of the next part on, behind it, make those of this part on
abbrev pub IsPart : List (Option Resolution) → ℕ → ℕ → String Global → Type 0
IsPart resolutions parts part text =
    string_bytes text ++ lines_from resolutions (part_start (length resolutions) parts (part + 1)) ≡ lines_from resolutions (part_start (length resolutions) parts part)

-- what was made of a part is its lines, unless memory ran out
abbrev pub IsMade : List (Option Resolution) → ℕ → ℕ → Result (String Global) AllocError → Type 0
IsMade resolutions parts part made = IfOk made (IsPart resolutions parts part)

-- the same for all parts
abbrev pub AreMade : List (Option Resolution) → ℕ → List (Result (String Global) AllocError) → Type 0
AreMade resolutions parts texts = (part : ℕ) (d : Result (String Global) AllocError) → part < parts → IsMade resolutions parts part (slice_index_or texts part d)
