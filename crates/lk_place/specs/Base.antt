-- Where memory begins: at the base, or below it where headers are to stand there.
use Rattle.std.specs.Prelude.{ℕ, ◌-◌, ◌%◌, ◌&&◌, ◌||◌, not, Bool, if◌then◌else◌, nat_le, nat_lt, List, [], None, Option, Result, Ok, Err}
use Rattle.lk_link.specs.declared.fault.Place.TheVariants as place
use Rattle.lk_link.specs.declared.file.InputFile.{InputFile}
use Rattle.lk_link.specs.declared.plan.Plan.{Plan}
use Rattle.lk_place.specs.declared.error.PlaceError.{PlaceError}
use Rattle.lk_place.specs.declared.error.PlaceError.TheVariants.{BaseTooLow, Expression}
use Rattle.lk_expressions.specs.Expressions.{Valued}
use Rattle.lk_expressions.specs.Surroundings.{Early}

-- what is known before anything is placed: memory hasn't begun, so the location counter is 0, and no symbol has a place
abbrev pub known_first : List (List InputFile) → ℕ → List (ℕ × ℕ) → List (Option Valued) → Early
known_first groups headers regions constants = record {
  groups = groups;
  dot = 0;
  headers = headers;
  regions = regions;
  constants = constants;
  section = λ s. None;
  part = λ p. None;
  positions = [];
}

-- whether a base that is asked for has no room for the headers below it, where they are to stand there
abbrev pub is_too_low : Plan → ℕ → ℕ → Bool
is_too_low plan headers base = plan.custom_base && (plan.phdrs_headers || not plan.custom_phdrs) && nat_lt base headers

-- the last start of a page from which the headers reach at most to the base; the base itself where there is none
abbrev pub page_for_headers : ℕ → ℕ → ℕ → ℕ
page_for_headers page headers base = if nat_le headers base then base - headers - (base - headers) % page else base

-- where memory begins, by the bytes of the headers and the base
abbrev pub memory_start : Plan → ℕ → ℕ → ℕ
memory_start plan headers base = if plan.custom_base || plan.phdrs_headers then page_for_headers plan.page headers base else base

abbrev pub memory_begun : Plan → ℕ → ℕ → Result ℕ PlaceError
memory_begun plan headers base = if is_too_low plan headers base then Err (BaseTooLow base headers) else Ok (memory_start plan headers base)

-- the same from the value of the plan's base on, or why it has none
abbrev pub first_memory : Plan → ℕ → Valued → Result ℕ PlaceError
first_memory plan headers (Ok base) = memory_begun plan headers base
first_memory plan headers (Err cause) = Err (Expression place.Base cause)
