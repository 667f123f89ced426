-- Values of symbols, kept with the rest of what the symbols stand for.
use Rattle.std.specs.Prelude.{ℕ, List, Option}
use Rattle.lk_link.specs.declared.resolution.Resolution.{Resolution}
use Rattle.lk_own_symbols.specs.Redirects.{Store}
use Rattle.lk_own_symbols.specs.Stores.{kept_value, kept_with}

-- a resolution with another value
abbrev pub valued : ℕ → Resolution → Resolution
valued n r = record r { raw_value = n }

-- the value of a symbol, if it has a resolution
abbrev pub raw_value_of : List (Option Resolution) → ℕ → Option ℕ
raw_value_of = kept_value (λ r. r.raw_value)

-- what symbols stand for where a symbol that has a resolution gets another value
abbrev pub with_raw_value : List (Option Resolution) → ℕ → ℕ → List (Option Resolution)
with_raw_value = kept_with (λ r n. valued n r)

-- what symbols stand for as a place where their values are kept
abbrev pub resolution_store : Store (List (Option Resolution))
resolution_store = record { value_of = raw_value_of; with_value = with_raw_value }
