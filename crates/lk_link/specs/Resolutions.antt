-- What symbols stand for in the output.
use Rattle.std.specs.Prelude.{ℕ, Option, Some, None, Result, Ok, Err, if◌then◌else◌}
use Rattle.lk_link.specs.declared.resolution.NoDynamicIndex.{NoDynamicIndex}
use Rattle.lk_link.specs.declared.resolution.NotAnAddress.{NotAnAddress}
use Rattle.lk_link.specs.declared.resolution.Resolution.{Resolution}
use Rattle.lk_link.specs.Flags.{has_link_time_address}

-- the value, if it is an address that is known when the link ends
abbrev pub address_of : Resolution → Result ℕ NotAnAddress
address_of r = if has_link_time_address r.flags.0 then Ok r.raw_value else Err (record {})

-- an answer, or that there is no dynamic index
abbrev pub index_or_none : Option ℕ → Result ℕ NoDynamicIndex
index_or_none (Some n) = Ok n
index_or_none None = Err (record {})

-- the number of its entry in the dynamic symbol table
abbrev pub index_of : Resolution → Result ℕ NoDynamicIndex
index_of r = index_or_none r.dynamic
