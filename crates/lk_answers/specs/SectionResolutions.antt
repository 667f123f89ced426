-- Where the input sections of a file stand.
use Rattle.std.specs.Prelude.{ℕ, ◌==◌, Bool, if◌then◌else◌, List, None, Option, Some, map, slice_index}
use Rattle.std.specs.List.{range_with_len}
use Rattle.lk_link.specs.declared.resolution.Resolution.{Resolution}
use Rattle.lk_link.specs.Marks.{is_marked}

-- stands for no address
abbrev pub NO_ADDRESS : ℕ
NO_ADDRESS = 18446744073709551615

-- the address that a number stands for
abbrev pub address_told : ℕ → Option ℕ
address_told n = if n == NO_ADDRESS then None else Some n

-- the number of a section, by its mark and its address
abbrev pub resolution_told : Bool → ℕ → ℕ
resolution_told live address = if live then address else NO_ADDRESS

-- those of so many sections, by the marks and addresses from the first on
abbrev pub resolutions_of : List Bool → List ℕ → ℕ → List ℕ
resolutions_of marks addresses count = map (λ k. resolution_told (is_marked marks k) (slice_index addresses k)) (range_with_len 0 count)

-- what stands at an address alone stands for
abbrev pub whole_resolution : ℕ → Resolution
whole_resolution address = record { raw_value = address; flags = record { 0 = 0 }; dynamic = None; got = None; plt = None }
