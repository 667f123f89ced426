-- Private: what a word is read as, where a map writes a number.
use Rattle.std.specs.Prelude.{ℕ, ◌^◌, ◌&&◌, nat_lt, false, if◌then◌else◌, List, Option, Some, None, codes, take, drop}
use Rattle.std.specs.Str.{bytes_eq}
use Rattle.std.specs.Str.Parse.{digits_value}
use Rattle.std.specs.Fmt.{digits}

-- the number that a word writes in a base, if it is just what is written for one of 64 bits: with no sign and no leading zero, and digits
-- above 9 in lower case
unfoldable pub number_in : ℕ → List ℕ → Option ℕ
number_in base word =
    if nat_lt (digits_value base word) (2 ^ 64) && bytes_eq word (digits base false (digits_value base word)) then Some (digits_value base word) else None

-- the number that an address writes, behind `0x`
unfoldable pub address_in : List ℕ → Option ℕ
address_in word = if bytes_eq (take 2 word) (codes "0x") then number_in 16 (drop 2 word) else None
