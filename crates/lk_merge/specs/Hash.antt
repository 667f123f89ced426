-- The hash of pieces.
use Rattle.std.specs.Prelude.{ℕ, ◌*◌, ◌%◌, ◌^◌, List, bit_xor, fold}

-- one byte: xored in, then multiplied
abbrev pub fnv_step : ℕ → ℕ → ℕ
fnv_step hash byte = (bit_xor hash byte * 0x100000001b3) % 2 ^ 64

-- the hash FNV-1a of 64 bits: one step for each byte
unfoldable pub fnv64 : List ℕ → ℕ
fnv64 bytes = fold fnv_step 0xcbf29ce484222325 bytes
