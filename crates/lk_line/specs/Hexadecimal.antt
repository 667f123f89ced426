-- Numbers in hexadecimal.
use Rattle.std.specs.Prelude.{ℕ, List, false}
use Rattle.std.specs.Fmt.{digits}

-- a number, as it stands behind `0x`
abbrev pub hexadecimal : ℕ → List ℕ
hexadecimal n = digits 16 false n
