-- Private: texts cut at a byte.
use Rattle.std.specs.Prelude.{ℕ, ◌==◌, Bool, List, [], Option, Some, None}
use Rattle.std.specs.List.{slice_split}

-- whether a byte is this one
abbrev pub is_byte : ℕ → ℕ → Bool
is_byte byte x = x == byte

-- the parts of what is left behind a cut: none where nothing was cut off
abbrev pub parts_left : ℕ → Option (List ℕ) → List (List ℕ)
parts_left byte None = []
parts_left byte (Some rest) = slice_split (is_byte byte) rest
