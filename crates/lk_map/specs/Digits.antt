-- Private: words whose bytes are digits in lower case, as the code tells them.
use Rattle.std.specs.Prelude.{◌≡◌, ℕ, ◌<◌, false, List, length, slice_index}
use Rattle.std.specs.Fmt.{digit_glyph}

-- a byte writes a digit of a base, in lower case
abbrev pub IsDigitIn : ℕ → ℕ → Type 0
IsDigitIn base byte = (d : ℕ) × (d < base) × (byte ≡ digit_glyph false d)

-- each byte of a word does
abbrev pub AreDigitsIn : ℕ → List ℕ → Type 0
AreDigitsIn base word = (i : ℕ) → i < length word → IsDigitIn base (slice_index word i)
