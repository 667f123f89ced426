-- The text that tells that an input is longer than the longest that is read, with its line feed.
use Rattle.std.specs.Prelude.{ℕ, List, [], ◌∷◌, codes}
use Rattle.std.specs.Fmt.{decimal}
use Rattle.lk_link.specs.Texts.{joined}
use Rattle.lk_devices.specs.declared.limit.TheConstants.{LONGEST_INPUT}

abbrev pub too_long_text : List ℕ
too_long_text = joined (codes "input is longer than " ∷ decimal LONGEST_INPUT ∷ codes " bytes\n" ∷ [])
