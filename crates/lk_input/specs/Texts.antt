-- The texts of why bytes give no link description.
use Rattle.std.specs.Prelude.{ℕ, List, [], ◌∷◌, codes}
use Rattle.lk_link.specs.Texts.{joined}
use Rattle.lk_input.specs.declared.read.error.InputError.{InputError}
use Rattle.lk_input.specs.declared.read.error.InputError.TheVariants.{NotJson, Shape, NoMemory}

-- why bytes give no description, with the path of the first value at fault; want of memory has no text
abbrev pub input_error_text : InputError → List ℕ
input_error_text NotJson = codes "not JSON"
input_error_text (Shape path) = joined (codes "not a link description: " ∷ path ∷ [])
input_error_text NoMemory = []
