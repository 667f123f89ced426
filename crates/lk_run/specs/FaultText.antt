-- The texts of refusals of layouts and of descriptions, each a line with its line feed.
use Rattle.std.specs.Prelude.{ℕ, List, ◌++◌, codes}
use Rattle.lk_input.specs.declared.read.error.InputError.{InputError}
use Rattle.lk_input.specs.Texts.{input_error_text}
use Rattle.lk_layout.specs.declared.error.LayoutError.{LayoutError}
use Rattle.lk_layout.specs.Texts.{error_text}

-- why a link isn't laid out
abbrev pub fault_text_of : LayoutError → List ℕ
fault_text_of fault = error_text fault ++ codes "\n"

-- why bytes are no description
abbrev pub input_fault_text_of : InputError → List ℕ
input_fault_text_of fault = input_error_text fault ++ codes "\n"
