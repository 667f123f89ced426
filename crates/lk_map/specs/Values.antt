-- Private: what the values of a line are, as the code holds them.
use Rattle.std.specs.Prelude.{ℕ, Bool, true, false, List, Option, Some, None, take}
use Rattle.lk_map.specs.declared.forms.Form.{Form}
use Rattle.lk_map.specs.declared.lines.Values.{Values}
use Rattle.lk_map.specs.Lines.{Line}

-- the values
abbrev pub shown : Values → List (Option ℕ)
shown values = take values.count values.held

-- values that were taken, or none where words didn't fit
abbrev pub values_if : Bool → List (Option ℕ) → Option (List (Option ℕ))
values_if true values = Some values
values_if false values = None

-- a line of this form with these values, if it has one
abbrev pub line_if : Option Form → List (Option ℕ) → Option Line
line_if None values = None
line_if (Some form) values = Some (record { form = form; values = values })
