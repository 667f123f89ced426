-- What a map's line says: its form, and the numbers that stand in it.
use Rattle.std.specs.Prelude.{ℕ, List, Option}
use Rattle.lk_map.specs.declared.forms.Form.{Form}

-- a line: its form, and what its fields say, in their order; none where `-` stands
pub record Line : Type 0 where
  pub form : Form
  pub values : List (Option ℕ)
