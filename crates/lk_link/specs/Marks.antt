-- Marks on numbers: a list with a truth value for each.
use Rattle.std.specs.Prelude.{ℕ, Bool, false, List}
use Rattle.std.specs.List.{slice_index_or}

-- the number has a mark; none has one past the end
abbrev pub is_marked : List Bool → ℕ → Bool
is_marked marks n = slice_index_or marks n false
