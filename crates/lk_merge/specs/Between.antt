-- Pieces by where they start.
use Rattle.std.specs.Prelude.{ℕ, ◌&&◌, List, filter, nat_le, nat_lt}
use Rattle.lk_merge.specs.Inputs.{Located}

-- those that start at an offset or behind it; those that start before one; and those between two
abbrev pub from_on : ℕ → List Located → List Located
from_on at ls = filter (λ l. nat_le at l.start) ls

abbrev pub until : ℕ → List Located → List Located
until end ls = filter (λ l. nat_lt l.start end) ls

abbrev pub between : ℕ → ℕ → List Located → List Located
between start end ls = filter (λ l. nat_le start l.start && nat_lt l.start end) ls
