-- Ranges of symbol numbers.
use Rattle.std.specs.Prelude.{ℕ, ◌+◌, ◌<◌, ◌≤◌}
use Rattle.lk_link.specs.declared.ids.SymbolIdRange.{SymbolIdRange}

-- a number is one of the range
pub record IsWithin (range : SymbolIdRange) (n : ℕ) : Type 0 where
  pub from : range.start ≤ n
  pub below : n < range.start + range.count
