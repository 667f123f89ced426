-- How symbols get their numbers in the dynamic symbol table, one symbol after the other.
use Rattle.std.specs.Prelude.{◌≡◌, ℕ, ◌+◌, Bool, List, count_by, true}
use Rattle.std.specs.List.{enumerate_from}
use Rattle.lk_link.specs.declared.link.LinkInput.{LinkInput}
use Rattle.lk_link.specs.declared.symbol.InputSymbol.{InputSymbol}
use Rattle.lk_link.specs.Inputs.{NumberedFile}
use Rattle.lk_link.specs.OutputKinds.{is_loaded_dynamically}
use Rattle.lk_live.specs.declared.live.Live.{Live}
use Rattle.lk_reach.specs.Units.{numbered_symbols}
use Rattle.lk_tables.specs.declared.numbers.DynamicNumbers.{DynamicNumbers}
use Rattle.lk_tables.specs.Dynamic.{is_dynamic_symbol, is_export}
use Rattle.lk_tables.specs.OwnEntries.{symbols_before_it}

-- whether a symbol with its number and its file is a dynamic one, or an export
abbrev pub is_dynamic_one : LinkInput → Live → List Bool → ℕ × (NumberedFile × InputSymbol) → Bool
is_dynamic_one link live told r = is_dynamic_symbol link live told r.1.0 (r.0, r.1.1)

abbrev pub is_exported_one : Live → ℕ × (NumberedFile × InputSymbol) → Bool
is_exported_one live r = is_export live r.1.0 (r.0, r.1.1)

-- the next numbers at the symbol with number s, where a dynamic linker loads the output: behind the table's own entry and the dynamic
-- symbols before it; and behind all dynamic symbols and the exports before it
pub record AreNumbersAt (link : LinkInput) (live : Live) (told : List Bool) (s : ℕ) (numbers : DynamicNumbers) : Type 0 where
  pub dynamic : is_loaded_dynamically link.options.output ≡ true → numbers.dynamic ≡ 1 + count_by (is_dynamic_one link live told) (symbols_before_it link s)
  pub export : is_loaded_dynamically link.options.output ≡ true → numbers.export ≡ 1 + count_by (is_dynamic_one link live told) (enumerate_from 0 (numbered_symbols link.groups))
      + count_by (is_exported_one live) (symbols_before_it link s)
