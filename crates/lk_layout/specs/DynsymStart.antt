-- How many entries of the dynamic symbol table stand before the exports.
use Rattle.std.specs.Prelude.{ℕ, ◌+◌, count_by, if◌then◌else◌}
use Rattle.std.specs.List.{enumerate_from}
use Rattle.lk_link.specs.declared.link.LinkInput.{LinkInput}
use Rattle.lk_link.specs.OutputKinds.{is_loaded_dynamically}
use Rattle.lk_reach.specs.Units.{numbered_symbols}
use Rattle.lk_tables.specs.declared.numbers.DynamicNumbers.{DynamicNumbers}
use Rattle.lk_tables.specs.DynamicCounters.{is_dynamic_one}
use Rattle.lk_sizes.specs.Emitted.{told_marks}
use Rattle.lk_sizes.specs.Owners.{Content}

-- the table's own entry and the dynamic symbols, late marks included; there is none where no dynamic linker loads the output
abbrev pub dynsym_start : Content → ℕ
dynsym_start content =
    if is_loaded_dynamically content.link.options.output
    then 1 + count_by (is_dynamic_one content.link content.live (told_marks content)) (enumerate_from 0 (numbered_symbols content.link.groups)) else 0

-- the number of the first export, by the numbers at the first symbol, where there are exports
abbrev pub first_export : LinkInput → DynamicNumbers → ℕ
first_export link numbers = if is_loaded_dynamically link.options.output then numbers.export else 0
