-- Laws of expressions: statements that functions of their own prove.
use Rattle.std.specs.Prelude.{◌≡◌, ℕ, true, List, Option, Some, length, slice_get, take}
use Rattle.lk_link.specs.declared.file.InputFile.{InputFile}
use Rattle.lk_link.specs.declared.symbol.InputSymbol.{InputSymbol}
use Rattle.lk_link.specs.Expressions.{Term}
use Rattle.lk_link.specs.SymbolRules.{file_symbols}
use Rattle.lk_link.specs.Symbols.{all_files, symbol_count}
use Rattle.lk_expressions.specs.declared.positions.SymbolPosition.{SymbolPosition}
use Rattle.lk_expressions.specs.Constants.{Before, constants_of, next_constant}
use Rattle.lk_expressions.specs.Expressions.{Valued, expression_value}
use Rattle.lk_expressions.specs.Named.{names_none}
use Rattle.lk_expressions.specs.Surroundings.{Early, Late, early_operand, late_operand}

-- each symbol has its place among the constants, and what stands there goes by those before it alone
pub record ConstantsGoByThoseBefore : Type 0 where
  pub count : (known : Before) → length (constants_of known) ≡ symbol_count (all_files known.groups)
  pub each : (known : Before) (s : ℕ) (f : InputFile) (x : InputSymbol) → slice_get (file_symbols (all_files known.groups)) s ≡ Some (f, x)
      → slice_get (constants_of known) s ≡ Some (next_constant known (take s (constants_of known)) f x)

-- an expression that names no symbol has one value, whatever is known of symbols: while sections are placed, by any constants and
-- positions, and when all is placed, by any values
pub record UnnamedReadNoSymbols : Type 0 where
  pub early : (known : Early) (groups : List (List InputFile)) (constants : List (Option Valued)) (positions : List (Option SymbolPosition)) (t : Term) → names_none t ≡ true
      → expression_value (early_operand (record known { groups = groups; constants = constants; positions = positions })) t ≡ expression_value (early_operand known) t
  pub late : (known : Late) (groups : List (List InputFile)) (own : ℕ) (values : ℕ → Option ℕ) (t : Term) → names_none t ≡ true
      → expression_value (late_operand (record known { groups = groups; own = own; values = values })) t ≡ expression_value (late_operand known) t
