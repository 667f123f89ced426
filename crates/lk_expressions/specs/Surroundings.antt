-- What operands are worth: to constants, while sections are placed, and when all is placed.
use Rattle.std.specs.Prelude.{ℕ, ◌+◌, ◌==◌, if◌then◌else◌, List, Option, Some, None, Ok, Err, slice_get}
use Rattle.lk_link.specs.declared.expression.Operand.{Operand}
use Rattle.lk_link.specs.declared.expression.Operand.TheVariants as operand
use Rattle.lk_link.specs.declared.file.InputFile.{InputFile}
use Rattle.lk_link.specs.declared.symbol.InputSymbol.{InputSymbol}
use Rattle.lk_link.specs.declared.symbol.SymbolPlacement.{SymbolPlacement}
use Rattle.lk_link.specs.declared.symbol.SymbolPlacement.TheVariants as at
use Rattle.lk_link.specs.SymbolPlacements.{is_undefined}
use Rattle.lk_link.specs.Symbols.{definition_of, symbol_at}
use Rattle.lk_expressions.specs.declared.no_value.NoValue.TheVariants.{Missing, NoAddress, SelfReference}
use Rattle.lk_expressions.specs.declared.positions.SymbolPosition.{SymbolPosition}
use Rattle.lk_expressions.specs.Expressions.{Valued, bounded}
use Rattle.lk_expressions.specs.Records.{Record}

-- ---- numbers alone

-- an operand where nothing has an address
abbrev pub number_alone : Operand → Valued
number_alone (operand.Number n) = Ok n
number_alone _ = Err NoAddress

-- ---- what is known of a list's items

-- an item that may be unknown, of a list in which it may be missing
abbrev pub flat : {A : Type 0} → Option (Option A) → Option A
flat None = None
flat (Some x) = x

-- a number of what is known; of nothing there is no address
abbrev pub told : {A : Type 0} → (A → ℕ) → Option A → Valued
told f None = Err NoAddress
told f (Some x) = Ok (f x)

-- ---- symbols

-- what f makes of a symbol that stands for itself, unless there is no such symbol, or it isn't defined
abbrev pub defined : (SymbolPlacement → Valued) → Option InputSymbol → Valued
defined f None = Err Missing
defined f (Some x) = if is_undefined x.at then Err Missing else f x.at

-- what f makes of the symbol that stands for another, by its number and its placement
abbrev pub by_definition : (ℕ → SymbolPlacement → Valued) → List (List InputFile) → Option ℕ → Valued
by_definition f groups None = Err Missing
by_definition f groups (Some d) = defined (f d) (symbol_at groups d)

-- the value of a symbol, of which f makes something by what stands for it
abbrev pub symbol_value : (ℕ → SymbolPlacement → Valued) → List (List InputFile) → ℕ → Valued
symbol_value f groups s = by_definition f groups (definition_of groups s)

-- ---- while sections are placed

-- what is known then: regions as origin and length; constants and positions by symbol; and records of sections and parts by their
-- numbers, of which what isn't placed yet has none
pub record Early : Type 0 where
  pub groups : List (List InputFile)
  pub dot : ℕ
  pub headers : ℕ
  pub regions : List (ℕ × ℕ)
  pub constants : List (Option Valued)
  pub section : ℕ → Option Record
  pub part : ℕ → Option Record
  pub positions : List (Option SymbolPosition)

-- so far behind where a part starts, if the part is placed
abbrev pub offset_behind : ℕ → Option Record → Valued
offset_behind offset None = Err NoAddress
offset_behind offset (Some r) = bounded (r.mem_offset + offset)

-- the address of a place in a part
abbrev pub address_of : (ℕ → Option Record) → Option SymbolPosition → Valued
address_of part None = Err NoAddress
address_of part (Some p) = offset_behind p.offset (part p.part)

-- the value of a constant, which may be a cause
abbrev pub constant_value : Option Valued → Valued
constant_value None = Err NoAddress
constant_value (Some value) = value

-- symbol d, which stands for itself: a number, a place in a placed part, or a constant redirect
abbrev pub early_symbol : Early → ℕ → SymbolPlacement → Valued
early_symbol known d (at.Absolute n) = Ok n
early_symbol known d (at.Section i offset) = address_of known.part (flat (slice_get known.positions d))
early_symbol known d (at.Redirect e l provide) = constant_value (flat (slice_get known.constants d))
early_symbol known d _ = Err NoAddress

-- an operand while sections are placed (libwild: `evaluate_early_expression`)
abbrev pub early_operand : Early → Operand → Valued
early_operand known (operand.Number n) = Ok n
early_operand known (operand.Symbol s) = symbol_value (early_symbol known) known.groups s
early_operand known operand.Dot = Ok known.dot
early_operand known (operand.Address s) = told (λ r. r.mem_offset) (known.section s)
early_operand known (operand.SizeOf s) = told (λ r. r.mem_size) (known.section s)
early_operand known (operand.Origin r) = told (λ p. p.0) (slice_get known.regions r)
early_operand known (operand.Length r) = told (λ p. p.1) (slice_get known.regions r)
early_operand known operand.SizeOfHeaders = Ok known.headers

-- ---- when all is placed

-- what is known then: the redirect whose expression it is; where the location counter is, if it is anywhere; and of symbols the values
-- that they have so far
pub record Late : Type 0 where
  pub groups : List (List InputFile)
  pub own : ℕ
  pub dot : Option ℕ
  pub headers : ℕ
  pub regions : List (ℕ × ℕ)
  pub sections : List Record
  pub values : ℕ → Option ℕ

-- symbol d, which stands for itself and is defined: not the redirect itself, but one that has a value
abbrev pub late_symbol : Late → ℕ → Valued
late_symbol known d = if d == known.own then Err SelfReference else told (λ v. v) (known.values d)

-- an operand when all is placed
abbrev pub late_operand : Late → Operand → Valued
late_operand known (operand.Number n) = Ok n
late_operand known (operand.Symbol s) = symbol_value (λ d p. late_symbol known d) known.groups s
late_operand known operand.Dot = told (λ v. v) known.dot
late_operand known (operand.Address s) = told (λ r. r.mem_offset) (slice_get known.sections s)
late_operand known (operand.SizeOf s) = told (λ r. r.mem_size) (slice_get known.sections s)
late_operand known (operand.Origin r) = told (λ p. p.0) (slice_get known.regions r)
late_operand known (operand.Length r) = told (λ p. p.1) (slice_get known.regions r)
late_operand known operand.SizeOfHeaders = Ok known.headers
