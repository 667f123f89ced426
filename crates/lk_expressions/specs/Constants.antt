-- Redirects that are constants: what they are worth is known before anything is placed.
use Rattle.std.specs.Prelude.{ℕ, ◌==◌, ◌&&◌, ◌||◌, ◌++◌, All, Bool, if◌then◌else◌, List, [], ◌∷◌, Option, Some, None, Ok}
use Rattle.std.specs.Prelude.{fold, is_some, length, slice_get, unwrap_or}
use Rattle.lk_link.specs.declared.expression.Operand.{Operand}
use Rattle.lk_link.specs.declared.expression.Operand.TheVariants as operand
use Rattle.lk_link.specs.declared.file.InputFile.{InputFile}
use Rattle.lk_link.specs.declared.symbol.InputSymbol.{InputSymbol}
use Rattle.lk_link.specs.declared.symbol.SymbolPlacement.{SymbolPlacement}
use Rattle.lk_link.specs.declared.symbol.SymbolPlacement.TheVariants as at
use Rattle.lk_link.specs.ExpressionRules.{all_operands}
use Rattle.lk_link.specs.Expressions.{Term}
use Rattle.lk_link.specs.FileKinds.{is_prelude, is_script}
use Rattle.lk_link.specs.SymbolRules.{file_symbols}
use Rattle.lk_link.specs.Symbols.{all_files, definition_of, symbol_at}
use Rattle.lk_expressions.specs.Expressions.{IsShallow, Valued, expression_value}
use Rattle.lk_expressions.specs.Surroundings.{constant_value, flat, told}

-- what is known before anything is placed: the symbols, the headers, and the regions as origin and length
pub record Before : Type 0 where
  pub groups : List (List InputFile)
  pub headers : ℕ
  pub regions : List (ℕ × ℕ)

-- ---- operands

-- symbol d, which stands for itself, if it is a constant: a number, or a redirect among the constants so far
abbrev pub constant_symbol : List (Option Valued) → ℕ → SymbolPlacement → Option Valued
constant_symbol constants d (at.Absolute n) = Some (Ok n)
constant_symbol constants d (at.Redirect e l provide) = flat (slice_get constants d)
constant_symbol constants d _ = None

abbrev pub constant_placed : List (Option Valued) → ℕ → Option InputSymbol → Option Valued
constant_placed constants d None = None
constant_placed constants d (Some x) = constant_symbol constants d x.at

-- the same of what stands for a symbol
abbrev pub constant_definition : List (Option Valued) → List (List InputFile) → Option ℕ → Option Valued
constant_definition constants groups None = None
constant_definition constants groups (Some d) = constant_placed constants d (symbol_at groups d)

-- an operand, if it is a constant
abbrev pub constant_operand : Before → List (Option Valued) → Operand → Option Valued
constant_operand known constants (operand.Number n) = Some (Ok n)
constant_operand known constants (operand.Symbol s) = constant_definition constants known.groups (definition_of known.groups s)
constant_operand known constants operand.Dot = None
constant_operand known constants (operand.Address s) = None
constant_operand known constants (operand.SizeOf s) = None
constant_operand known constants (operand.Origin r) = Some (told (λ p. p.0) (slice_get known.regions r))
constant_operand known constants (operand.Length r) = Some (told (λ p. p.1) (slice_get known.regions r))
constant_operand known constants operand.SizeOfHeaders = Some (Ok known.headers)

-- ---- expressions

-- the value of an expression, which may be a cause, if all its operands are constants
abbrev pub constant_expression : Before → List (Option Valued) → Term → Option Valued
constant_expression known constants t =
    if all_operands (λ o. is_some (constant_operand known constants o)) t
    then Some (expression_value (λ o. constant_value (constant_operand known constants o)) t) else None

-- ---- redirects

-- whether redirects of a file can be constants
abbrev pub has_constants : InputFile → Bool
has_constants f = is_prelude f.kind || is_script f.kind

abbrev pub constant_redirect : Before → List (Option Valued) → SymbolPlacement → Option Valued
constant_redirect known constants (at.Redirect e l provide) = constant_expression known constants e
constant_redirect known constants _ = None

-- what the next symbol behind those so far is worth as a constant redirect: it has to stand for itself
abbrev pub next_constant : Before → List (Option Valued) → InputFile → InputSymbol → Option Valued
next_constant known constants f x = let s = length constants in
    if has_constants f && (unwrap_or x.def s == s) then constant_redirect known constants x.at else None

abbrev pub with_next : Before → List (Option Valued) → InputFile × InputSymbol → List (Option Valued)
with_next known constants p = constants ++ next_constant known constants p.0 p.1 ∷ []

-- what each symbol is worth that is a constant redirect, one after the other, each by those before it
abbrev pub constants_of : Before → List (Option Valued)
constants_of known = fold (with_next known) [] (file_symbols (all_files known.groups))

-- a redirect's expression isn't too deep
abbrev pub IsShallowPlacement : SymbolPlacement → Type 0
IsShallowPlacement (at.Redirect e l provide) = IsShallow e
IsShallowPlacement _ = Unit {0}

-- those of all redirects aren't
abbrev pub HasShallowRedirects : List (List InputFile) → Type 0
HasShallowRedirects groups = All (λ files. All (λ f. All (λ x. IsShallowPlacement x.at) f.symbols) files) groups
