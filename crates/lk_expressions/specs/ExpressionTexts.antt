-- How it is written that an expression has no value.
use Rattle.std.specs.Prelude.{ℕ, List, codes}
use Rattle.lk_expressions.specs.declared.no_value.NoValue.{NoValue}
use Rattle.lk_expressions.specs.declared.no_value.NoValue.TheVariants.{DivideByZero, Missing, NoAddress, Overflow, SelfReference}

-- a cause
abbrev pub cause_text : NoValue → List ℕ
cause_text Missing = codes "missing symbol"
cause_text NoAddress = codes "no address"
cause_text SelfReference = codes "self reference"
cause_text DivideByZero = codes "division by zero"
cause_text Overflow = codes "overflow"
