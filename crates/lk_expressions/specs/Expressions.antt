-- What expressions are worth, by what their operands are worth.
use Rattle.std.specs.Prelude.{ℕ, ◌+◌, ◌-◌, ◌*◌, ◌/◌, ◌^◌, ◌==◌, ◌≤◌, max, min, nat_le, nat_lt, if◌then◌else◌, Result, Ok, Err}
use Rattle.std.specs.Int.{next_multiple_of}
use Rattle.lk_link.specs.declared.expression.Operand.{Operand}
use Rattle.lk_link.specs.declared.expression.Operator.{Operator}
use Rattle.lk_link.specs.declared.expression.Operator.TheVariants.{Add, Align, Divide, Max, Min, Multiply, Subtract}
use Rattle.lk_link.specs.declared.limits.TheConstants.{MOST_DEPTH}
use Rattle.lk_link.specs.ExpressionRules.{depth}
use Rattle.lk_link.specs.Expressions.{Term, Leaf, Node}
use Rattle.lk_expressions.specs.declared.no_value.NoValue.{NoValue}
use Rattle.lk_expressions.specs.declared.no_value.NoValue.TheVariants.{DivideByZero, Overflow}

-- a number, or why there is none
abbrev pub Valued : Type 0
Valued = Result ℕ NoValue

-- what is made of what there is, unless it is refused
infixl 10 ◌>>=◌
abbrev pub ◌>>=◌ : {A B E : Type 0} → Result A E → (A → Result B E) → Result B E
(Ok x) >>= f = f x
(Err cause) >>= f = Err cause

-- a number, unless it passes 2^64 - 1
abbrev pub bounded : ℕ → Valued
bounded n = if nat_lt n (2 ^ 64) then Ok n else Err Overflow

-- a number that is made with a divisor, which isn't 0
abbrev pub divided_by : ℕ → Valued → Valued
divided_by b value = if b == 0 then Err DivideByZero else value

-- what an operator makes of two numbers
abbrev pub applied : Operator → ℕ → ℕ → Valued
applied Add a b = bounded (a + b)
applied Subtract a b = if nat_le b a then Ok (a - b) else Err Overflow
applied Multiply a b = bounded (a * b)
applied Divide a b = divided_by b (Ok (a / b))
applied Align a b = divided_by b (bounded (next_multiple_of a b))
applied Max a b = Ok (max a b)
applied Min a b = Ok (min a b)

-- the value of an expression, by those of its operands: left before right, and the first cause counts
unfoldable pub expression_value : (Operand → Valued) → Term → Valued
expression_value given (Leaf o) = given o
expression_value given (Node o l r) = do
  a ← expression_value given l
  b ← expression_value given r
  applied o a b

-- an expression that isn't too deep
abbrev pub IsShallow : Term → Type 0
IsShallow t = depth t ≤ MOST_DEPTH
