-- The evaluation of tokens from front to back over a stack of numbers. Contracts of private functions speak of it; that it gives the
-- expression's value is proved by lemmas.
use Rattle.std.specs.Prelude.{◌≡◌, ℕ, ◌+◌, ◌-◌, ◌<◌, ◌≤◌, List, [], ◌∷◌, Option, Some, None, Result, Ok, Err}
use Rattle.std.specs.List.{slice_index_or}
use Rattle.lk_link.specs.declared.expression.Operand.{Operand}
use Rattle.lk_link.specs.declared.expression.Token.{Token}
use Rattle.lk_link.specs.declared.expression.Token.TheVariants as token
use Rattle.lk_link.specs.declared.limits.TheConstants.{MOST_DEPTH}
use Rattle.lk_expressions.specs.declared.no_value.NoValue.{NoValue}
use Rattle.lk_expressions.specs.Expressions.{Valued, ◌>>=◌, applied}

-- a number on top of others
abbrev pub on_top : List ℕ → ℕ → Result (List ℕ) NoValue
on_top stack n = Ok (n ∷ stack)

-- the stack behind a token, its top first
abbrev pub stepped : (Operand → Valued) → Token → List ℕ → Result (List ℕ) NoValue
stepped given (token.Operand o) stack = given o >>= on_top stack
stepped given (token.Operator o) (r ∷ l ∷ stack) = applied o l r >>= on_top stack
stepped given (token.Operator o) (r ∷ []) = Ok (r ∷ [])
stepped given (token.Operator o) [] = Ok []

-- the operand that tokens are, if they are one alone
abbrev pub alone : List Token → Option Operand
alone [] = None
alone (token.Operand o ∷ []) = Some o
alone (token.Operator o ∷ []) = None
alone (t ∷ u ∷ ts) = None

-- what a step answers, and the stack that it leaves
abbrev pub Steps : (Operand → Valued) → Token → List ℕ → Result (Unit {0}) NoValue → List ℕ → Type 0
Steps given t old (Ok done) new = stepped given t old ≡ Ok new
Steps given t old (Err cause) new = stepped given t old ≡ Err cause

-- what tokens leave on top of a stack
unfoldable pub run : (Operand → Valued) → List Token → List ℕ → Valued
run given [] stack = Ok (slice_index_or stack 0 0)
run given (t ∷ ts) stack = stepped given t stack >>= run given ts

-- a token finds room, or the two numbers that it takes, on a stack of this height
abbrev pub HasRoom : Token → ℕ → Type 0
HasRoom (token.Operand o) height = height < MOST_DEPTH
HasRoom (token.Operator o) height = (2 ≤ height) × (height ≤ MOST_DEPTH)

-- how high the stack is behind a token
abbrev pub height_behind : Token → ℕ → ℕ
height_behind (token.Operand o) height = height + 1
height_behind (token.Operator o) height = height - 1

-- so does each of some tokens, and they leave one number
unfoldable pub HaveRoom : List Token → ℕ → Type 0
HaveRoom [] height = height ≡ 1
HaveRoom (t ∷ ts) height = HasRoom t height × HaveRoom ts (height_behind t height)
