-- Expressions: trees of operands and operators, which the code keeps as lists in postfix order.
use Rattle.std.specs.Prelude.{◌≡◌, ℕ, List, [], ◌∷◌, ◌++◌, Option, Some, None}
use Rattle.std.specs.List.{slice_index_or}
use Rattle.lk_link.specs.declared.expression.Operand.{Operand}
use Rattle.lk_link.specs.declared.expression.Operand.TheVariants as operand
use Rattle.lk_link.specs.declared.expression.Operator.{Operator}
use Rattle.lk_link.specs.declared.expression.Token.{Token}
use Rattle.lk_link.specs.declared.expression.Token.TheVariants as token

-- an operand, or an operator with a left and a right expression (libwild: `Expression`)
pub data Term : Type 0 where
  Leaf : Operand → Term
  Node : Operator → Term → Term → Term

-- the expression of a number
abbrev pub number : ℕ → Term
number n = Leaf (operand.Number n)

-- the number that an expression is; none where it is another expression
abbrev pub as_number : Term → Option ℕ
as_number (Leaf (operand.Number n)) = Some n
as_number _ = None

-- the tokens of an expression: an operand, or those of the left one, of the right one, and the operator
abbrev pub postfix : Term → List Token
postfix (Leaf o) = token.Operand o ∷ []
postfix (Node o l r) = postfix l ++ postfix r ++ token.Operator o ∷ []

-- ---- back to the tree

-- an operand is put on a stack of expressions; an operator takes the upper two, and puts theirs there
abbrev pub stacked : Token → List Term → List Term
stacked (token.Operand o) stack = Leaf o ∷ stack
stacked (token.Operator o) (r ∷ l ∷ stack) = Node o l r ∷ stack
stacked (token.Operator o) stack = stack

abbrev pub stack_of : List Token → List Term → List Term
stack_of [] stack = stack
stack_of (t ∷ ts) stack = stack_of ts (stacked t stack)

-- what is on top at the end: the expression that the tokens are the postfix order of
abbrev pub term_of : List Token → Term
term_of tokens = slice_index_or (stack_of tokens []) 0 (number 0)

-- tokens are those of some expression
abbrev pub IsPostfix : List Token → Type 0
IsPostfix tokens = tokens ≡ postfix (term_of tokens)
