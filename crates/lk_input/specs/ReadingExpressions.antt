-- What is read of an expression.
use Rattle.std.specs.Prelude.{◌≡◌, ℕ, List, [], ◌∷◌, ◌++◌, Result, Ok, Err, ⊤, slice_get}
use Rattle.std.specs.Fmt.{decimal}
use Rattle.serde_json.specs.Data.{Data, array, Items, no_items, item}
use Rattle.lk_link.specs.declared.expression.Operand.{Operand}
use Rattle.lk_link.specs.declared.expression.Operand.TheVariants as is
use Rattle.lk_link.specs.declared.expression.Operator.TheVariants as operator
use Rattle.lk_link.specs.declared.expression.Token.{Token}
use Rattle.lk_link.specs.Expressions.{Term, Leaf, Node, postfix}
use Rattle.lk_input.specs.declared.read.error.InputError.{InputError}
use Rattle.lk_input.specs.declared.read.expression.OperandForm.{OperandForm}
use Rattle.lk_input.specs.declared.read.expression.OperandForm.TheVariants as operand
use Rattle.lk_input.specs.declared.read.expression.ExpressionForm.{ExpressionForm}
use Rattle.lk_input.specs.declared.read.expression.ExpressionForm.TheVariants as form
use Rattle.lk_input.specs.ReadingSteps.{Path, ◌>>=◌, Fails, below, wanted, number_of, index_of, one_of, element, at_most, alone, single, written}

-- what an expression can begin with
abbrev pub forms : List (List ℕ × ExpressionForm)
forms =
    (written "num", form.Operand operand.Number) ∷ (written "sym", form.Operand operand.Symbol) ∷
    (written "dot", form.Operand operand.Dot) ∷ (written "add", form.Operator operator.Add) ∷
    (written "sub", form.Operator operator.Subtract) ∷ (written "mul", form.Operator operator.Multiply) ∷
    (written "div", form.Operator operator.Divide) ∷ (written "align", form.Operator operator.Align) ∷
    (written "max", form.Operator operator.Max) ∷ (written "min", form.Operator operator.Min) ∷
    (written "addr", form.Operand operand.Address) ∷ (written "sizeof", form.Operand operand.SizeOf) ∷
    (written "origin", form.Operand operand.Origin) ∷ (written "length", form.Operand operand.Length) ∷
    (written "headers", form.Operand operand.Headers) ∷ []

-- the operand that an expression of this form is
unfoldable pub operand_of : OperandForm → Data → Result Operand Path
operand_of operand.Number d = single number_of d >>= λ n. Ok (is.Number n)
operand_of operand.Symbol d = single index_of d >>= λ i. Ok (is.Symbol i)
operand_of operand.Dot d = alone is.Dot d
operand_of operand.Address d = single index_of d >>= λ i. Ok (is.Address i)
operand_of operand.SizeOf d = single index_of d >>= λ i. Ok (is.SizeOf i)
operand_of operand.Origin d = single index_of d >>= λ i. Ok (is.Origin i)
operand_of operand.Length d = single index_of d >>= λ i. Ok (is.Length i)
operand_of operand.Headers d = alone is.SizeOfHeaders d

-- what the item at an index is as an expression, of all items as expressions
abbrev pub side_at : ℕ → List (Result Term Path) → Result Term Path
side_at i parts = below (decimal i) (wanted (slice_get parts i) >>= λ part. part)

-- an expression of this form: an operand, or an operator with a left expression and a right one
abbrev pub expression_from : ExpressionForm → Data → List (Result Term Path) → Result Term Path
expression_from (form.Operand o) d parts = operand_of o d >>= λ x. Ok (Leaf x)
expression_from (form.Operator o) d parts = do
  left ← side_at 1 parts
  right ← side_at 2 parts
  _ ← at_most 3 d
  Ok (Node o left right)

unfoldable mutual
  -- an expression
  pub expression_of : Data → Result Term Path
  expression_of (array ds) = element (one_of forms) 0 (array ds) >>= λ f. expression_from f (array ds) (expressions_of ds)
  expression_of _ = Err []

  -- each item as an expression
  pub expressions_of : Items → List (Result Term Path)
  expressions_of no_items = []
  expressions_of (item d ds) = expression_of d ∷ expressions_of ds

-- ---- what the code keeps

-- the tokens of the expression that was read stand behind what was there, unless memory ran out
abbrev pub AddsTokens : List Token → List Token → Result ⊤ InputError → Result Term Path → Type 0
AddsTokens old new (Ok _) read = (t : Term) × (read ≡ Ok t) × (new ≡ old ++ postfix t)
AddsTokens old new (Err e) read = Fails e read
