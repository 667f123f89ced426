-- Expressions inside others: how deep they nest, and what each is.
use Rattle.std.proofs.Common.{◌≡◌, ℕ, zero, suc, ◌<◌, ◌≤◌, List, ◌∷◌, [], ◌++◌, Option, Some, None, option_map, Result, Ok, Err, refl, ap, ◌∙◌, append_assoc, arith}
use Rattle.std.specs.List.{slice_get}
use Rattle.std.specs.Fmt.{decimal}
use Rattle.serde_json.specs.Data.{Data, null, boolean, number, string, array, object, Items, no_items, item, depth, items_depth}
use Rattle.serde_json.specs.Find.{at, get_item}
use Rattle.lk_link.specs.declared.expression.Operand.{Operand as Taken}
use Rattle.lk_link.specs.declared.expression.Operator.{Operator as Operation}
use Rattle.lk_link.specs.declared.expression.Token.{Token}
use Rattle.lk_link.specs.declared.expression.Token.TheVariants as token
use Rattle.lk_link.specs.Expressions.{Term, Leaf, Node, postfix}
use Rattle.lk_input.specs.declared.read.expression.ExpressionForm.{ExpressionForm}
use Rattle.lk_input.specs.declared.read.expression.OperandForm.{OperandForm}
use Rattle.lk_input.specs.declared.read.expression.ExpressionForm.TheVariants.{Operand, Operator}
use Rattle.lk_input.specs.ReadingSteps.{Path, ◌>>=◌, below, wanted, element, fixed_list, at_most, one_of}
use Rattle.lk_input.specs.ReadingExpressions.{expression_of, expressions_of, side_at, expression_from, operand_of, forms}

-- ---- how deep

-- an item nests no deeper than its list's items
item_depth : (ds : Items) (i : ℕ) (e : Data) → get_item i ds ≡ Some e → depth e ≤ items_depth ds
item_depth no_items i e h = absurd cc
item_depth (item d ds) zero e h = let same : d ≡ e = cc in omega (arith, ap depth same)
item_depth (item d ds) (suc i) e h = omega (arith, item_depth ds i e h)

-- what stands in a value nests less deep than it
pub depth-falls : (d : Data) (i : ℕ) (e : Data) → at i d ≡ Some e → depth e < depth d
depth-falls null i e h = absurd cc
depth-falls (boolean b) i e h = absurd cc
depth-falls (number n) i e h = absurd cc
depth-falls (string s) i e h = absurd cc
depth-falls (array ds) i e h = omega (arith, item_depth ds i e h)
depth-falls (object ms) i e h = absurd cc

-- ---- what each is

-- the item at an index, of all items as expressions
parts-get : (ds : Items) (i : ℕ) → slice_get (expressions_of ds) i ≡ option_map expression_of (get_item i ds)
unfolding expression_of
parts-get no_items i = refl
parts-get (item d ds) zero = refl
parts-get (item d ds) (suc i) = parts-get ds i

side_found : (i : ℕ) (o : Option Data) → below (decimal i) (wanted (option_map expression_of o) >>= λ part. part) ≡ below (decimal i) (wanted o >>= expression_of)
side_found i None = refl
side_found i (Some d) = refl

-- it is that item as an expression
side_at-is : (i : ℕ) (ds : Items) → side_at i (expressions_of ds) ≡ element expression_of i (array ds)
side_at-is i ds = ap (λ o. below (decimal i) (wanted o >>= λ part. part)) (parts-get ds i) ∙ side_found i (get_item i ds)

-- an expression of this form, by its items
abbrev pub expression_by : ExpressionForm → Data → Result Term Path
expression_by (Operand o) d = operand_of o d >>= λ x. Ok (Leaf x)
expression_by (Operator o) d = do
  left ← element expression_of 1 d
  right ← element expression_of 2 d
  _ ← at_most 3 d
  Ok (Node o left right)

from_items : (f : ExpressionForm) (ds : Items) → expression_from f (array ds) (expressions_of ds) ≡ expression_by f (array ds)
from_items (Operand o) ds = refl
from_items (Operator o) ds = rw (side_at-is 1 ds, side_at-is 2 ds)

form_then : (r : Result ExpressionForm Path) (ds : Items) → (r >>= λ f. expression_from f (array ds) (expressions_of ds)) ≡ (r >>= λ f. expression_by f (array ds))
form_then (Ok f) ds = from_items f ds
form_then (Err path) ds = refl

-- an expression, step by step
pub expression_of-steps : (d : Data) → expression_of d ≡ (fixed_list d >>= λ _. element (one_of forms) 0 d >>= λ f. expression_by f d)
unfolding expression_of
expression_of-steps null = refl
expression_of-steps (boolean b) = refl
expression_of-steps (number n) = refl
expression_of-steps (string s) = refl
expression_of-steps (array ds) = form_then (element (one_of forms) 0 (array ds)) ds
expression_of-steps (object ms) = refl

pub ruleset steps = (expression_of-steps)

-- an operand, which was read
pub expression_of-operand : (d : Data) (f : OperandForm) (x : Taken) → fixed_list d ≡ Ok tt → element (one_of forms) 0 d ≡ Ok (Operand f) → operand_of f d ≡ Ok x → expression_of d ≡ Ok (Leaf x)
expression_of-operand d f x is_list form read = expression_of-steps d ∙ rw (is_list, form, read)

-- one of two others, which were read
pub expression_of-operation : (d : Data) (o : Operation) (l r : Term) → fixed_list d ≡ Ok tt → element (one_of forms) 0 d ≡ Ok (Operator o) → element expression_of 1 d ≡ Ok l → element expression_of 2 d ≡ Ok r → at_most 3 d ≡ Ok tt → expression_of d ≡ Ok (Node o l r)
expression_of-operation d o l r is_list form left right all = expression_of-steps d ∙ rw (is_list, form, left, right, all)

-- behind what was there: the left tokens, the right ones, their operator
pub behind : (there : List Token) (l r : Term) (next after last : List Token) (o : Operation) → next ≡ there ++ postfix l → after ≡ next ++ postfix r → last ≡ after ++ token.Operator o ∷ [] → last ≡ there ++ postfix (Node o l r)
behind there l r next after last o p q s = s ∙ ap (λ x. x ++ token.Operator o ∷ []) (q ∙ ap (λ x. x ++ postfix r) p) ∙ simp append_assoc
