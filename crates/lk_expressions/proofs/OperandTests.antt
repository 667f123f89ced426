-- Tests of operands and of tokens.
use Rattle.std.proofs.Common.{◌≡◌, ◌∙◌, refl, Bool, true, false, [], ◌∷◌, ◌++◌}
use Rattle.std.specs.Prelude.{◌&&◌}
use Rattle.std.specs.List.{list_all}
use Rattle.std.proofs.lemmas.List.Folds.{list_all-append}
use Rattle.lk_link.specs.declared.expression.Operand.{Operand}
use Rattle.lk_link.specs.declared.expression.Token.{Token}
use Rattle.lk_link.specs.declared.expression.Token.TheVariants as token
use Rattle.lk_link.specs.Expressions.{Term, Leaf, Node, postfix}
use Rattle.lk_link.specs.ExpressionRules.{all_operands, operand_passes}

with_true : (b : Bool) → (b && true) ≡ b
with_true true = refl
with_true false = refl

both : (a b c d : Bool) → a ≡ b → c ≡ d → (a && c) ≡ (b && d)
both a b c d h k = cc

-- all operands of an expression pass a test where all its tokens do
pub all_tokens : (test : Operand → Bool) (t : Term) → list_all (operand_passes test) (postfix t) ≡ all_operands test t
unfolding all_operands
all_tokens test (Leaf o) = with_true (test o)
all_tokens test (Node o l r) =
    let p : Token → Bool = operand_passes test in
    list_all-append p (postfix l ++ postfix r) (token.Operator o ∷ [])
    ∙ with_true (list_all p (postfix l ++ postfix r))
    ∙ list_all-append p (postfix l) (postfix r)
    ∙ both (list_all p (postfix l)) (all_operands test l) (list_all p (postfix r)) (all_operands test r)
    (all_tokens test l) (all_tokens test r)
