-- How expressions are told apart (a term is stored as its tokens, and a token as its place among all kinds and its number): the words of a model.
use Rattle.std.specs.Prelude.{◌≡◌, ℕ, List, [], ◌∷◌, ◌++◌, refl}
use Rattle.std.specs.Coded.{Coded, code_by, coded×, coded_ℕ, coded_list}
use Rattle.std.specs.List.{slice_index_or}
use Rattle.std.proofs.Common.{ap, sym, ◌∙◌}
use Rattle.std.proofs.lemmas.List.{append_assoc, append-nil}
use Rattle.lk_link.specs.declared.expression.Operand.TheVariants as operand
use Rattle.lk_link.specs.declared.expression.Operator.TheVariants as operator
use Rattle.lk_link.specs.declared.expression.Token.{Token}
use Rattle.lk_link.specs.declared.expression.Token.TheVariants as token
use Rattle.lk_link.specs.Expressions.{Term, Leaf, Node, number, postfix, stack_of, term_of}

abbrev all_tokens : ℕ → List Token
all_tokens n =
    token.Operand (operand.Number n) ∷ token.Operand (operand.Symbol n) ∷ token.Operand operand.Dot
    ∷ token.Operand (operand.Address n) ∷ token.Operand (operand.SizeOf n) ∷ token.Operand (operand.Origin n)
    ∷ token.Operand (operand.Length n) ∷ token.Operand operand.SizeOfHeaders
    ∷ token.Operator operator.Add ∷ token.Operator operator.Subtract ∷ token.Operator operator.Multiply
    ∷ token.Operator operator.Divide ∷ token.Operator operator.Align ∷ token.Operator operator.Max ∷ token.Operator operator.Min ∷ []

abbrev place_of : Token → ℕ × ℕ
place_of (token.Operand (operand.Number n)) = (0, n)
place_of (token.Operand (operand.Symbol n)) = (1, n)
place_of (token.Operand operand.Dot) = (2, 0)
place_of (token.Operand (operand.Address n)) = (3, n)
place_of (token.Operand (operand.SizeOf n)) = (4, n)
place_of (token.Operand (operand.Origin n)) = (5, n)
place_of (token.Operand (operand.Length n)) = (6, n)
place_of (token.Operand operand.SizeOfHeaders) = (7, 0)
place_of (token.Operator operator.Add) = (8, 0)
place_of (token.Operator operator.Subtract) = (9, 0)
place_of (token.Operator operator.Multiply) = (10, 0)
place_of (token.Operator operator.Divide) = (11, 0)
place_of (token.Operator operator.Align) = (12, 0)
place_of (token.Operator operator.Max) = (13, 0)
place_of (token.Operator operator.Min) = (14, 0)

abbrev token_at : ℕ × ℕ → Token
token_at p = slice_index_or (all_tokens p.1) p.0 (token.Operand operand.Dot)

pub token_back : (t : Token) → token_at (place_of t) ≡ t
token_back (token.Operand (operand.Number n)) = refl
token_back (token.Operand (operand.Symbol n)) = refl
token_back (token.Operand operand.Dot) = refl
token_back (token.Operand (operand.Address n)) = refl
token_back (token.Operand (operand.SizeOf n)) = refl
token_back (token.Operand (operand.Origin n)) = refl
token_back (token.Operand (operand.Length n)) = refl
token_back (token.Operand operand.SizeOfHeaders) = refl
token_back (token.Operator operator.Add) = refl
token_back (token.Operator operator.Subtract) = refl
token_back (token.Operator operator.Multiply) = refl
token_back (token.Operator operator.Divide) = refl
token_back (token.Operator operator.Align) = refl
token_back (token.Operator operator.Max) = refl
token_back (token.Operator operator.Min) = refl

abbrev pub token_code : Coded Token
token_code = code_by (ℕ × ℕ) (coded× coded_ℕ coded_ℕ) place_of token_at token_back

-- the tokens of an expression put it on the stack
pub stack_of-postfix : (t : Term) (ts : List Token) (stack : List Term) → stack_of (postfix t ++ ts) stack ≡ stack_of ts (t ∷ stack)
stack_of-postfix (Leaf o) ts stack = refl
stack_of-postfix (Node o l r) ts stack =
    let own = token.Operator o ∷ [] in
    ap (λ us. stack_of us stack) (append_assoc (postfix l ++ postfix r) own ts ∙ append_assoc (postfix l) (postfix r) (own ++ ts))
    ∙ stack_of-postfix l (postfix r ++ (own ++ ts)) stack
    ∙ stack_of-postfix r (own ++ ts) (l ∷ stack)

-- the tokens of an expression give it back
pub term_of-postfix : (t : Term) → term_of (postfix t) ≡ t
term_of-postfix t =
    ap (λ us. term_of us) (sym (append-nil (postfix t))) ∙ ap (λ ss. slice_index_or ss 0 (number 0)) (stack_of-postfix t [] [])

abbrev pub term_code : Coded Term
term_code = code_by (List Token) (coded_list token_code) postfix term_of term_of-postfix
