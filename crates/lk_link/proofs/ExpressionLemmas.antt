-- Expressions and their tokens.
use Rattle.std.proofs.Common.{◌≡◌, List, sym, ap, ◌∙◌}
use Rattle.lk_link.specs.declared.expression.Token.{Token}
use Rattle.lk_link.specs.Expressions.{Term, postfix, term_of, IsPostfix}
use Rattle.lk_link.specs.StoredExpressions.{term_of-postfix}

-- the tokens of an expression are those of one
pub are_postfix : (tokens : List Token) (t : Term) → tokens ≡ postfix t → IsPostfix tokens
are_postfix tokens t h = h ∙ ap (λ u. postfix u) (sym (term_of-postfix t) ∙ ap (λ ts. term_of ts) (sym h))

-- they give the expression
pub read_back : (tokens : List Token) (t : Term) → tokens ≡ postfix t → term_of tokens ≡ t
read_back tokens t h = ap (λ ts. term_of ts) h ∙ term_of-postfix t
