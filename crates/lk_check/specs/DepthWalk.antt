-- The walk over an expression's tokens from back to front, by the depths at which expressions are still to come: words of private
-- contracts. That it tells how deep the expression is, is proved by lemmas.
use Rattle.std.specs.Prelude.{◌≡◌, ℕ, ◌+◌, ◌≤◌, ◌&&◌, Bool, true, List, [], ◌∷◌, Option, Some, None, length, nat_lt}
use Rattle.lk_link.specs.declared.expression.Token.{Token}
use Rattle.lk_link.specs.declared.expression.Token.TheVariants as token
use Rattle.lk_link.specs.declared.limits.TheConstants.{MOST_DEPTH}

-- whether the expressions that stand at these depths, the next one first, have no operand below the greatest depth
unfoldable pub are_shallow : List Token → List ℕ → Bool
are_shallow [] depths = true
are_shallow (t ∷ ts) [] = true
are_shallow (token.Operand o ∷ ts) (n ∷ depths) = are_shallow ts depths
are_shallow (token.Operator o ∷ ts) (n ∷ depths) = nat_lt n MOST_DEPTH && are_shallow ts ((n + 1) ∷ (n + 1) ∷ depths)

-- there are at most as many depths from each one on as that one says
unfoldable pub Rise : List ℕ → Type 0
Rise [] = Unit {0}
Rise (n ∷ depths) = (length depths + 1 ≤ n) × (n ≤ MOST_DEPTH) × Rise depths

-- what is on top of depths is taken, if there is anything
abbrev pub Pops : List ℕ → Option ℕ → List ℕ → Type 0
Pops old None new = (old ≡ []) × (new ≡ [])
Pops old (Some n) new = old ≡ n ∷ new
