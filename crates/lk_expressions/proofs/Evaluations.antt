-- The evaluation of an expression's tokens gives its value, in the room that it needs.
use Rattle.std.proofs.Common.{◌≡◌, ◌∙◌, ap, arith, sym, refl, ℕ, ◌+◌, ◌≤◌, List, [], ◌∷◌, ◌++◌, ◌-◌, length, length-append, subst, Some}
use Rattle.std.specs.Prelude.{Result, Ok, Err}
use Rattle.std.proofs.Math.Nat.{le-max_left, le-max_right}
use Rattle.std.proofs.lemmas.List.{append_assoc, append-nil}
use Rattle.lk_link.specs.declared.expression.Operand.{Operand}
use Rattle.lk_link.specs.declared.expression.Operator.{Operator}
use Rattle.lk_link.specs.declared.expression.Token.{Token}
use Rattle.lk_link.specs.declared.expression.Token.TheVariants as token
use Rattle.lk_link.specs.ExpressionRules.{depth}
use Rattle.lk_link.specs.Expressions.{Term, Leaf, Node, postfix}
use Rattle.lk_link.specs.declared.limits.TheConstants.{MOST_DEPTH}
use Rattle.lk_expressions.specs.declared.no_value.NoValue.{NoValue}
use Rattle.lk_expressions.specs.Evaluation.{HasRoom, alone, HaveRoom, height_behind, on_top, run, stepped}
use Rattle.lk_expressions.specs.Expressions.{IsShallow, Valued, ◌>>=◌, applied, expression_value}

-- steps that follow each other can be grouped
grouped : {A B C : Type 0} (x : Result A NoValue) (f : A → Result B NoValue) (g : B → Result C NoValue)
    → ((x >>= f) >>= g) ≡ (x >>= (λ a. f a >>= g))
grouped (Ok x) f g = refl
grouped (Err cause) f g = refl

-- the same of what is equal for each number
same_behind : {A B : Type 0} (x : Result A NoValue) (f g : A → Result B NoValue) → ((a : A) → f a ≡ g a) → (x >>= f) ≡ (x >>= g)
same_behind (Ok x) f g h = h x
same_behind (Err cause) f g h = refl

-- the tokens of a node, apart
node_tokens : (o : Operator) (l r : Term) (ts : List Token)
    → postfix (Node o l r) ++ ts ≡ postfix l ++ (postfix r ++ (token.Operator o ∷ ts))
node_tokens o l r ts =
    let own : List Token = token.Operator o ∷ [] in
    append_assoc (postfix l ++ postfix r) own ts ∙ append_assoc (postfix l) (postfix r) (own ++ ts)

-- the tokens of an expression put its value on top
run_postfix : (given : Operand → Valued) (t : Term) (ts : List Token) (stack : List ℕ)
    → run given (postfix t ++ ts) stack ≡ (expression_value given t >>= (λ v. run given ts (v ∷ stack)))
unfolding expression_value run
run_postfix given (Leaf o) ts stack = grouped (given o) (on_top stack) (run given ts)
run_postfix given (Node o l r) ts stack =
    let lv : Valued = expression_value given l in
    let rv : Valued = expression_value given r in
    let behind : ℕ → Valued = λ v. run given ts (v ∷ stack) in
    ap (λ us. run given us stack) (node_tokens o l r ts)
    ∙ run_postfix given l (postfix r ++ (token.Operator o ∷ ts)) stack
    ∙ same_behind lv _ (λ a. (rv >>= (λ b. applied o a b)) >>= behind)
    (λ a. run_postfix given r (token.Operator o ∷ ts) (a ∷ stack)
    ∙ same_behind rv _ (λ b. applied o a b >>= behind) (λ b. grouped (applied o a b) (on_top stack) (run given ts))
    ∙ sym (grouped rv (λ b. applied o a b) behind))
    ∙ sym (grouped lv (λ a. rv >>= (λ b. applied o a b)) behind)

-- a number that is only told is that number
as_it_is : (given : Operand → Valued) (x : Valued) → (x >>= (λ v. run given [] (v ∷ []))) ≡ x
unfolding run
as_it_is given (Ok v) = refl
as_it_is given (Err cause) = refl

-- all tokens of an expression give its value
pub run_all : (given : Operand → Valued) (t : Term) → run given (postfix t) [] ≡ expression_value given t
run_all given t =
    ap (λ us. run given us []) (sym (append-nil (postfix t))) ∙ run_postfix given t [] [] ∙ as_it_is given (expression_value given t)

-- an expression is 1 deep at least
deep : (t : Term) → 1 ≤ depth t
unfolding depth
deep (Leaf o) = omega arith
deep (Node o l r) = omega arith

-- the tokens of an expression that isn't deeper than the room find room
room_for : (t : Term) (ts : List Token) (height : ℕ) → height + depth t ≤ MOST_DEPTH → HaveRoom ts (height + 1)
    → HaveRoom (postfix t ++ ts) height
unfolding depth HaveRoom
room_for (Leaf o) ts height fits rest = (omega arith, rest)
room_for (Node o l r) ts height fits rest =
    let left : height + depth l ≤ MOST_DEPTH = omega (arith, le-max_left (depth l) (depth r)) in
    let right : height + 1 + depth r ≤ MOST_DEPTH = omega (arith, le-max_right (depth l) (depth r)) in
    let above : 1 ≤ depth r = deep r in
    let same : height + 1 ≡ height + 1 + 1 - 1 = omega arith in
    let own : HasRoom (token.Operator o) (height + 1 + 1) = (omega arith, omega arith) in
    subst (λ (us : List Token). HaveRoom us height) (sym (node_tokens o l r ts))
    (room_for l (postfix r ++ (token.Operator o ∷ ts)) height left
    (room_for r (token.Operator o ∷ ts) (height + 1) right (own, subst (λ (n : ℕ). HaveRoom ts n) same rest)))

-- so do all tokens of one
pub room_for_all : (t : Term) → IsShallow t → HaveRoom (postfix t) 0
unfolding HaveRoom
room_for_all t shallow =
    let fits : 0 + depth t ≤ MOST_DEPTH = omega (arith, shallow) in
    subst (λ (us : List Token). HaveRoom us 0) (append-nil (postfix t)) (room_for t [] 0 fits refl)

-- a number on top makes the stack higher by one
higher : (x : Valued) (stack next : List ℕ) → (x >>= on_top stack) ≡ Ok next → length next ≡ length stack + 1
higher (Ok n) stack next h = let e : n ∷ stack ≡ next = cc in omega (arith, ap length e)
higher (Err cause) stack next h = absurd (cc)

-- how high the stack is behind a step
pub stepped_height : (given : Operand → Valued) (t : Token) (stack next : List ℕ) → HasRoom t (length stack)
    → stepped given t stack ≡ Ok next → length next ≡ height_behind t (length stack)
stepped_height given (token.Operand o) stack next room h = higher (given o) stack next h
stepped_height given (token.Operator o) (r ∷ l ∷ stack) next room h = omega (arith, higher (applied o l r) stack next h)
stepped_height given (token.Operator o) (r ∷ []) next room h = absurd (omega (arith, room.0))
stepped_height given (token.Operator o) [] next room h = absurd (omega (arith, room.0))

-- ---- an operand alone

-- an expression has tokens
some_tokens : (t : Term) → 1 ≤ length (postfix t)
some_tokens (Leaf o) = omega arith
some_tokens (Node o l r) = omega (arith, length-append (postfix l ++ postfix r) (token.Operator o ∷ []))

alone_is : (ts : List Token) (o : Operand) → alone ts ≡ Some o → ts ≡ token.Operand o ∷ []
alone_is [] o h = absurd (cc)
alone_is (token.Operand p ∷ []) o h = let same : p ≡ o = cc in ap (λ (q : Operand). token.Operand q ∷ []) same
alone_is (token.Operator p ∷ []) o h = absurd (cc)
alone_is (t ∷ u ∷ ts) o h = absurd (cc)

-- its value is what it is worth
pub operand_alone : (given : Operand → Valued) (t : Term) (o : Operand) → alone (postfix t) ≡ Some o → given o ≡ expression_value given t
unfolding expression_value
operand_alone given (Leaf p) o h = let same : o ≡ p = cc in ap given same
operand_alone given (Node n l r) o h =
    absurd (omega (
      arith,
      ap length (alone_is (postfix (Node n l r)) o h),
      length-append (postfix l ++ postfix r) (token.Operator n ∷ []),
      length-append (postfix l) (postfix r),
      some_tokens l,
      some_tokens r,
    ))

-- what the walk over an expression's tokens goes by
pub ruleset evaluating = (run_all, room_for_all, stepped_height)
